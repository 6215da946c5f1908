use Rattle.std.proofs.Common.{◌≡◌, ℕ, length, reverse, None, List, [], ◌∷◌, ◌++◌, ◌∙◌, sym, ap, subst, append_assoc}
use Rattle.packet_runs.specs.Stages.{StepBlamed}
use Rattle.program_follower.specs.Faults.{network_fault}
use Rattle.program_follower.specs.Purposes.{writing_cues}
use Rattle.ts_packet.proofs.RunLemmas.{reverse-onto}
use Rattle.injector.specs.Steps.{cued, sent_at}
use Rattle.chain_engine.specs.Judging.{ServiceJudges}
use Rattle.chain_engine.specs.Runs.{reply_in, sent_by, steps_before, Exchanged}
use Rattle.chain_engine.specs.Stages.{InjectsFor}
use Rattle.chain_engine.proofs.PassingLemmas.{injects-one}
use Rattle.chain_engine.proofs.RunLemmas.{heard, passed}
use Rattle.chain_engine.proofs.StageLemmas.{run_of, fails_so, inject_step_fails, stage_blamed}
use Rattle.chain_engine.proofs.StepsLemmas.{before_packets}
use Rattle.chain_engine.proofs.inject.InjectorStageStage.step.Goals as goal

pub returns-in-Ok-clause-ok : goal.returns-in-Ok-clause-ok
returns-in-Ok-clause-ok g c = λ first ps qs start before s held.
    let d = first.chain.now.service.config in
    let p = c.args.packet.now in
    let old = c.args.self.now.chain.now in
    let heard_service = c.hear.new.self.service in
    let service = record heard_service { injector = c.feed.new.self } in
    let exchanged = Exchanged g.U.Automation.exchanges g.U.Automation.failures first.automation.now c.hear.new.automation in
    let before_packet = heard g.U.Automation.exchanges g.met.U.Automation.exchanges_refl g.met.U.Automation.exchanges_trans g.U.Automation.failures ServiceJudges (InjectsFor d) (reply_in d) (injects-one d)
    (λ steps. sent_by d steps ≡ qs) (λ m past o. o) ps first.automation.now c.args.self.now.automation.now c.hear.new.automation old.service heard_service old.talk c.hear.new.self.talk s.run
    c.hear.ensures.talk c.hear.ensures.closed c.hear.ensures.failures in
    let now = passed (InjectsFor d) (reply_in d) exchanged ps heard_service service c.hear.new.self.talk (λ steps. sent_by d steps ≡ qs)
    (λ steps. g.K.PacketSink.holds c.feed.new.sink start (before ++ sent_by d steps)) p before_packet (λ steps e st o. (
      c.in-Ok.ensures.stands d steps st,
      subst (g.K.PacketSink.holds c.feed.new.sink start)
          (append_assoc before qs (sent_at d p steps) ∙ ap (λ l. before ++ (l ++ sent_at d p steps)) (sym o) ∙ ap (λ l. before ++ l) (sym (reverse-onto (cued d steps) (sent_at d p steps))))
          (c.in-Ok.ensures.ok start (before ++ qs) d steps held st),
    )) in
    let (sent, run', out) = run_of (InjectsFor d) (reply_in d) exchanged (ps ++ p ∷ []) service c.hear.new.self.talk (sent_by d) (λ l. g.K.PacketSink.holds c.feed.new.sink start (before ++ l)) now in
    record {
      sent = sent;
      sound = subst (λ q. network_fault (writing_cues d) p q ≡ None) (before_packets _ before_packet.ts _) (c.in-Ok.ensures.sound d _ before_packet.gone);
      sends_it = record { begins = s.begins; run = run' };
      out = out;
    }

pub returns-in-Err-clause-err : goal.returns-in-Err-clause-err
returns-in-Err-clause-err g c = λ first ps qs start before s held.
    let d = first.chain.now.service.config in
    let p = c.args.packet.now in
    let old = c.args.self.now.chain.now in
    let before_packet = heard g.U.Automation.exchanges g.met.U.Automation.exchanges_refl g.met.U.Automation.exchanges_trans g.U.Automation.failures ServiceJudges (InjectsFor d) (reply_in d) (injects-one d)
    (λ steps. sent_by d steps ≡ qs) (λ m past o. o) ps first.automation.now c.args.self.now.automation.now c.hear.new.automation old.service c.hear.new.self.service old.talk c.hear.new.self.talk s.run
    c.hear.ensures.talk c.hear.ensures.closed c.hear.ensures.failures in
    let exchanged = Exchanged g.U.Automation.exchanges g.U.Automation.failures first.automation.now c.hear.new.automation in
    let steps = steps_before (length before_packet.rs) before_packet.ts (reverse ps) in
    let is_out = (λ (sink : g.row.K.Denot) (l : List (List ℕ)). g.K.PacketSink.holds sink start (before ++ l)) in
    let fails = (λ (l : List (List ℕ)). g.K.PacketSink.fails c.feed.new.sink start (before ++ l)) in
    inject_step_fails _ _ _ first _ is_out fails c.args.out.now c.feed.new.sink ps qs p held d exchanged c.hear.new.self.service c.hear.new.self.talk before_packet (λ f e. e) (λ r. r) (λ put q b. b)
    c.stage_fault.result c.in-Err.fault c.stage_fault.ensures c.in-Err.ensures.kept
    (fails_so c.in-Err.fault d p steps (λ put q f. g.K.PacketSink.fails c.feed.new.sink start ((before ++ qs) ++ put) q f) (λ put q f. fails (qs ++ put) q f)
    (λ put q f. subst (λ l. g.K.PacketSink.fails c.feed.new.sink start l q f) (append_assoc before qs put)) (c.in-Err.ensures.err start (before ++ qs) d steps held before_packet.gone))

pub returns-in-Err-clause-blamed : goal.returns-in-Err-clause-blamed
returns-in-Err-clause-blamed g c =
    subst (λ f. StepBlamed f (g.K.PacketSink.counts c.args.out.now) (g.K.PacketSink.counts c.feed.new.sink) (g.K.PacketSink.is_full c.feed.new.sink)) (sym c.stage_fault.ensures) (stage_blamed c.in-Err.fault _ _ _ c.in-Err.ensures.blamed)
