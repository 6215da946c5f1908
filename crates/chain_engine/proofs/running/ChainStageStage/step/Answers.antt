use Rattle.std.proofs.Common.{◌≡◌, ℕ, length, reverse, ◌∙◌, Option, List, [], ◌∷◌, ◌++◌, sym, ap, subst, append_assoc}
use Rattle.std.proofs.lemmas.List.{reverse-append}
use Rattle.packet_runs.specs.Stages.{StepBlamed}
use Rattle.psi_tables.specs.declared.config.Config.{Config}
use Rattle.injector.specs.Steps.{Step, Packet as PacketStep}
use Rattle.ad_library.specs.Advertisements.{Advertisement}
use Rattle.ad_library.specs.Library.{held}
use Rattle.chain_engine.specs.Judging.{ServiceJudges}
use Rattle.chain_engine.specs.Runs.{reply_in, steps_before, Exchanged}
use Rattle.chain_engine.specs.Passing.{ServiceStandsFor, IsSoundNetwork, PassFails, chain_at}
use Rattle.chain_engine.specs.ChainRuns.{chain_sends}
use Rattle.chain_engine.specs.Stages.{ServesFor}
use Rattle.chain_engine.proofs.PassingLemmas.{serves-one, chain-more, last-sound, pass-fails-so}
use Rattle.chain_engine.proofs.RunLemmas.{heard, passed}
use Rattle.chain_engine.proofs.StageLemmas.{run_of, chain_step_fails, chain_blamed}
use Rattle.chain_engine.proofs.StepsLemmas.{steps_packets}
use Rattle.chain_engine.proofs.running.ChainStageStage.step.Goals as goal

pub returns-in-Ok-clause-ok : goal.returns-in-Ok-clause-ok
returns-in-Ok-clause-ok g c = λ first ps qs start before s is_held.
    let d = first.chain.now.service.config in
    let filed = held first.library.now in
    let p = c.args.packet.now in
    let old = c.args.self.now.chain.now in
    let service = c.hear.new.self.service in
    let exchanged = Exchanged g.U.Automation.exchanges g.U.Automation.failures first.automation.now c.hear.new.automation in
    let holds = g.K.PacketSink.holds c.pass.new.out start in
    let before_packet = heard g.U.Automation.exchanges g.met.U.Automation.exchanges_refl g.met.U.Automation.exchanges_trans g.U.Automation.failures ServiceJudges (ServesFor d filed) (reply_in d) (serves-one d filed)
    (λ steps. chain_sends d filed steps ≡ qs) (λ m past o. o) ps first.automation.now c.args.self.now.automation.now c.hear.new.automation old.service service old.talk c.hear.new.self.talk s.1.run
    c.hear.ensures.talk c.hear.ensures.closed c.hear.ensures.failures in
    let ok = subst (λ (v : ℕ → Option Advertisement). (w : Config) (steps : List Step) (start : Option (List ℕ)) (l : List (List ℕ)) → ServiceStandsFor service w v steps → g.K.PacketSink.holds c.args.out.now start l
    → ServiceStandsFor c.pass.new.self w v (PacketStep p ∷ steps) × g.K.PacketSink.holds c.pass.new.out start (l ++ chain_at w v p steps)) (ap held s.0) c.in-Ok.ensures.ok in
    let now = passed (ServesFor d filed) (reply_in d) exchanged ps service c.pass.new.self c.hear.new.self.talk (λ steps. chain_sends d filed steps ≡ qs)
    (λ steps. holds (before ++ chain_sends d filed steps)) p before_packet (λ steps e st o.
    let (goes, out) = ok d steps start (before ++ qs) st is_held in
    let sent = chain_at d filed p steps in
    (goes, subst holds (append_assoc before qs sent ∙ ap (λ l. before ++ (l ++ sent)) (sym o) ∙ ap (λ l. before ++ l) (sym (chain-more d filed p steps))) out)) in
    let (sent, run', out) = run_of (ServesFor d filed) (reply_in d) exchanged (ps ++ p ∷ []) c.pass.new.self c.hear.new.self.talk (chain_sends d filed) (λ l. holds (before ++ l)) now in
    record {
      sent = sent;
      sound = last-sound d p (reverse ps) (subst (IsSoundNetwork d) (steps_packets _ run'.ts _ ∙ reverse-append ps (p ∷ [])) run'.gone.network);
      sends_it = (s.0, record { begins = s.1.begins; run = run' });
      out = out;
    }

pub returns-in-Err-clause-err : goal.returns-in-Err-clause-err
returns-in-Err-clause-err g c = λ first ps qs start before s is_held.
    let d = first.chain.now.service.config in
    let filed = held first.library.now in
    let p = c.args.packet.now in
    let old = c.args.self.now.chain.now in
    let service = c.hear.new.self.service in
    let exchanged = Exchanged g.U.Automation.exchanges g.U.Automation.failures first.automation.now c.hear.new.automation in
    let is_out = (λ (sink : g.row.K.Denot) (l : List (List ℕ)). g.K.PacketSink.holds sink start (before ++ l)) in
    let fails = (λ (l : List (List ℕ)). g.K.PacketSink.fails c.pass.new.out start (before ++ l)) in
    let before_packet = heard g.U.Automation.exchanges g.met.U.Automation.exchanges_refl g.met.U.Automation.exchanges_trans g.U.Automation.failures ServiceJudges (ServesFor d filed) (reply_in d) (serves-one d filed)
    (λ steps. chain_sends d filed steps ≡ qs) (λ m past o. o) ps first.automation.now c.args.self.now.automation.now c.hear.new.automation old.service service old.talk c.hear.new.self.talk s.1.run
    c.hear.ensures.talk c.hear.ensures.closed c.hear.ensures.failures in
    let err = subst (λ (v : ℕ → Option Advertisement). (w : Config) (steps : List Step) (start : Option (List ℕ)) (l : List (List ℕ)) → ServiceStandsFor service w v steps → g.K.PacketSink.holds c.args.out.now start l
    → PassFails c.in-Err.fault w v p steps (g.K.PacketSink.holds c.pass.new.out start l) (λ put q x. g.K.PacketSink.fails c.pass.new.out start (l ++ put) q x)) (ap held s.0) c.in-Err.ensures.err in
    let steps = steps_before (length before_packet.rs) before_packet.ts (reverse ps) in
    chain_step_fails _ _ _ first _ is_out fails c.args.out.now c.pass.new.out ps qs p is_held d filed exchanged service c.hear.new.self.talk before_packet (λ f e. e) (λ r. r) (λ put q b. b)
    c.stage_fault.result c.in-Err.fault c.stage_fault.ensures
    (pass-fails-so c.in-Err.fault d filed p steps _ (λ put q x. g.K.PacketSink.fails c.pass.new.out start ((before ++ qs) ++ put) q x) (λ put q x. fails (qs ++ put) q x)
    (λ put q x. subst (λ l. g.K.PacketSink.fails c.pass.new.out start l q x) (append_assoc before qs put)) (err d steps start (before ++ qs) before_packet.gone is_held))

pub returns-in-Err-clause-blamed : goal.returns-in-Err-clause-blamed
returns-in-Err-clause-blamed g c =
    subst (λ f. StepBlamed f (g.K.PacketSink.counts c.args.out.now) (g.K.PacketSink.counts c.pass.new.out) (g.K.PacketSink.is_full c.pass.new.out)) (sym c.stage_fault.ensures) (chain_blamed c.in-Err.fault _ _ _ c.in-Err.ensures.blamed)
