use Rattle.std.proofs.Common.{rules, ◌≡◌, false, ◌∷◌, ◌++◌, ◌∙◌, refl, sym, ap, subst, append_assoc, reverse, length}
use Rattle.packet_runs.specs.Stages.{StepBlamed}
use Rattle.injector.specs.Steps.{Packet as PacketStep, packets_in}
use Rattle.chain_engine.specs.Runs.{Exchanged, replies_by, steps_before}
use Rattle.chain_engine.proofs.RunLemmas.{heard}
use Rattle.chain_engine.proofs.StepsLemmas.{before_packets}
use Rattle.service_laws.specs.Services.{configs_of, given_at, services_send}
use Rattle.service_laws.specs.Faults.{share_a_pid}
use Rattle.chain_services.specs.Owners.{HasOwners}
use Rattle.chain_services.specs.Serving.{AllServe, AnswersNone, DeskJudges, CountsReplies, reply_by}
use Rattle.chain_services.specs.Stages.{DeskServes, terms_in}
use Rattle.chain_services.proofs.ApartLemmas.{share_same}
use Rattle.chain_services.proofs.PartLemmas.{behind_part}
use Rattle.chain_services.proofs.UnfollowedLemmas.{owners-same}
use Rattle.chain_services.proofs.StageLemmas.{services_went, services_step_fails, services_share, step_blamed}
use Rattle.chain_services.proofs.running.ServicesStageStage.step.Goals as goal

pub returns-in-Err-clause-err : goal.returns-in-Err-clause-err
returns-in-Err-clause-err g c = λ first ps qs start before s is_held.
    let ts = terms_in first.services.now.desk first.libraries.now in
    let p = c.args.packet.now in
    let old = c.args.self.now.services.now in
    let desk = c.hear.new.self.desk in
    let exchanged = Exchanged g.U.Automation.exchanges g.U.Automation.failures first.automation.now c.hear.new.automation in
    let holds = g.K.PacketSink.holds c.pass.new.out start in
    let fails = g.K.PacketSink.fails c.pass.new.out start in
    let here = heard g.U.Automation.exchanges g.met.U.Automation.exchanges_refl g.met.U.Automation.exchanges_trans g.U.Automation.failures DeskJudges (DeskServes ts) (reply_by ts)
    (λ i m r j past judged gone. judged.goes ts past s.1.indexes gone) (λ steps. services_send ts steps ≡ qs) (λ m past o. o) ps first.automation.now c.args.self.now.automation.now c.hear.new.automation
    old.desk desk old.talk c.hear.new.self.talk s.1.run c.hear.ensures.talk c.hear.ensures.closed c.hear.ensures.failures in
    let steps = steps_before (length here.rs) here.ts (reverse ps) in
    let apart = ap (share_a_pid (configs_of ts)) (before_packets (length here.rs) here.ts (reverse ps)) ∙ s.1.apart in
    services_step_fails _ first ts exchanged ps qs p desk c.hear.new.self.talk here (λ w. refl) _ _ (λ l. holds (before ++ l)) (λ sent r. r) _ (λ l. fails (before ++ l)) (λ put q b. b) c.stage_fault_of.result c.in-Err.fault c.stage_fault_of.ensures
    (behind_part c.in-Err.fault ts p steps _ before qs holds fails (c.in-Err.ensures.err ts steps start (before ++ qs) s.1.filed apart here.gone is_held))

pub returns-then-not-learns-clause-ok : goal.returns-then-not-learns-clause-ok
returns-then-not-learns-clause-ok g c = λ first ps qs start before s is_held.
    let ts = terms_in first.services.now.desk first.libraries.now in
    let p = c.args.packet.now in
    let old = c.args.self.now.services.now in
    let desk = c.hear.new.self.desk in
    let exchanged = Exchanged g.U.Automation.exchanges g.U.Automation.failures first.automation.now c.hear.new.automation in
    let holds = g.K.PacketSink.holds c.pass.new.out start in
    let quiet : c.in-Ok.learns ≡ false = search rules in
    let here = heard g.U.Automation.exchanges g.met.U.Automation.exchanges_refl g.met.U.Automation.exchanges_trans g.U.Automation.failures DeskJudges (DeskServes ts) (reply_by ts)
    (λ i m r j past judged gone. judged.goes ts past s.1.indexes gone) (λ steps. services_send ts steps ≡ qs) (λ m past o. o) ps first.automation.now c.args.self.now.automation.now c.hear.new.automation
    old.desk desk old.talk c.hear.new.self.talk s.1.run c.hear.ensures.talk c.hear.ensures.closed c.hear.ensures.failures in
    services_went _ first ts exchanged ps qs p desk c.hear.new.self.talk here (λ w. refl) _ _ (λ l. holds (before ++ l)) _ c.pass.new.self c.args.self.now.libraries.now s.1.filed s.1.indexes s.1.few (λ sent send. (s.0, send))
    (λ steps e gone o.
    let apart = ap (share_a_pid (configs_of ts)) e ∙ s.1.apart in
    let done = c.in-Ok.ensures.ok ts steps start (before ++ qs) s.1.filed apart gone is_held in (
      record {
        services = done.0;
        none = subst (λ w. AnswersNone w ts) (sym c.pass.ensures.none) gone.none;
        counts = subst (λ n. CountsReplies n.messages n.accepted n.refused (replies_by (reply_by ts) steps)) (sym c.pass.ensures.counts) gone.counts;
        owners = subst (λ o. HasOwners o ts (p ∷ packets_in steps)) (sym c.pass.ensures.owners) (owners-same desk.owners ts p (packets_in steps) (done.2 quiet) gone.owners);
        quiet = λ e. tt;
      },
      (subst holds (append_assoc before qs (given_at ts p steps) ∙ ap (λ l. before ++ (l ++ given_at ts p steps)) (sym o)) done.1, share_same ts p (packets_in steps) (done.2 quiet) ∙ apart),
    ))

pub returns-then-share_a_pid-clause-err : goal.returns-then-share_a_pid-clause-err
returns-then-share_a_pid-clause-err g c = λ first ps qs start before s is_held.
    let ts = terms_in first.services.now.desk first.libraries.now in
    let p = c.args.packet.now in
    let old = c.args.self.now.services.now in
    let desk = c.hear.new.self.desk in
    let exchanged = Exchanged g.U.Automation.exchanges g.U.Automation.failures first.automation.now c.hear.new.automation in
    let holds = g.K.PacketSink.holds c.pass.new.out start in
    let here = heard g.U.Automation.exchanges g.met.U.Automation.exchanges_refl g.met.U.Automation.exchanges_trans g.U.Automation.failures DeskJudges (DeskServes ts) (reply_by ts)
    (λ i m r j past judged gone. judged.goes ts past s.1.indexes gone) (λ steps. services_send ts steps ≡ qs) (λ m past o. o) ps first.automation.now c.args.self.now.automation.now c.hear.new.automation
    old.desk desk old.talk c.hear.new.self.talk s.1.run c.hear.ensures.talk c.hear.ensures.closed c.hear.ensures.failures in
    let steps = steps_before (length here.rs) here.ts (reverse ps) in
    let apart = ap (share_a_pid (configs_of ts)) (before_packets (length here.rs) here.ts (reverse ps)) ∙ s.1.apart in
    let done = c.in-Ok.ensures.ok ts steps start (before ++ qs) s.1.filed apart here.gone is_held in
    let serve = subst (λ l. AllServe l ts (PacketStep p ∷ steps)) (sym c.learn.ensures.services) done.0 in
    services_share _ first ts exchanged ps qs p desk c.hear.new.self.talk here (λ w. refl) _ _ (λ l. holds (before ++ l)) (λ sent r. r) c.learn.new.self
    (record {
      services = serve;
      none = subst (λ w. AnswersNone w ts) (sym (c.learn.ensures.none ∙ c.pass.ensures.none)) here.gone.none;
      counts = subst (λ n. CountsReplies n.messages n.accepted n.refused (replies_by (reply_by ts) steps)) (sym (c.learn.ensures.counts ∙ c.pass.ensures.counts)) here.gone.counts;
      owners = c.learn.ensures.owners ts (PacketStep p ∷ steps) done.0;
      quiet = λ e. tt;
    })
    (subst holds (append_assoc before qs (given_at ts p steps)) done.1) (sym (c.share_a_pid.ensures ts (PacketStep p ∷ steps) serve) ∙ c.if-share_a_pid.true)

pub returns-clause-ok : goal.returns-clause-ok
returns-clause-ok g c = λ first ps qs start before s is_held.
    let ts = terms_in first.services.now.desk first.libraries.now in
    let p = c.args.packet.now in
    let old = c.args.self.now.services.now in
    let desk = c.hear.new.self.desk in
    let exchanged = Exchanged g.U.Automation.exchanges g.U.Automation.failures first.automation.now c.hear.new.automation in
    let holds = g.K.PacketSink.holds c.pass.new.out start in
    let here = heard g.U.Automation.exchanges g.met.U.Automation.exchanges_refl g.met.U.Automation.exchanges_trans g.U.Automation.failures DeskJudges (DeskServes ts) (reply_by ts)
    (λ i m r j past judged gone. judged.goes ts past s.1.indexes gone) (λ steps. services_send ts steps ≡ qs) (λ m past o. o) ps first.automation.now c.args.self.now.automation.now c.hear.new.automation
    old.desk desk old.talk c.hear.new.self.talk s.1.run c.hear.ensures.talk c.hear.ensures.closed c.hear.ensures.failures in
    services_went _ first ts exchanged ps qs p desk c.hear.new.self.talk here (λ w. refl) _ _ (λ l. holds (before ++ l)) _ c.learn.new.self c.args.self.now.libraries.now s.1.filed s.1.indexes s.1.few (λ sent send. (s.0, send))
    (λ steps e gone o.
    let apart = ap (share_a_pid (configs_of ts)) e ∙ s.1.apart in
    let done = c.in-Ok.ensures.ok ts steps start (before ++ qs) s.1.filed apart gone is_held in
    let serve = subst (λ l. AllServe l ts (PacketStep p ∷ steps)) (sym c.learn.ensures.services) done.0 in (
      record {
        services = serve;
        none = subst (λ w. AnswersNone w ts) (sym (c.learn.ensures.none ∙ c.pass.ensures.none)) gone.none;
        counts = subst (λ n. CountsReplies n.messages n.accepted n.refused (replies_by (reply_by ts) steps)) (sym (c.learn.ensures.counts ∙ c.pass.ensures.counts)) gone.counts;
        owners = c.learn.ensures.owners ts (PacketStep p ∷ steps) done.0;
        quiet = λ e. tt;
      },
      (subst holds (append_assoc before qs (given_at ts p steps) ∙ ap (λ l. before ++ (l ++ given_at ts p steps)) (sym o)) done.1, sym (c.share_a_pid.ensures ts (PacketStep p ∷ steps) serve) ∙ c.if-share_a_pid.false),
    ))

pub returns-in-Err-clause-blamed : goal.returns-in-Err-clause-blamed
returns-in-Err-clause-blamed g c =
    subst (λ f. StepBlamed f (g.K.PacketSink.counts c.args.out.now) (g.K.PacketSink.counts c.pass.new.out) (g.K.PacketSink.is_full c.pass.new.out)) (sym c.stage_fault_of.ensures) (step_blamed c.in-Err.fault _ _ _ c.in-Err.ensures.blamed)
