use Rattle.std.proofs.Common.{[], ◌++◌, reverse, length, sym, subst, append_assoc}
use Rattle.chain_engine.specs.Runs.{Exchanged, steps_of}
use Rattle.ts_packet.specs.Sinks.{Blamed}
use Rattle.service_laws.specs.Services.{services_rest}
use Rattle.chain_services.specs.Stages.{terms_in}
use Rattle.chain_services.proofs.StageLemmas.{services_ended, services_finish_fails, rest_fails_so, finish_blamed}
use Rattle.chain_services.proofs.running.ServicesStageStage.finish.Goals as goal

pub returns-in-Ok-clause-ok : goal.returns-in-Ok-clause-ok
returns-in-Ok-clause-ok g c = λ first ps qs kept start before s is_held.
    let ts = terms_in first.services.now.desk first.libraries.now in
    let services = c.args.self.now.services.now in
    let exchanged = Exchanged g.U.Automation.exchanges g.U.Automation.failures first.automation.now c.args.self.now.automation.now in
    let run = s.1.run in
    let steps = steps_of (length run.rs) run.ts (reverse ps) in
    let done = c.in-Ok.ensures.ok ts steps start (before ++ qs) s.1.filed run.gone.services is_held in
    record {
      sent = qs ++ services_rest ts steps;
      ends_so = services_ended ts exchanged ps qs services.desk services.talk run _ run.gone.counts done.0;
      out = subst (g.K.PacketSink.holds c.finish.new.out start) (append_assoc before qs (services_rest ts steps)) done.1;
    }

pub returns-in-Err-clause-err : goal.returns-in-Err-clause-err
returns-in-Err-clause-err g c = λ first ps qs kept start before s is_held.
    let ts = terms_in first.services.now.desk first.libraries.now in
    let services = c.args.self.now.services.now in
    let exchanged = Exchanged g.U.Automation.exchanges g.U.Automation.failures first.automation.now c.args.self.now.automation.now in
    let run = s.1.run in
    let steps = steps_of (length run.rs) run.ts (reverse ps) in
    let fails = g.K.PacketSink.fails c.finish.new.out start in
    services_finish_fails ts exchanged ps qs services.desk services.talk run _ first _ (λ l. fails (before ++ l)) (λ put q b. b) s.1.few c.put_fault_of.result c.in-Err.fault c.put_fault_of.ensures
    (rest_fails_so c.in-Err.fault [] ts steps _ _ (λ put q x o. subst (λ l. fails l q x) (append_assoc before qs put) o)
    (c.in-Err.ensures.err ts steps start (before ++ qs) s.1.filed run.gone.services is_held))

pub returns-in-Err-clause-blamed : goal.returns-in-Err-clause-blamed
returns-in-Err-clause-blamed g c =
    subst (λ f. Blamed f (g.K.PacketSink.counts c.args.out.now) (g.K.PacketSink.counts c.finish.new.out) (g.K.PacketSink.is_full c.finish.new.out)) (sym c.put_fault_of.ensures) (finish_blamed c.in-Err.fault _ _ _ c.in-Err.ensures.blamed)
