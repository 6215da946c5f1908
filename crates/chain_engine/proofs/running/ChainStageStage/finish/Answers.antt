use Rattle.std.proofs.Common.{◌≡◌, ℕ, List, ◌++◌, ◌∙◌, length, reverse, Option, None, sym, ap, subst, append_assoc}
use Rattle.std.proofs.lemmas.List.{reverse-reverse}
use Rattle.ts_packet.specs.Sinks.{Blamed}
use Rattle.injector.specs.Steps.{cued}
use Rattle.injector.specs.Injecting.{InjectorStandsFor}
use Rattle.ad_library.specs.Advertisements.{Advertisement}
use Rattle.ad_library.specs.Library.{held}
use Rattle.splice_plans.specs.Adverts.{setting_of}
use Rattle.splice_plans.specs.Switching.{rest_at, switched_past}
use Rattle.splice_plans.specs.Reporting.{ReportIs, report_of}
use Rattle.chain_engine.specs.Runs.{reply_in, sent_by, steps_of, Exchanged}
use Rattle.chain_engine.specs.ChainRuns.{chain_sends}
use Rattle.chain_engine.specs.Stages.{HasRun, ServesFor, ChainEnds, ChainBreaks}
use Rattle.chain_engine.proofs.StageLemmas.{ran, rest_fails_so, chain_finish_fails, finish_blamed}
use Rattle.chain_engine.proofs.running.ChainStageStage.finish.Goals as goal

pub returns-in-Ok-clause-ok : goal.returns-in-Ok-clause-ok
returns-in-Ok-clause-ok g c = λ first ps qs kept start before s is_held.
    let d = first.chain.now.service.config in
    let f = held c.args.self.now.library.now in
    let to_filed = ap held s.0 in
    let service = c.args.self.now.chain.now.service in
    let talk = c.args.self.now.chain.now.talk in
    let exchanged = Exchanged g.U.Automation.exchanges g.U.Automation.failures first.automation.now c.args.self.now.automation.now in
    let run = subst (λ (v : ℕ → Option Advertisement). HasRun (ServesFor d v) (reply_in d) service talk (λ steps. chain_sends d v steps ≡ qs) exchanged ps) (sym to_filed) s.1.run in
    let steps = steps_of (length run.rs) run.ts (reverse ps) in
    let k = setting_of d f in
    let rest = rest_at k (cued d steps) in
    let back = reverse-reverse (cued d steps) in
    let out = c.in-Ok.ensures.ok d steps start (before ++ qs) run.gone is_held in
    let told = subst (λ w. ReportIs w (report_of k (reverse (sent_by d steps)))) (sym c.of_chain.ensures.events)
    (subst (λ w. ReportIs c.in-Ok.events (report_of k w)) (sym back) (c.in-Ok.ensures.report d steps run.gone)) in
    record {
      sent = qs ++ rest;
      ends_so = subst (λ (v : ℕ → Option Advertisement). ChainEnds d v exchanged ps (qs ++ rest) c.of_chain.result) to_filed
          (ran d exchanged ps (qs ++ rest) service talk c.of_chain.result f _ run (c.of_chain.ensures.messages d steps (c.counts.ensures d steps (subst (λ w. InjectorStandsFor w d steps) (sym c.in-Ok.ensures.injector) run.gone.injector)))
          (ap (λ w. reverse (switched_past k w) ++ rest_at k w) back ∙ ap (λ l. l ++ rest) run.out) told);
      out = subst (g.K.PacketSink.holds c.finish.new.out start) (append_assoc before qs rest) out;
    }

pub returns-in-Err-clause-err : goal.returns-in-Err-clause-err
returns-in-Err-clause-err g c = λ first ps qs kept start before s is_held.
    let d = first.chain.now.service.config in
    let f = held c.args.self.now.library.now in
    let to_filed = ap held s.0 in
    let service = c.args.self.now.chain.now.service in
    let talk = c.args.self.now.chain.now.talk in
    let exchanged = Exchanged g.U.Automation.exchanges g.U.Automation.failures first.automation.now c.args.self.now.automation.now in
    let fails = (λ (l : List (List ℕ)). g.K.PacketSink.fails c.finish.new.out start (before ++ l)) in
    let run = subst (λ (v : ℕ → Option Advertisement). HasRun (ServesFor d v) (reply_in d) service talk (λ steps. chain_sends d v steps ≡ qs) exchanged ps) (sym to_filed) s.1.run in
    let steps = steps_of (length run.rs) run.ts (reverse ps) in
    chain_finish_fails _ first _ fails d f ps qs exchanged service talk run
    (λ put q b. subst (λ (v : ℕ → Option Advertisement). ChainBreaks d v exchanged ps None put q) to_filed b) c.put_fault.result c.in-Err.fault c.put_fault.ensures
    (rest_fails_so c.in-Err.fault d f (cued d steps) (λ put q x. g.K.PacketSink.fails c.finish.new.out start ((before ++ qs) ++ put) q x) (λ put q x. fails (qs ++ put) q x)
    (λ put q x. subst (λ l. g.K.PacketSink.fails c.finish.new.out start l q x) (append_assoc before qs put))
    (c.in-Err.ensures.err d steps start (before ++ qs) run.gone is_held))

pub returns-in-Err-clause-blamed : goal.returns-in-Err-clause-blamed
returns-in-Err-clause-blamed g c =
    subst (λ f. Blamed f (g.K.PacketSink.counts c.args.out.now) (g.K.PacketSink.counts c.finish.new.out) (g.K.PacketSink.is_full c.finish.new.out)) (sym c.put_fault.ensures) (finish_blamed c.in-Err.fault _ _ _ c.in-Err.ensures.blamed)
