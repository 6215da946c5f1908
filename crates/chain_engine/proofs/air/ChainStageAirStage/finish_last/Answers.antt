use Rattle.std.proofs.Common.{◌≡◌, ℕ, ◌++◌, ◌∙◌, length, reverse, Option, sym, ap, subst, append_assoc}
use Rattle.std.proofs.lemmas.List.{reverse-reverse}
use Rattle.injector.specs.Steps.{cued}
use Rattle.injector.specs.Injecting.{InjectorStandsFor}
use Rattle.ad_library.specs.Advertisements.{Advertisement}
use Rattle.ad_library.specs.Library.{held}
use Rattle.splice_plans.specs.declared.report.SwitchReport.{SwitchReport}
use Rattle.splice_plans.specs.Adverts.{setting_of}
use Rattle.splice_plans.specs.Switching.{rest_at, switched_past}
use Rattle.splice_plans.specs.Stepping.{puts_last}
use Rattle.splice_plans.specs.Reporting.{ReportIs, report_of}
use Rattle.splice_switch.specs.Standing.{SwitchStandsAt}
use Rattle.chain_engine.specs.Runs.{reply_in, sent_by, steps_of, Exchanged}
use Rattle.chain_engine.specs.ChainRuns.{chain_sends}
use Rattle.chain_engine.specs.Stages.{HasRun, ServesFor, ChainEnds}
use Rattle.chain_engine.specs.Airing.{packets_through, steps_on_air}
use Rattle.chain_engine.specs.Switched.{journey_of}
use Rattle.chain_engine.specs.Chained.{fed_on_air}
use Rattle.chain_engine.proofs.StageLemmas.{ran}
use Rattle.chain_engine.proofs.air.ChainStageAirStage.finish_last.Goals as goal

pub returns-in-Ok-clause-sends : goal.returns-in-Ok-clause-sends
returns-in-Ok-clause-sends g c = λ first ps qs kept start before s is_held.
    let d = first.chain.now.service.config in
    let f = held c.args.self.now.library.now in
    let to_filed = ap held s.0 in
    let service = c.args.self.now.chain.now.service in
    let talk = c.args.self.now.chain.now.talk in
    let exchanged = Exchanged g.U.Automation.exchanges g.U.Automation.failures first.automation.now c.args.self.now.automation.now in
    let run = subst (λ (v : ℕ → Option Advertisement). HasRun (ServesFor d v) (reply_in d) service talk (λ steps. chain_sends d v steps ≡ qs) exchanged ps) (sym to_filed) s.1.run in
    let steps = steps_of (length run.rs) run.ts (reverse ps) in
    let k = setting_of d f in
    let rest = rest_at k (cued d steps) in
    let back = reverse-reverse (cued d steps) in
    let out = c.in-Ok.ensures.ok d steps start (before ++ qs) run.gone is_held in
    let told = subst (λ w. ReportIs w (report_of k (reverse (sent_by d steps)))) (sym c.of_chain.ensures.events)
    (subst (λ w. ReportIs c.in-Ok.events (report_of k w)) (sym back) (c.in-Ok.ensures.report d steps run.gone)) in
    record {
      sent = qs ++ rest;
      ends_so = subst (λ (v : ℕ → Option Advertisement). ChainEnds d v exchanged ps (qs ++ rest) c.of_chain.result) to_filed
          (ran d exchanged ps (qs ++ rest) service talk c.of_chain.result f _ run (c.of_chain.ensures.messages d steps (c.counts.ensures d steps (subst (λ w. InjectorStandsFor w d steps) (sym c.in-Ok.ensures.injector) run.gone.injector)))
          (ap (λ w. reverse (switched_past k w) ++ rest_at k w) back ∙ ap (λ l. l ++ rest) run.out) told);
      out = subst (g.K.PacketSink.holds c.finish.new.out start) (append_assoc before qs rest) out;
    }

pub returns-in-Ok-clause-airs : goal.returns-in-Ok-clause-airs
returns-in-Ok-clause-airs g c = λ first ended last told qs start before (is, lib, h) is_held.
    let d = first.chain.now.service.config in
    let filed = held first.library.now in
    let k = setting_of d filed in
    let n = length h.rs in
    let at = packets_through ended in
    let steps = steps_on_air n h.ts at last in
    let x = journey_of k (fed_on_air d n h.ts at last) in
    let rest = puts_last k x in
    let stands = subst (λ w. SwitchStandsAt w d (held c.args.self.now.library.now) x) (sym h.gone.switch_is) (subst (λ l. SwitchStandsAt c.args.self.now.chain.now.service.switch d (held l) x) (sym lib) h.out.stands) in
    let out = subst (λ l. g.K.PacketSink.holds c.finish.new.out start ((before ++ qs) ++ puts_last (setting_of d (held l)) x)) lib (c.in-Ok.ensures.puts d x start (before ++ qs) stands is_held) in
    let told_so = subst (λ l. ReportIs c.in-Ok.events (report_of (setting_of d (held l)) x.read)) lib (c.in-Ok.ensures.counts d x stands) in
    record {
      sent = qs ++ rest;
      tells_so = record {
        ts = h.ts;
        rs = h.rs;
        gone = tt;
        talks = h.talks;
        exchanges = h.exchanges;
        replies = h.replies;
        out = record {
          sent_so = ap (λ l. l ++ rest) h.out.sent;
          told_so = h.out.told_so;
          last_so = record {
            messages = c.of_chain.ensures.messages d steps (c.counts.ensures d steps (subst (λ w. InjectorStandsFor w d steps) (sym c.in-Ok.ensures.injector) h.gone.injector));
            events = subst (λ (r : SwitchReport). ReportIs r (report_of k x.read)) (sym c.of_chain.ensures.events) told_so;
          };
        };
      };
      out = subst (g.K.PacketSink.holds c.finish.new.out start) (append_assoc before qs rest) out;
    }
