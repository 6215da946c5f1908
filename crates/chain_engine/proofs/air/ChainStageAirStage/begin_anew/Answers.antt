use Rattle.ad_library.specs.Library.{held}
use Rattle.splice_plans.specs.declared.report.SwitchReport.{SwitchReport}
use Rattle.splice_plans.specs.Adverts.{setting_of}
use Rattle.splice_plans.specs.Reporting.{ReportIs, report_of}
use Rattle.splice_switch.specs.Standing.{SwitchStandsAt}
use Rattle.chain_engine.specs.Passing.{ServiceStandsFor}
use Rattle.chain_engine.specs.Runs.{Exchanged}
use Rattle.chain_engine.specs.Airing.{packets_through, steps_on_air}
use Rattle.chain_engine.specs.Switched.{journey_of}
use Rattle.chain_engine.specs.Chained.{fed_on_air, CountsStretch}
use Rattle.chain_engine.proofs.ChainedLemmas.{chain-begins}
use Rattle.std.proofs.Common.{[], length, refl, sym, subst}
use Rattle.std.specs.Prelude.{None}
use Rattle.chain_engine.proofs.air.ChainStageAirStage.begin_anew.Goals as goal

pub returns-clause-follows : goal.returns-clause-follows
returns-clause-follows g c = λ purpose past (is, f). (
  is,
  record {
    ts = f.ts;
    n = f.n;
    k = f.k;
    talks = f.talks;
    followed = record { steps = []; injector = (c.begin_anew.ensures (λ n. None)).injector; packets = refl };
  },
)

pub returns-clause-airs : goal.returns-clause-airs
returns-clause-airs g c = λ first ended last told qs behind (is, lib, h).
    let d = first.chain.now.service.config in
    let filed = held first.library.now in
    let k = setting_of d filed in
    let old = c.args.self.now.chain.now in
    let exchanged = Exchanged g.U.Automation.exchanges g.U.Automation.failures first.automation.now c.args.self.now.automation.now in
    let n = length h.rs in
    let at = packets_through ended in
    let steps = steps_on_air n h.ts at last in
    let fed = fed_on_air d n h.ts at last in
    let switch = subst (λ w. SwitchStandsAt w d (held c.args.self.now.library.now) (journey_of k fed)) (sym h.gone.switch_is) (subst (λ l. SwitchStandsAt old.service.switch d (held l) (journey_of k fed)) (sym lib) h.out.stands) in
    let told_so = subst (λ l. ReportIs c.report-events.result (report_of (setting_of d (held l)) (journey_of k fed).read)) lib (c.report-events.ensures.counts d (journey_of k fed) switch) in
    let counted : CountsStretch c.of_chain.result d filed n h.ts at last = record {
      messages = c.of_chain.ensures.messages d steps (c.counts.ensures d steps h.gone.injector.judges);
      events = subst (λ (r : SwitchReport). ReportIs r (report_of k (journey_of k fed).read)) (sym c.of_chain.ensures.events) told_so;
    } in
    let anew = subst (λ w. ServiceStandsFor c.begin_anew.new.self w filed []) is (c.begin_anew.ensures filed) in (
      is,
      lib,
      chain-begins d filed ended last told qs exchanged old.service.switch old.service c.begin_anew.new.self old.talk behind c.of_chain.result h counted
          (record { injector = anew.injector; switch_is = refl; network = anew.network; config = anew.config }) anew.switch,
    )
