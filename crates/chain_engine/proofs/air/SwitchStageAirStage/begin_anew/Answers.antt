use Rattle.std.proofs.Common.{[], ◌++◌, sym, ap, subst, ◌∙◌, append_assoc}
use Rattle.std.specs.Prelude.{None}
use Rattle.std.proofs.lemmas.List.{append-nil}
use Rattle.ad_library.specs.Library.{held}
use Rattle.splice_plans.specs.Adverts.{setting_of}
use Rattle.splice_plans.specs.Reporting.{ReportIs, report_of}
use Rattle.splice_switch.specs.Standing.{SwitchFollows, SwitchStandsAt}
use Rattle.chain_engine.specs.Switched.{journey_of, switched_by_ended, switched_on_air}
use Rattle.chain_engine.proofs.air.SwitchStageAirStage.begin_anew.Goals as goal

pub returns-clause-follows : goal.returns-clause-follows
returns-clause-follows c = λ purpose past (is, f). (is, subst (λ d. SwitchFollows c.begin_anew.new.self d []) (sym is) (c.begin_anew.ensures (λ n. None)).follower)

pub returns-clause-airs : goal.returns-clause-airs
returns-clause-airs c = λ first ended last told qs behind (is, lib, a).
    let d = first.config in
    let filed = held first.library.now in
    let k = setting_of d filed in
    let stands = subst (λ l. SwitchStandsAt c.args.self.now.switch d (held l) (journey_of k last)) (sym lib) a.stands in
    let reports = subst (λ l. ReportIs c.report.result (report_of (setting_of d (held l)) (journey_of k last).read)) lib (c.report.ensures.counts d (journey_of k last) stands) in
    let before = switched_by_ended k ended in
    let one = switched_on_air k last in (
      is,
      lib,
      record {
        stands = subst (λ w. SwitchStandsAt c.begin_anew.new.self w filed (journey_of k [])) is (c.begin_anew.ensures filed);
        sent = append-nil (before ++ (one ++ behind)) ∙ sym (append_assoc before one behind) ∙ ap (λ l. l ++ behind) a.sent;
        told_so = (reports, a.told_so);
      },
    )
