use Rattle.std.proofs.Common.{sym, ap, subst, ◌∙◌}
use Rattle.event_table.specs.declared.table.Table.{Table}
use Rattle.event_table.specs.Tables.{values_of}
use Rattle.psi_section.specs.Assembling.{capped}
use Rattle.armed_events.specs.Arming.{standing}
use Rattle.ad_library.specs.Library.{held}
use Rattle.splice_plans.specs.declared.plan.Plan.{Plan}
use Rattle.splice_plans.specs.Adverts.{adverts_of}
use Rattle.splice_plans.specs.Parts.{beside}
use Rattle.splice_plans.specs.Reporting.{ReportIs, with_counted, is_any}
use Rattle.splice_plans.specs.Switching.{high_at, streams_at}
use Rattle.splice_plans.specs.Known.{counts_known, is_forgotten}
use Rattle.known_laws.proofs.ReportLemmas.{reports_are_whole}
use Rattle.splice_playing.proofs.PacketLemmas.{steady-by}
use Rattle.splice_playing.proofs.playing.Playing.report.Goals as goal

pub returns : goal.returns
returns c = λ k past r e.
    let filed = held c.args.library.now in
    let t = c.args.self.now.events.obeyed.table in
    let es = standing k.cue_pid (high_at k) past in
    let counts = counts_known k past (is_forgotten (high_at k past)) in
    let ads = ap (adverts_of filed) e.listed_is ∙ ap (λ f. f (streams_at k past)) (sym e.adverts_are) in
    let told = c.with_all-report.ensures (high_at k past) es counts (c.table.ensures.stands k.cue_pid (high_at k) past r.events) r.forgotten in
    let counted = subst (λ a. ReportIs c.with_all-report.result (with_counted is_any a (beside es (values_of t)) counts)) ads
    (subst (λ (x : Table Plan). ReportIs c.with_all-report.result (with_counted is_any (adverts_of filed c.args.streams.now) (beside es (values_of x)) counts)) c.table.ensures.same told) in
    let whole = reports_are_whole k past (values_of t) (steady-by k filed past e.adverts_are) e.faultless r.crossed in
    record {
      played = counted.played ∙ ap capped whole.played;
      not_fitted = counted.not_fitted ∙ ap capped whole.not_fitted;
      unconditioned = counted.unconditioned ∙ ap capped whole.unconditioned;
      ignored = c.ignored.ensures k.cue_pid (high_at k) past r.events;
    }
