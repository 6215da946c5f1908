use Rattle.std.proofs.Common.{◌<◌, ◌≤◌, ◌∙◌, refl, ap, subst, length}
use Rattle.std.specs.Prelude.{slice_index_or}
use Rattle.event_table.specs.declared.event.Event.{Event}
use Rattle.event_table.specs.Tables.{values_of}
use Rattle.ad_library.specs.Library.{held, fits_held}
use Rattle.splice_plans.specs.declared.plan.Plan.{Plan}
use Rattle.splice_plans.specs.Adverts.{adverts_of}
use Rattle.splice_plans.specs.Parts.{beside}
use Rattle.splice_plans.specs.Reporting.{ReportIs, with_counted, is_any}
use Rattle.splice_playing.proofs.ReportLemmas.{one-more, one-same, all-pairs, in-pairs, pair, event-is, value-is}
use Rattle.splice_playing.proofs.forgetting.with_all.Goals as goal

pub loop-at-preserved : goal.loop-at-preserved
loop-at-preserved c = λ latest es counts s before.
    let t = c.args.table.now in
    let ads = adverts_of (held c.args.library.now) c.args.streams.now in
    let entry = c.index-standing-at.result in
    let below = subst (λ xs. c.loop-at.at < length xs) c.standing-at-end.ensures.entries c.loop-at-test.true in
    let there = c.index-standing-at.is ∙ ap (λ xs. slice_index_or xs c.loop-at.at entry) c.standing.ensures.entries in
    let x = pair t latest es s c.loop-at.at below entry there in
    let on = event-is t latest es s c.loop-at.at below entry there in
    one-more is_any ads (beside es (values_of t)) counts c.loop-at.at (in-pairs t latest es s c.loop-at.at below entry there) _ refl
    (subst (λ n. ReportIs c.with_event-counted.result n)
    (one-same _ _ _ _ _ _ _ (ap (λ (e : Event). e.cancelled) on) (c.fits-fits.ensures ∙ ap (λ (e : Event). fits_held (held c.args.library.now e.program) c.args.streams.now e.asked) on)
    (ap (λ (plan : Plan). plan.is_crossed) (value-is t latest es s c.loop-at.at below entry there)))
    (c.with_event-counted.ensures _ (c.loop-at.invariant latest es counts s before)))

pub returns : goal.returns
returns c = λ latest es counts s before.
    let t = c.args.table.now in
    subst (λ xs. ReportIs c.loop-at.counted (with_counted is_any (adverts_of (held c.args.library.now) c.args.streams.now) xs counts))
    (all-pairs t latest es s c.loop-at.at (subst (λ xs. length xs ≤ c.loop-at.at) c.standing-at-end.ensures.entries c.loop-at-test.false))
    (c.loop-at.invariant latest es counts s before)
