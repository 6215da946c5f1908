use Rattle.std.proofs.Common.{◌<◌, ◌^◌, ◌∙◌, rules, sym, ap, subst}
use Rattle.std.specs.Prelude.{slice_index_or}
use Rattle.event_table.specs.declared.event.Event.{Event}
use Rattle.event_table.specs.Tables.{values_of}
use Rattle.ad_library.specs.Library.{held, fits_held}
use Rattle.splice_plans.specs.declared.plan.Plan.{Plan}
use Rattle.splice_plans.specs.Adverts.{adverts_of}
use Rattle.splice_plans.specs.Parts.{beside}
use Rattle.splice_plans.specs.Reporting.{ReportIs, is_out_at}
use Rattle.splice_playing.proofs.ReportLemmas.{one-more, none-more, one-same, in-pairs, event-is, value-is, out-is}
use Rattle.splice_playing.proofs.forgetting.with_one_forgotten.Goals as goal

pub returns-then-not-is_forgotten_at : goal.returns-then-not-is_forgotten_at
returns-then-not-is_forgotten_at c = λ latest later es counts s can is before.
    let t = c.args.table.now in
    let ads = adverts_of (held c.args.library.now) c.args.streams.now in
    let entry = c.index-standing-at.result in
    let below = c.requires in
    let there = c.index-standing-at.is ∙ ap (λ xs. slice_index_or xs c.args.at entry) c.standing.ensures.entries in
    let fits : c.args.high < 2 ^ 33 = search rules in
    let out = sym (out-is t latest es s c.args.high later fits can is c.args.at below entry there) ∙ sym c.is_forgotten_at.ensures ∙ c.if-not-is_forgotten_at.true in
    none-more (is_out_at later) ads (beside es (values_of t)) counts c.args.at (in-pairs t latest es s c.args.at below entry there) _ out
    before

pub returns : goal.returns
returns c = λ latest later es counts s can is before.
    let t = c.args.table.now in
    let ads = adverts_of (held c.args.library.now) c.args.streams.now in
    let entry = c.index-standing-at.result in
    let below = c.requires in
    let there = c.index-standing-at.is ∙ ap (λ xs. slice_index_or xs c.args.at entry) c.standing.ensures.entries in
    let on = event-is t latest es s c.args.at below entry there in
    let fits : c.args.high < 2 ^ 33 = search rules in
    let out = sym (out-is t latest es s c.args.high later fits can is c.args.at below entry there) ∙ sym c.is_forgotten_at.ensures ∙ c.if-not-is_forgotten_at.false in
    one-more (is_out_at later) ads (beside es (values_of t)) counts c.args.at (in-pairs t latest es s c.args.at below entry there) _ out
    (subst (λ n. ReportIs c.with_event.result n)
    (one-same _ _ _ _ _ _ _ (ap (λ (e : Event). e.cancelled) on) (c.fits-fits.ensures ∙ ap (λ (e : Event). fits_held (held c.args.library.now e.program) c.args.streams.now e.asked) on)
    (ap (λ (plan : Plan). plan.is_crossed) (value-is t latest es s c.args.at below entry there)))
    (c.with_event.ensures _ before))
