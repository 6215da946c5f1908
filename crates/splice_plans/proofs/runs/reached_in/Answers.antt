use Rattle.std.proofs.Common.{◌∙◌, ap, sym, subst}
use Rattle.std.specs.Prelude.{slice_index_or, pos, int_lt, unsigned_abs}
use Rattle.event_table.specs.declared.event.Event.{Event}
use Rattle.event_table.specs.declared.table.Entry.{Entry}
use Rattle.event_table.specs.Rings.{is_before_on_ring}
use Rattle.pes_time.specs.Line.{signed}
use Rattle.splice_plans.specs.declared.plan.Plan.{Plan}
use Rattle.splice_plans.specs.Parts.{IsReached}
use Rattle.splice_plans.proofs.RunLemmas.{reached-below, reached-past, entry-on, e-within, abs-past, way-back}
use Rattle.splice_plans.proofs.runs.reached_in.Goals as goal

pub returns-then-is_before : goal.returns-then-is_before
returns-then-is_before c = λ latest latest_behind es e s is there.
    let items = c.index-standing-place.is ∙ ap (λ xs. slice_index_or xs c.args.place c.index-standing-place.result) c.standing.ensures.entries in
    let on = entry-on c.args.table.now latest es s c.args.place c.requires c.index-standing-place.result items e there in
    let within = e-within c.args.table.now latest es s c.args.place c.requires c.index-standing-place.result items e there in
    let start = ap (λ (x : Entry Plan). x.event.start) (sym c.index-standing-place.is) ∙ ap (λ (x : Event). x.start) on in
    reached-below latest latest_behind c.in-Some.high e within (subst (λ h. IsReached latest h latest_behind) c.in-Some.is is) (sym (ap (is_before_on_ring c.in-Some.high) start) ∙ sym c.is_before.ensures ∙ c.if-is_before.true)

pub returns-else-is_before : goal.returns-else-is_before
returns-else-is_before c = λ latest latest_behind es e s is there.
    let items = c.index-standing-place.is ∙ ap (λ xs. slice_index_or xs c.args.place c.index-standing-place.result) c.standing.ensures.entries in
    let on = entry-on c.args.table.now latest es s c.args.place c.requires c.index-standing-place.result items e there in
    let within = e-within c.args.table.now latest es s c.args.place c.requires c.index-standing-place.result items e there in
    let start = ap (λ (x : Entry Plan). x.event.start) (sym c.index-standing-place.is) ∙ ap (λ (x : Event). x.start) on in
    reached-past latest latest_behind c.in-Some.high e _ within (subst (λ h. IsReached latest h latest_behind) c.in-Some.is is) (sym (ap (is_before_on_ring c.in-Some.high) start) ∙ sym c.is_before.ensures ∙ c.if-is_before.false)
    (sym (ap (signed c.in-Some.high) start) ∙ sym c.signed_from.ensures.way
    ∙ (let ahead = ap (λ w. int_lt w (pos 0)) c.signed_from.ensures.way ∙ sym c.is_before.ensures ∙ c.if-is_before.false in
    abs-past c.signed_from.result ahead ∙ ap (λ z. pos (unsigned_abs z)) (sym (way-back c.signed_from.result ahead c.signed_from.ensures.high)))
    ∙ ap pos (sym c.unsigned_abs.ensures.value))
