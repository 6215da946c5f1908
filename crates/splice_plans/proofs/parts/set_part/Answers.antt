use denote.Enum.Bare.{sameb}
use Rattle.std.proofs.lemmas.Bool.{true≢false}
use Rattle.splice_plans.specs.declared.plan.Stage.TheVariants.{Waiting, Running, Closing, Over}
use Rattle.std.proofs.Common.{true, refl, ◌≡◌, ◌%◌, ◌∙◌, ap, sym, List, ℕ}
use Rattle.std.specs.Prelude.{slice_index_or, slice_set}
use Rattle.std.proofs.lemmas.List.{get_or_default, set-get_or}
use Rattle.event_table.specs.declared.table.Entry.{Entry}
use Rattle.event_table.specs.Tables.{values_of}
use Rattle.splice_plans.specs.declared.plan.Plan.{Plan}
use Rattle.splice_plans.specs.declared.plan.Part.{Part}
use Rattle.splice_plans.specs.declared.plan.Stage.{Stage}
use Rattle.splice_plans.specs.Turning.{part_of, with_part, waiting}
use Rattle.splice_plans.specs.Parts.{no_entry}
use Rattle.splice_plans.proofs.parts.set_part.Goals as goal

same-stage : (a b : Stage) → true ≡ sameb Rattle.splice_plans.specs.contracts.plan.Stage.the_type a b → a ≡ b
same-stage Waiting Waiting h = refl
same-stage Waiting Running h = absurd (true≢false h)
same-stage Waiting Closing h = absurd (true≢false h)
same-stage Waiting Over h = absurd (true≢false h)
same-stage Running Waiting h = absurd (true≢false h)
same-stage Running Running h = refl
same-stage Running Closing h = absurd (true≢false h)
same-stage Running Over h = absurd (true≢false h)
same-stage Closing Waiting h = absurd (true≢false h)
same-stage Closing Running h = absurd (true≢false h)
same-stage Closing Closing h = refl
same-stage Closing Over h = absurd (true≢false h)
same-stage Over Waiting h = absurd (true≢false h)
same-stage Over Running h = absurd (true≢false h)
same-stage Over Closing h = absurd (true≢false h)
same-stage Over Over h = refl

pub returns-then-old-part-clause-values : goal.returns-then-old-part-clause-values
returns-then-old-part-clause-values c = λ entry e_is.
    let items = c.args.events.now.obeyed.table.entries.items in
    let stream = c.args.stream in
    let here = c.index-standing-place.result in
    let seen : Entry Plan = slice_index_or c.standing.result.now c.args.place here in
    let there : seen ≡ entry
    = ap (λ (xs : List (Entry Plan)). slice_index_or xs c.args.place here) (c.standing.ensures.entries ∙ ap (λ t. t.entries.items) c.table.ensures.same)
    ∙ get_or_default items c.args.place here entry c.requires ∙ sym e_is in
    let build : Stage → ℕ → Part = λ s n. record { stage = s; sent = n } in
    let part_is : part_of entry.value stream ≡ c.args.part = ap (λ (x : Entry Plan). part_of x.value stream) (sym there) ∙ sym c.part-old.ensures ∙ ap (λ s. build s c.part-old.result.sent) (same-stage c.part-old.result.stage c.args.part.stage c.if-eq.ensures) ∙ ap (build c.args.part.stage) c.if-old-part.true in
    let plan_is : with_part entry.value stream c.args.part ≡ entry.value
    = ap (with_part entry.value stream) (sym part_is) ∙ ap (λ (ps : List Part). record { parts = ps; is_crossed = entry.value.is_crossed }) (set-get_or entry.value.parts (stream % 8) waiting) in
    let value_is : entry.value ≡ slice_index_or (values_of c.args.events.now.obeyed.table) c.args.place no_entry.value
    = ap (λ (x : Entry Plan). x.value) (e_is ∙ get_or_default items c.args.place entry no_entry c.requires)
    ∙ sym (Rattle.std.proofs.Math.ListN.get_or-map (λ (x : Entry Plan). x.value) items c.args.place no_entry) in
    sym (ap (slice_set (values_of c.args.events.now.obeyed.table) c.args.place) (plan_is ∙ value_is) ∙ set-get_or (values_of c.args.events.now.obeyed.table) c.args.place no_entry.value)
