-- An event that waits in a stream stays as it is there, before its start.
use Rattle.std.proofs.Common.{◌≡◌, ℕ, ◌%◌, ◌^◌, ◌<◌, List, Bool, true, false, ◌||◌, if◌then◌else◌, refl, ap, sym, ◌∙◌, arith, Option, None, Some}
use Rattle.std.specs.Prelude.{ℤ, ◌≤ℤ◌, ◌+ℤ◌, pos, int_le, int_lt, slice_set}
use Rattle.std.proofs.lemmas.Int.{ints}
use Rattle.std.proofs.lemmas.Bool.{true≢false, and_parts}
use Rattle.std.proofs.lemmas.List.{set-get_or}
use Rattle.std.proofs.Math.Bool.{or-false}
use Rattle.pes_time.specs.Line.{lift, place, Near, ring_of}
use Rattle.pes_time.proofs.LineLemmas.{ring-lift}
use Rattle.event_table.specs.declared.event.Event.{Event}
use Rattle.event_table.specs.declared.table.Entry.{Entry}
use Rattle.event_table.specs.Rings.{is_before_on_ring}
use Rattle.event_table.specs.Standing.{Standing, on_ring, IsWithin, IsInReach}
use Rattle.event_table.proofs.TimeLemmas.{before-near}
use Rattle.splice_plans.specs.declared.plan.Stage.{Stage}
use Rattle.splice_plans.specs.declared.plan.Stage.TheVariants.{Waiting, Running, Closing, Over}
use Rattle.splice_plans.specs.declared.plan.Part.{Part}
use Rattle.splice_plans.specs.declared.plan.Plan.{Plan}
use Rattle.splice_plans.specs.Turning.{IsNearHigh, waiting, part_of, at_stage, entered, turned, crosses, plan_turned}
use Rattle.splice_plans.specs.Parts.{is_waiting}
use Rattle.splice_plans.specs.Waiting.{waits_before}

pub stage-waits : (s : Stage) → is_waiting s ≡ true → s ≡ Waiting
stage-waits Waiting h = refl
stage-waits Running h = absurd (true≢false (sym h))
stage-waits Closing h = absurd (true≢false (sym h))
stage-waits Over h = absurd (true≢false (sym h))

not-past : (a b : ℤ) → int_lt a b ≡ true → int_le b a ≡ false
not-past a b h = grind (arith, ints)

pub begins-not : (e : Standing) (t : ℤ) (plays : Bool) → int_lt t e.start ≡ true → turned e t plays Waiting ≡ Waiting
begins-not e t true before = ap (λ b. if b then entered e t else Waiting) (not-past t e.start before)
begins-not e t false before = refl

part-stays : (e : Standing) (t : ℤ) (plays : Bool) (part : Part) → is_waiting part.stage ≡ true → int_lt t e.start ≡ true → at_stage (turned e t plays part.stage) part ≡ part
part-stays e t plays part waits before =
    let is = stage-waits part.stage waits in
    ap (λ s. at_stage (turned e t plays s) part) is ∙ ap (λ s. at_stage s part) (begins-not e t plays before) ∙ ap (λ s. at_stage s part) (sym is)

pub plan-stays : (e : Standing) (t : ℤ) (plays : Bool) (stream : ℕ) (plan : Plan) → is_waiting (part_of plan stream).stage ≡ true → int_lt t e.start ≡ true → plan_turned e t plays stream plan ≡ plan
plan-stays e t plays stream plan waits before =
    let build : List Part → Bool → Plan = λ parts crossed. record { parts = parts; is_crossed = crossed } in
    ap (λ ps. build ps (plan.is_crossed || crosses e t (part_of plan stream).stage))
    (ap (slice_set plan.parts (stream % 8)) (part-stays e t plays (part_of plan stream) waits before) ∙ set-get_or plan.parts (stream % 8) waiting)
    ∙ ap (λ s. build plan.parts (plan.is_crossed || crosses e t s)) (stage-waits (part_of plan stream).stage waits)
    ∙ ap (build plan.parts) (or-false plan.is_crossed)

near-start : (h t : ℤ) (e : Standing) → IsInReach h e → h ≤ℤ (t +ℤ pos 900000) → t ≤ℤ (h +ℤ pos 900000) → Near t e.start
near-start h t e reach low top =
    let shortened = reach.shortened in
    let most = reach.most in
    let start = reach.start in
    let stands = reach.stands in
    record { above = omega (arith, ints); below = omega (arith, ints) }

-- a unit before the start of an event
pub before-start : (latest : Option ℤ) (e : Standing) (event : Event) (p : ℕ) → p < 2 ^ 33 → event ≡ on_ring e → IsWithin latest e → IsNearHigh latest (place latest p)
    → is_before_on_ring p event.start ≡ int_lt (place latest p) e.start
before-start None e event p fits is within near = absurd within
before-start (Some h) e event p fits is within near =
    ap (λ (x : Event). is_before_on_ring p x.start) is ∙ ap (λ q. is_before_on_ring q (ring_of e.start)) (sym (ring-lift h p fits))
    ∙ before-near (lift h p) e.start (near-start h (lift h p) e within near.0 near.1)

pub entry-stays : (stream time : ℕ) (plays : Bool) (entry : Entry Plan) → time < 2 ^ 33 → waits_before stream time entry ≡ true
    → (latest : Option ℤ) (e : Standing) → entry.event ≡ on_ring e → IsWithin latest e → IsNearHigh latest (place latest time)
    → entry.value ≡ plan_turned e (place latest time) plays stream entry.value
entry-stays stream time plays entry fits waits latest e is within near =
    let parts = and_parts (is_waiting (part_of entry.value stream).stage) (is_before_on_ring time entry.event.start) waits in
    sym (plan-stays e (place latest time) plays stream entry.value parts.0 (sym (before-start latest e entry.event time fits is within near) ∙ parts.1))
