-- A unit that leaves all events as they are in its stream: none comes further or is crossed, and none closes.
use Rattle.std.proofs.Common.{◌≡◌, ℕ, ◌%◌, ◌^◌, ◌<◌, List, [], ◌∷◌, length, map, Bool, true, false, not, ◌&&◌, ◌||◌, if◌then◌else◌, refl, sym, ap, ◌∙◌, arith, Option, Some}
use Rattle.std.specs.Prelude.{ℤ, int_le, int_lt, All, filter, slice_set}
use Rattle.std.specs.List.{list_all}
use Rattle.std.proofs.lemmas.Int.{ints}
use Rattle.std.proofs.lemmas.Bool.{true≢false, and_parts}
use Rattle.std.proofs.lemmas.List.{set-get_or}
use Rattle.std.proofs.Math.Bool.{or-false}
use Rattle.ts_packet.specs.Numbering.{Step}
use Rattle.pes_time.specs.Line.{place}
use Rattle.psi_tables.specs.declared.stream.Stream.{Stream}
use Rattle.event_table.specs.declared.event.Event.{Event}
use Rattle.event_table.specs.declared.table.Entry.{Entry}
use Rattle.event_table.specs.declared.table.Table.{Table}
use Rattle.event_table.specs.Events.{covers_on_ring, ring_end}
use Rattle.event_table.specs.Rings.{is_before_on_ring}
use Rattle.event_table.specs.Standing.{Standing, on_ring, covers, end_of, IsWithin}
use Rattle.event_table.specs.Tables.{StandsFor, values_of}
use Rattle.ad_library.specs.Advertisements.{Advertisement}
use Rattle.splice_plans.specs.declared.plan.Stage.{Stage}
use Rattle.splice_plans.specs.declared.plan.Stage.TheVariants.{Waiting, Running, Closing, Over}
use Rattle.splice_plans.specs.declared.plan.Part.{Part}
use Rattle.splice_plans.specs.declared.plan.Plan.{Plan}
use Rattle.splice_plans.specs.Adverts.{adverts_of}
use Rattle.splice_plans.specs.Playing.{Adverts, is_played}
use Rattle.splice_plans.specs.Turning.{IsNearHigh, waiting, part_of, at_stage, entered, turned, crosses, plan_turned}
use Rattle.splice_plans.specs.Parts.{is_closing, all_turned, beside, closes_in, closing_pairs, closed_plan}
use Rattle.splice_plans.specs.Waiting.{stays, stays_in}
use Rattle.splice_plans.specs.Fronts.{closing_packets, closed_plans}
use Rattle.splice_plans.proofs.WaitLemmas.{before-start, begins-not}
use Rattle.splice_plans.proofs.TurnLemmas.{before-end}
use Rattle.splice_playing.proofs.WaitingLemmas.{not-so}
use Rattle.splice_playing.proofs.FrontLemmas.{covers-line, all-later, first-same, later-same}

-- ---- one event in one stream

not-under : (a b : ℤ) → int_le a b ≡ true → int_lt b a ≡ false
not-under a b h = grind (arith, ints)

held-past : (t : ℤ) (e : Standing) → covers t e ≡ true → int_lt t e.start ≡ false
held-past t e h =
    let parts = and_parts (not e.cancelled && int_le e.start t) (int_lt t (end_of e)) h in
    not-under e.start t (and_parts (not e.cancelled) (int_le e.start t) parts.0).1

module _ (latest : Option ℤ) (e : Standing) (event : Event) (p : ℕ) (fits : p < 2 ^ 33) (is : event ≡ on_ring e) (within : IsWithin latest e) (near : IsNearHigh latest (place latest p)) where
  covered : covers_on_ring event p ≡ true → covers (place latest p) e ≡ true
  covered h = sym (ap (λ (ev : Event). covers_on_ring ev p) is ∙ covers-line latest p fits e within) ∙ h

  stage-stays : (plays : Bool) → (e.cancelled ≡ true → plays ≡ false) → (stage : Stage) → stays event p stage ≡ true → turned e (place latest p) plays stage ≡ stage
  stage-stays plays never Waiting h = by event.cancelled refl h
    where
      by : (b : Bool) → event.cancelled ≡ b → (b || is_before_on_ring p event.start) ≡ true → turned e (place latest p) plays Waiting ≡ Waiting
      by true k h = ap (λ b. if b && int_le e.start (place latest p) then entered e (place latest p) else Waiting) (never (sym (ap (λ (ev : Event). ev.cancelled) is) ∙ k))
      by false k h = begins-not e (place latest p) plays (sym (before-start latest e event p fits is within near) ∙ h)
  stage-stays plays never Running h = ap (λ b. if b then Running else Closing) (covered h)
  stage-stays plays never Closing h = absurd (true≢false (sym h))
  stage-stays plays never Over h = refl

  stage-uncrossed : (stage : Stage) → stays event p stage ≡ true → crosses e (place latest p) stage ≡ false
  stage-uncrossed Waiting h = refl
  stage-uncrossed Running h = held-past (place latest p) e (covered h)
  stage-uncrossed Closing h = absurd (true≢false (sym h))
  stage-uncrossed Over h = sym (before-end latest e event p fits is within near) ∙ not-so (is_before_on_ring p (ring_end event)) h

  plan-stays : (plays : Bool) → (e.cancelled ≡ true → plays ≡ false) → (stream : ℕ) (plan : Plan) → stays event p (part_of plan stream).stage ≡ true → plan_turned e (place latest p) plays stream plan ≡ plan
  plan-stays plays never stream plan h =
      let build : List Part → Bool → Plan = λ parts crossed. record { parts = parts; is_crossed = crossed } in
      let stage = (part_of plan stream).stage in
      ap (λ s. build (slice_set plan.parts (stream % 8) (at_stage s (part_of plan stream))) (plan.is_crossed || crosses e (place latest p) stage)) (stage-stays plays never stage h)
      ∙ ap (λ ps. build ps (plan.is_crossed || crosses e (place latest p) stage)) (set-get_or plan.parts (stream % 8) waiting)
      ∙ ap (λ b. build plan.parts (plan.is_crossed || b)) (stage-uncrossed stage h)
      ∙ ap (build plan.parts) (or-false plan.is_crossed)

open-stage : (event : Event) (p : ℕ) (stage : Stage) → stays event p stage ≡ true → is_closing stage ≡ false
open-stage event p Waiting h = refl
open-stage event p Running h = refl
open-stage event p Closing h = absurd (true≢false (sym h))
open-stage event p Over h = refl

-- ---- all of them

module _ (stream : ℕ) (p : ℕ) where
  abbrev values : List (Entry Plan) → List Plan
  values xs = map (λ (x : Entry Plan). x.value) xs

  stay-parts : (x : Entry Plan) (xs : List (Entry Plan)) → list_all (stays_in stream p) (x ∷ xs) ≡ true → (stays_in stream p x ≡ true) × (list_all (stays_in stream p) xs ≡ true)
  stay-parts x xs h = and_parts (stays_in stream p x) (list_all (stays_in stream p) xs) h

  turned-same : (ads : Adverts) (latest : Option ℤ) → p < 2 ^ 33 → IsNearHigh latest (place latest p) → (es : List Standing) (xs : List (Entry Plan)) → map (λ (x : Entry Plan). x.event) xs ≡ map on_ring es → All (IsWithin latest) es
      → list_all (stays_in stream p) xs ≡ true → all_turned ads stream (place latest p) es (values xs) ≡ values xs
  turned-same ads latest fits near [] [] same within h = refl
  turned-same ads latest fits near [] (x ∷ xs) same within h = absurd (let n = ap length same in omega (arith, n))
  turned-same ads latest fits near (e ∷ es) [] same within h = absurd (let n = ap length same in omega (arith, n))
  turned-same ads latest fits near (e ∷ es) (x ∷ xs) same within h =
      let parts = stay-parts x xs h in
      let here = first-same x.event (on_ring e) _ _ same in
      ap (λ plan. plan ∷ all_turned ads stream (place latest p) es (values xs))
      (plan-stays latest e x.event p fits here (within 0 e (omega arith)) near (is_played ads e) (λ k. ap (λ b. not b && ads.fits e) k) stream x.value parts.0)
      ∙ ap (λ l. x.value ∷ l) (turned-same ads latest fits near es xs (later-same x.event (on_ring e) _ _ same) (all-later (IsWithin latest) e es within) parts.1)

  none-closing : (es : List Standing) (xs : List (Entry Plan)) → list_all (stays_in stream p) xs ≡ true → filter (λ (x : Standing × Plan). closes_in stream x.1) (beside es (values xs)) ≡ []
  none-closing [] xs h = refl
  none-closing (e ∷ es) [] h = refl
  none-closing (e ∷ es) (x ∷ xs) h =
      let parts = stay-parts x xs h in
      let no : closes_in stream x.value ≡ false = open-stage x.event p (part_of x.value stream).stage parts.0 in
      simp no (none-closing es xs parts.1)

  none-closed : (filed : ℕ → Option Advertisement) (streams : List Stream) (of : Stream) (es : List Standing) (xs : List (Entry Plan)) → map (λ (x : Entry Plan). x.event) xs ≡ map on_ring es → list_all (stays_in stream p) xs ≡ true
      → map (closed_plan filed streams stream of) (beside es (values xs)) ≡ values xs
  none-closed filed streams of [] [] same h = refl
  none-closed filed streams of [] (x ∷ xs) same h = absurd (let n = ap length same in omega (arith, n))
  none-closed filed streams of (e ∷ es) [] same h = absurd (let n = ap length same in omega (arith, n))
  none-closed filed streams of (e ∷ es) (x ∷ xs) same h =
      let parts = stay-parts x xs h in
      let no : closes_in stream x.value ≡ false = open-stage x.event p (part_of x.value stream).stage parts.0 in
      simp no (ap (λ l. x.value ∷ l) (none-closed filed streams of es xs (later-same x.event (on_ring e) _ _ same) parts.1))

  module _ (filed : ℕ → Option Advertisement) (streams : List Stream) (of : Stream) (latest : Option ℤ) (fits : p < 2 ^ 33) (near : IsNearHigh latest (place latest p)) (table : Table Plan) (es : List Standing) (s : StandsFor table latest es)
      (h : list_all (stays_in stream p) table.entries.items ≡ true) where
    pub closing-held : (steps : List Step) → closing_packets filed streams stream of latest (Some p) steps es (values_of table) ≡ []
    closing-held steps =
        ap (λ vs. Rattle.splice_plans.specs.Parts.rest_packets filed streams stream of steps (closing_pairs stream (beside es vs))) (turned-same (adverts_of filed streams) latest fits near es table.entries.items s.events s.within h)
        ∙ ap (λ xs. Rattle.splice_plans.specs.Parts.rest_packets filed streams stream of steps (Rattle.splice_plans.specs.Parts.pairs_by_start xs)) (none-closing es table.entries.items h)

    pub closed-held : closed_plans filed streams stream of latest (Some p) es (values_of table) ≡ values_of table
    closed-held =
        ap (λ vs. map (closed_plan filed streams stream of) (beside es vs)) (turned-same (adverts_of filed streams) latest fits near es table.entries.items s.events s.within h)
        ∙ none-closed filed streams of es table.entries.items s.events h
