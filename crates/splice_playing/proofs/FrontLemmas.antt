-- What goes out before a unit start, by the events that stand and the plans beside them.
use Rattle.std.proofs.Common.{◌≡◌, ℕ, suc, ◌^◌, ◌<◌, refl, ap, ◌∙◌, arith, List, [], ◌∷◌, length, Bool, not, ◌&&◌, ◌||◌}
use Rattle.std.specs.Prelude.{ℤ, Option, None, Some, map, All, replicate, slice_index_or}
use Rattle.std.proofs.lemmas.List.{get_or-replicate}
use Rattle.splice_plans.specs.declared.stream.SwitchedStream.{SwitchedStream}
use Rattle.std.specs.List.{list_any}
use Rattle.pes_time.specs.Line.{place}
use Rattle.event_table.specs.declared.event.Event.{Event}
use Rattle.event_table.specs.declared.table.Entry.{Entry}
use Rattle.event_table.specs.declared.table.Table.{Table}
use Rattle.event_table.specs.Events.{covers_on_ring}
use Rattle.event_table.specs.Standing.{Standing, on_ring, covers, IsWithin}
use Rattle.event_table.specs.Tables.{StandsFor, values_of}
use Rattle.event_table.proofs.EventLemmas.{covers-near}
use Rattle.splice_plans.specs.declared.plan.Plan.{Plan}
use Rattle.splice_plans.specs.Turning.{part_of}
use Rattle.splice_plans.specs.Parts.{is_waiting, beside}

pub covers-line : (latest : Option ℤ) (p : ℕ) → p < 2 ^ 33 → (e : Standing) → IsWithin latest e → covers_on_ring (on_ring e) p ≡ covers (place latest p) e
covers-line None p fits e within = absurd within
covers-line (Some high) p fits e within = covers-near high p fits e within

pub all-later : {X : Type 0} (P : X → Type 0) (x : X) (xs : List X) → All P (x ∷ xs) → All P xs
all-later P x xs all = λ k d l. all (suc k) d (omega (arith, l))

pub first-same : {X : Type 0} (x y : X) (xs ys : List X) → x ∷ xs ≡ y ∷ ys → x ≡ y
first-same x y xs ys h = ap (λ l. slice_index_or l 0 x) h

pub later-same : {X : Type 0} (x y : X) (xs ys : List X) → x ∷ xs ≡ y ∷ ys → xs ≡ ys
later-same {X} x y xs ys h = ap tail h
  where
    tail : List X → List X
    tail [] = []
    tail (z ∷ zs) = zs

module _ (stream : ℕ) (latest : Option ℤ) (p : ℕ) (fits : p < 2 ^ 33) where
  abbrev holds-there : Entry Plan → Bool
  holds-there entry = covers_on_ring entry.event p && not (is_waiting (part_of entry.value stream).stage)

  abbrev holds-pair : Standing × Plan → Bool
  holds-pair x = covers (place latest p) x.0 && not (is_waiting (part_of x.1 stream).stage)

  any-pairs : (es : List Standing) (xs : List (Entry Plan)) → map (λ (x : Entry Plan). x.event) xs ≡ map on_ring es → All (IsWithin latest) es
      → list_any holds-there xs ≡ list_any holds-pair (beside es (map (λ (x : Entry Plan). x.value) xs))
  any-pairs [] [] same within = refl
  any-pairs [] (x ∷ xs) same within = absurd (let n = ap length same in omega (arith, n))
  any-pairs (e ∷ es) [] same within = absurd (let n = ap length same in omega (arith, n))
  any-pairs (e ∷ es) (x ∷ xs) same within =
      let here = first-same x.event (on_ring e) _ _ same in
      let covered = ap (λ (ev : Event). covers_on_ring ev p) here ∙ covers-line latest p fits e (within 0 e (omega arith)) in
      ap (λ b. (b && not (is_waiting (part_of x.value stream).stage)) || list_any holds-there xs) covered
      ∙ ap (λ b. holds-pair (e, x.value) || b) (any-pairs es xs (later-same x.event (on_ring e) _ _ same) (all-later (IsWithin latest) e es within))

  pub inside-pairs : (t : Table Plan) (es : List Standing) → StandsFor t latest es → list_any holds-there t.entries.items ≡ list_any holds-pair (beside es (values_of t))
  inside-pairs t es s = any-pairs es t.entries.items s.events s.within

-- each of eight streams is that one
pub each-new : (new : SwitchedStream) (i : ℕ) (s : SwitchedStream) → i < 8 → slice_index_or (replicate 8 new) i s ≡ new
each-new new i s below = get_or-replicate 8 i new s below
