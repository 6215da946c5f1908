-- Packets that are no payload packets of switched PIDs change nothing of what is placed in a stream.
use Rattle.std.proofs.Common.{◌≡◌, ℕ, ℤ, List, [], ◌∷◌, ◌++◌, Bool, true, false, not, ◌&&◌, ◌||◌, refl, sym, ap, ◌∙◌, if◌then◌else◌}
use Rattle.std.specs.List.{AllByRecursion}
use Rattle.std.specs.Prelude.{filter}
use Rattle.ts_packet.specs.Fields.{payload_on, bytes, unit_start}
use Rattle.ts_packet.specs.Duplicates.{repeats, original}
use Rattle.ts_packet.specs.Runs.{seen_after}
use Rattle.ts_packet.proofs.Cases.{by_test}
use Rattle.unit_stream.specs.Times.{begins, high, unit_time}
use Rattle.unit_stream.specs.Units.{is_original, rest_of_unit, has_payload, rest_of_row, lead_in}
use Rattle.program_laws.specs.Behind.{TakesAll, SameUnits}
use Rattle.program_laws.proofs.UnitLemmas.{others_are_no_units}
use Rattle.splice_laws.specs.Splicing.{PlayedEvent, SliceUnit, TimedStream, stream, at_or_past, below, outside, break_stands, comes, passed, opens, begun, as_inserted, slice_at, all_slices_at}
use Rattle.output_laws.specs.Spliced.{inserted_payloads, unit_at, placed_payloads}
use Rattle.splice_plans.specs.Playing.{is_crossed}
use Rattle.std.proofs.Math.Bool.{or-false}

pub filter-twice : {A : Type 0} (f : A → Bool) (xs : List A) → filter f (filter f xs) ≡ filter f xs
filter-twice f [] = refl
filter-twice f (x ∷ xs) = by_test (f x) (λ y. simp (y, y) (ap (λ l. x ∷ l) (filter-twice f xs))) (λ n. simp n (filter-twice f xs))

-- a narrower test
pub filter-within : {A : Type 0} (f g : A → Bool) → ((x : A) → f x ≡ false → g x ≡ false) → (xs : List A) → filter g (filter f xs) ≡ filter g xs
filter-within f g w [] = refl
filter-within f g w (x ∷ xs) = by_test (f x)
    (λ y. by_test (g x) (λ z. simp (y, z) (ap (λ l. x ∷ l) (filter-within f g w xs))) (λ z. simp (y, z) (filter-within f g w xs)))
    (λ n. let z = w x n in simp (n, z) (filter-within f g w xs))

module _ (takes : List ℕ → Bool) (switched : List ℕ) (every : AllByRecursion (TakesAll takes) switched) (pid : ℕ) (all : TakesAll takes pid) where
  abbrev r : TimedStream
  r = stream switched pid

  taken : (q : List ℕ) (past : List (List ℕ)) → takes q ≡ true → filter takes (q ∷ past) ≡ q ∷ filter takes past
  taken q past h = simp h refl

  left : (q : List ℕ) (past : List (List ℕ)) → takes q ≡ false → filter takes (q ∷ past) ≡ filter takes past
  left q past h = simp h refl

  repeats_taken : (p : List ℕ) (past : List (List ℕ)) → repeats pid p past ≡ repeats pid p (filter takes past)
  repeats_taken p [] = refl
  repeats_taken p (q ∷ past) =
      let i = repeats_taken p past in
      let j = repeats_taken q past in
      by_test (takes q)
      (λ y. rw (taken q past y) (simp (i, j) refl))
      (λ n. let k = all q n in rw (left q past n) (simp k i))

  begins_taken : (p : List ℕ) (past : List (List ℕ)) → begins pid p past ≡ begins pid p (filter takes past)
  begins_taken p past = ap (λ x. (payload_on pid p && not x) && unit_start p) (repeats_taken p past)

  original_taken : (p : List ℕ) (past : List (List ℕ)) → original pid p past ≡ original pid p (filter takes past)
  original_taken p past = ap (λ x. payload_on pid p && not x) (repeats_taken p past)

  begins_not : (p : List ℕ) (past : List (List ℕ)) → takes p ≡ false → begins pid p past ≡ false
  begins_not p past n = let k = all p n in simp k refl

  original_not : (p : List ℕ) (past : List (List ℕ)) → takes p ≡ false → original pid p past ≡ false
  original_not p past n = let k = all p n in simp k refl

  same : (past : List (List ℕ)) → SameUnits switched past (filter takes past) pid
  same past = others_are_no_units takes switched pid past (filter takes past) every all (sym (filter-twice takes past))

  high_taken : (past : List (List ℕ)) → high switched past ≡ high switched (filter takes past)
  high_taken past = (same past).high

  time_with : (p : List ℕ) (past : List (List ℕ)) → takes p ≡ true → unit_time switched pid (p ∷ past) ≡ unit_time switched pid (p ∷ filter takes past)
  time_with p past y = (same (p ∷ past)).time ∙ ap (unit_time switched pid) (taken p past y)

  -- ---- one event

  comes_taken : (edge : ℤ) (p : List ℕ) (past : List (List ℕ)) → takes p ≡ true → comes r edge p past ≡ comes r edge p (filter takes past)
  comes_taken edge p past y =
      ap (λ b. b && at_or_past edge (unit_time switched pid (p ∷ past))) (begins_taken p past)
      ∙ ap (λ t. begins pid p (filter takes past) && at_or_past edge t) (time_with p past y)

  comes_not : (edge : ℤ) (p : List ℕ) (past : List (List ℕ)) → takes p ≡ false → comes r edge p past ≡ false
  comes_not edge p past n = ap (λ b. b && at_or_past edge (unit_time switched pid (p ∷ past))) (begins_not p past n)

  opens_taken : (x : PlayedEvent) (p : List ℕ) (past : List (List ℕ)) → takes p ≡ true → opens r x p past ≡ opens r x p (filter takes past)
  opens_taken x p past y =
      ap (λ b. b && break_stands x (high switched past)) (comes_taken x.start p past y)
      ∙ ap (λ h. comes r x.start p (filter takes past) && break_stands x h) (high_taken past)

  opens_not : (x : PlayedEvent) (p : List ℕ) (past : List (List ℕ)) → takes p ≡ false → opens r x p past ≡ false
  opens_not x p past n = ap (λ b. b && break_stands x (high switched past)) (comes_not x.start p past n)

  pub passed_taken : (edge : ℤ) (past : List (List ℕ)) → passed r edge past ≡ passed r edge (filter takes past)
  passed_taken edge [] = refl
  passed_taken edge (p ∷ past) = by_test (takes p)
      (λ y. rw (taken p past y) (
      ap (λ b. b || comes r edge p past) (passed_taken edge past)
      ∙ ap (λ b. passed r edge (filter takes past) || b) (comes_taken edge p past y)))
      (λ n. rw (left p past n) (
      ap (λ b. passed r edge past || b) (comes_not edge p past n) ∙ or-false (passed r edge past) ∙ passed_taken edge past))

  pub begun_taken : (x : PlayedEvent) (past : List (List ℕ)) → begun r x past ≡ begun r x (filter takes past)
  begun_taken x [] = refl
  begun_taken x (p ∷ past) = by_test (takes p)
      (λ y. rw (taken p past y) (
      ap (λ b. b || opens r x p past) (begun_taken x past)
      ∙ ap (λ b. begun r x (filter takes past) || b) (opens_taken x p past y)))
      (λ n. rw (left p past n) (
      ap (λ b. begun r x past || b) (opens_not x p past n) ∙ or-false (begun r x past) ∙ begun_taken x past))

  pub crossed_taken : (edge : ℤ) (past : List (List ℕ)) → is_crossed r edge past ≡ is_crossed r edge (filter takes past)
  crossed_taken edge [] = refl
  crossed_taken edge (p ∷ past) = by_test (takes p)
      (λ y. rw (taken p past y) (
      ap (λ b. b || (begins pid p past && (passed r edge past && below edge (unit_time switched pid (p ∷ past))))) (crossed_taken edge past)
      ∙ ap (λ b. is_crossed r edge (filter takes past) || (b && (passed r edge past && below edge (unit_time switched pid (p ∷ past))))) (begins_taken p past)
      ∙ ap (λ b. is_crossed r edge (filter takes past) || (begins pid p (filter takes past) && (b && below edge (unit_time switched pid (p ∷ past))))) (passed_taken edge past)
      ∙ ap (λ t. is_crossed r edge (filter takes past) || (begins pid p (filter takes past) && (passed r edge (filter takes past) && below edge t))) (time_with p past y)))
      (λ n. rw (left p past n) (
      ap (λ b. is_crossed r edge past || (b && (passed r edge past && below edge (unit_time switched pid (p ∷ past))))) (begins_not p past n)
      ∙ or-false (is_crossed r edge past) ∙ crossed_taken edge past))

  -- ---- what is placed

  slice_taken : (x : PlayedEvent) (us : List SliceUnit) (p : List ℕ) (past : List (List ℕ)) → takes p ≡ true → slice_at r x us p past ≡ slice_at r x us p (filter takes past)
  slice_taken x us p past y =
      ap (λ b. if b && not (passed r x.start past) then us else []) (opens_taken x p past y)
      ∙ ap (λ b. if opens r x p (filter takes past) && not b then us else []) (passed_taken x.start past)

  slice_not : (x : PlayedEvent) (us : List SliceUnit) (p : List ℕ) (past : List (List ℕ)) → takes p ≡ false → slice_at r x us p past ≡ []
  slice_not x us p past n = ap (λ b. if b && not (passed r x.start past) then us else []) (opens_not x p past n)

  module _ (slice : PlayedEvent → List SliceUnit) where
    slices_taken : (xs : List PlayedEvent) (p : List ℕ) (past : List (List ℕ)) → takes p ≡ true → all_slices_at r xs slice p past ≡ all_slices_at r xs slice p (filter takes past)
    slices_taken [] p past y = refl
    slices_taken (x ∷ xs) p past y =
        ap (λ us. as_inserted us ++ all_slices_at r xs slice p past) (slice_taken x (slice x) p past y)
        ∙ ap (λ l. as_inserted (slice_at r x (slice x) p (filter takes past)) ++ l) (slices_taken xs p past y)

    slices_not : (xs : List PlayedEvent) (p : List ℕ) (past : List (List ℕ)) → takes p ≡ false → all_slices_at r xs slice p past ≡ []
    slices_not [] p past n = refl
    slices_not (x ∷ xs) p past n = ap (λ us. as_inserted us ++ all_slices_at r xs slice p past) (slice_not x (slice x) p past n) ∙ slices_not xs p past n

  rest_step : (o s : Bool) (p : List ℕ) (past ps : List (List ℕ)) → original pid p past ≡ o → unit_start p ≡ s →
      rest_of_unit (filter (is_original pid) (seen_after (p ∷ past) ps)) ≡ rest_of_unit (filter (is_original pid) (seen_after (p ∷ filter takes past) (filter takes ps))) →
      rest_of_unit (filter (is_original pid) (seen_after past (p ∷ ps))) ≡ rest_of_unit (filter (is_original pid) (seen_after (filter takes past) (p ∷ filter takes ps)))
  rest_step true true p past ps o s h = let k = sym (original_taken p past) ∙ o in simp (o, k, s) refl
  rest_step true false p past ps o s h = let k = sym (original_taken p past) ∙ o in simp (o, k, s) (ap (λ l. bytes p ++ l) h)
  rest_step false s p past ps o e h = let k = sym (original_taken p past) ∙ o in simp (o, k) h

  rest_taken : (past ps : List (List ℕ)) → rest_of_unit (filter (is_original pid) (seen_after past ps)) ≡ rest_of_unit (filter (is_original pid) (seen_after (filter takes past) (filter takes ps)))
  rest_taken past [] = refl
  rest_taken past (p ∷ ps) = by_test (takes p)
      (λ y. rw (taken p ps y) (
      rest_step (original pid p past) (unit_start p) p past ps refl refl
      (rest_taken (p ∷ past) ps ∙ ap (λ l. rest_of_unit (filter (is_original pid) (seen_after l (filter takes ps)))) (taken p past y))))
      (λ n. rw (left p ps n) (
      let o = original_not p past n in
      let same_one : rest_of_unit (filter (is_original pid) (seen_after past (p ∷ ps))) ≡ rest_of_unit (filter (is_original pid) (seen_after (p ∷ past) ps)) = simp o refl in
      same_one ∙ rest_taken (p ∷ past) ps ∙ ap (λ l. rest_of_unit (filter (is_original pid) (seen_after l (filter takes ps)))) (left p past n)))

  unit_taken : (xs : List PlayedEvent) (past : List (List ℕ)) (p : List ℕ) (ps : List (List ℕ)) → takes p ≡ true → unit_at switched pid xs past p ps ≡ unit_at switched pid xs (filter takes past) p (filter takes ps)
  unit_taken xs past p ps y =
      let K = filter takes past in
      let U = bytes p ++ rest_of_unit (filter (is_original pid) (seen_after (p ∷ past) ps)) in
      ap (λ b. if b && outside xs (unit_time switched pid (p ∷ past)) then U ∷ [] else []) (begins_taken p past)
      ∙ ap (λ t. if begins pid p (filter takes past) && outside xs t then U ∷ [] else []) (time_with p past y)
      ∙ ap (λ l. if begins pid p (filter takes past) && outside xs (unit_time switched pid (p ∷ filter takes past)) then (bytes p ++ l) ∷ [] else [])
      (rest_taken (p ∷ past) ps ∙ ap (λ l. rest_of_unit (filter (is_original pid) (seen_after l (filter takes ps)))) (taken p past y))

  unit_not : (xs : List PlayedEvent) (past : List (List ℕ)) (p : List ℕ) (ps : List (List ℕ)) → takes p ≡ false → unit_at switched pid xs past p ps ≡ []
  unit_not xs past p ps n =
      ap (λ b. if b && outside xs (unit_time switched pid (p ∷ past)) then (bytes p ++ rest_of_unit (filter (is_original pid) (seen_after (p ∷ past) ps))) ∷ [] else []) (begins_not p past n)

  pub placed_taken : (xs : List PlayedEvent) (slice : PlayedEvent → List SliceUnit) (past ps : List (List ℕ)) →
      placed_payloads switched pid xs slice past ps ≡ placed_payloads switched pid xs slice (filter takes past) (filter takes ps)
  placed_taken xs slice past [] = refl
  placed_taken xs slice past (p ∷ ps) = by_test (takes p)
      (λ y. rw (taken p ps y) (
      ap (λ l. inserted_payloads l ++ (unit_at switched pid xs past p ps ++ placed_payloads switched pid xs slice (p ∷ past) ps)) (slices_taken slice xs p past y)
      ∙ ap (λ l. inserted_payloads (all_slices_at r xs slice p (filter takes past)) ++ (l ++ placed_payloads switched pid xs slice (p ∷ past) ps)) (unit_taken xs past p ps y)
      ∙ ap (λ l. inserted_payloads (all_slices_at r xs slice p (filter takes past)) ++ (unit_at switched pid xs (filter takes past) p (filter takes ps) ++ l))
      (placed_taken xs slice (p ∷ past) ps ∙ ap (λ l. placed_payloads switched pid xs slice l (filter takes ps)) (taken p past y))))
      (λ n. rw (left p ps n) (
      ap (λ l. inserted_payloads l ++ (unit_at switched pid xs past p ps ++ placed_payloads switched pid xs slice (p ∷ past) ps)) (slices_not slice xs p past n)
      ∙ ap (λ l. l ++ placed_payloads switched pid xs slice (p ∷ past) ps) (unit_not xs past p ps n)
      ∙ placed_taken xs slice (p ∷ past) ps ∙ ap (λ l. placed_payloads switched pid xs slice l (filter takes ps)) (left p past n)))

  -- ---- before the first unit

  lead_step : (y b : Bool) (p : List ℕ) (past ps : List (List ℕ)) → payload_on pid p ≡ y → begins pid p past ≡ b →
      rest_of_row pid (filter (has_payload pid) (seen_after (p ∷ past) ps)) ≡ rest_of_row pid (filter (has_payload pid) (seen_after (p ∷ filter takes past) (filter takes ps))) →
      rest_of_row pid (filter (has_payload pid) (seen_after past (p ∷ ps))) ≡ rest_of_row pid (filter (has_payload pid) (seen_after (filter takes past) (p ∷ filter takes ps)))
  lead_step true true p past ps y b h = let k = sym (begins_taken p past) ∙ b in row-first b k
    where
      pick : (y b b' : Bool) (A B : List (List ℕ)) → b ≡ true → b' ≡ true → (if b then [] else A) ≡ (if b' then [] else B)
      pick y true true A B g k = refl
      pick y true false A B g k = cc
      pick y false b' A B g k = cc

      row-first : begins pid p past ≡ true → begins pid p (filter takes past) ≡ true →
          rest_of_row pid (filter (has_payload pid) (seen_after past (p ∷ ps))) ≡ rest_of_row pid (filter (has_payload pid) (seen_after (filter takes past) (p ∷ filter takes ps)))
      row-first b k =
          ap (λ c. rest_of_row pid (if c then record { packet = p; past = past } ∷ filter (has_payload pid) (seen_after (p ∷ past) ps) else filter (has_payload pid) (seen_after (p ∷ past) ps))) y
          ∙ pick true (begins pid p past) (begins pid p (filter takes past)) (p ∷ rest_of_row pid (filter (has_payload pid) (seen_after (p ∷ past) ps))) (p ∷ rest_of_row pid (filter (has_payload pid) (seen_after (p ∷ filter takes past) (filter takes ps)))) b k
          ∙ sym (ap (λ c. rest_of_row pid (if c then record { packet = p; past = filter takes past } ∷ filter (has_payload pid) (seen_after (p ∷ filter takes past) (filter takes ps)) else filter (has_payload pid) (seen_after (p ∷ filter takes past) (filter takes ps)))) y)
  lead_step true false p past ps y b h = let k = sym (begins_taken p past) ∙ b in row-on b k
    where
      pick : (b b' : Bool) (A B : List (List ℕ)) → b ≡ false → b' ≡ false → A ≡ B → (if b then [] else A) ≡ (if b' then [] else B)
      pick true b' A B g k e = cc
      pick false true A B g k e = cc
      pick false false A B g k e = e

      row-on : begins pid p past ≡ false → begins pid p (filter takes past) ≡ false →
          rest_of_row pid (filter (has_payload pid) (seen_after past (p ∷ ps))) ≡ rest_of_row pid (filter (has_payload pid) (seen_after (filter takes past) (p ∷ filter takes ps)))
      row-on b k =
          ap (λ c. rest_of_row pid (if c then record { packet = p; past = past } ∷ filter (has_payload pid) (seen_after (p ∷ past) ps) else filter (has_payload pid) (seen_after (p ∷ past) ps))) y
          ∙ pick (begins pid p past) (begins pid p (filter takes past)) (p ∷ rest_of_row pid (filter (has_payload pid) (seen_after (p ∷ past) ps))) (p ∷ rest_of_row pid (filter (has_payload pid) (seen_after (p ∷ filter takes past) (filter takes ps)))) b k (ap (λ l. p ∷ l) h)
          ∙ sym (ap (λ c. rest_of_row pid (if c then record { packet = p; past = filter takes past } ∷ filter (has_payload pid) (seen_after (p ∷ filter takes past) (filter takes ps)) else filter (has_payload pid) (seen_after (p ∷ filter takes past) (filter takes ps)))) y)
  lead_step false b p past ps y e h = simp y h

  lead_from : (past ps : List (List ℕ)) → rest_of_row pid (filter (has_payload pid) (seen_after past ps)) ≡ rest_of_row pid (filter (has_payload pid) (seen_after (filter takes past) (filter takes ps)))
  lead_from past [] = refl
  lead_from past (p ∷ ps) = by_test (takes p)
      (λ y. rw (taken p ps y) (
      lead_step (payload_on pid p) (begins pid p past) p past ps refl refl
      (lead_from (p ∷ past) ps ∙ ap (λ l. rest_of_row pid (filter (has_payload pid) (seen_after l (filter takes ps)))) (taken p past y))))
      (λ n. rw (left p ps n) (
      let o = all p n in
      let same_one : rest_of_row pid (filter (has_payload pid) (seen_after past (p ∷ ps))) ≡ rest_of_row pid (filter (has_payload pid) (seen_after (p ∷ past) ps)) = simp o refl in
      same_one ∙ lead_from (p ∷ past) ps ∙ ap (λ l. rest_of_row pid (filter (has_payload pid) (seen_after l (filter takes ps)))) (left p past n)))

  pub lead_taken : (ps : List (List ℕ)) → lead_in pid ps ≡ lead_in pid (filter takes ps)
  lead_taken ps = lead_from [] ps

-- ---- two runs with the same packets of these

module _ (takes : List ℕ → Bool) (switched : List ℕ) (every : AllByRecursion (TakesAll takes) switched) (pid : ℕ) (all : TakesAll takes pid) (past other : List (List ℕ)) (h : filter takes past ≡ filter takes other) where
  pub begun_both : (x : PlayedEvent) → begun (stream switched pid) x past ≡ begun (stream switched pid) x other
  begun_both x = begun_taken takes switched every pid all x past ∙ ap (begun (stream switched pid) x) h ∙ sym (begun_taken takes switched every pid all x other)

  pub crossed_both : (edge : ℤ) → is_crossed (stream switched pid) edge past ≡ is_crossed (stream switched pid) edge other
  crossed_both edge = crossed_taken takes switched every pid all edge past ∙ ap (is_crossed (stream switched pid) edge) h ∙ sym (crossed_taken takes switched every pid all edge other)

  pub placed_both : (xs : List PlayedEvent) (slice : PlayedEvent → List SliceUnit) → placed_payloads switched pid xs slice [] past ≡ placed_payloads switched pid xs slice [] other
  placed_both xs slice = placed_taken takes switched every pid all xs slice [] past ∙ ap (placed_payloads switched pid xs slice []) h ∙ sym (placed_taken takes switched every pid all xs slice [] other)

  pub lead_both : lead_in pid past ≡ lead_in pid other
  lead_both = lead_taken takes switched every pid all past ∙ ap (lead_in pid) h ∙ sym (lead_taken takes switched every pid all other)
