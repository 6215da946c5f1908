-- A row of packets joins to its unit, also where each packet is replaced by one that carries the same and repeats where it does.
use Rattle.std.specs.Prelude.{filter}
use Rattle.std.proofs.Common.{◌≡◌, ℕ, List, [], ◌∷◌, ◌++◌, Bool, true, false, not, ◌&&◌, refl, sym, ap, ◌∙◌, if◌then◌else◌, Option, None, Some, map, subst, inl, inr}
use Rattle.ts_packet.specs.declared.follower.Last.{Last}
use Rattle.ts_packet.specs.Fields.{payload_on, unit_start, bytes, alike}
use Rattle.ts_packet.specs.Duplicates.{repeats, repeats_last, last_of}
use Rattle.ts_packet.specs.Runs.{seen_after}
use Rattle.ts_packet.proofs.Cases.{by_test}
use Rattle.ts_packet.proofs.HistoryLemmas.{walk_is_last}
use Rattle.unit_stream.specs.Units.{is_original, rest_of_unit, units_of, rows_of, has_payload, rest_of_row}
use Rattle.unit_stream.specs.Carrying.{IsDouble, Joins}
use Rattle.unit_stream.specs.Rows.{AreRowsOf, row_packets, RowsJoin}

-- the packet that the next one may double: the last payload packet, replaced, unless it is a duplicate
abbrev pub doubled : (List ℕ → List ℕ) → Option Last → Option (List ℕ)
doubled f None = None
doubled f (Some l) = if l.is_repeat then None else Some (f l.packet)

module _ (f : List ℕ → List ℕ) (alike_is : (q p : List ℕ) → alike (f q) (f p) ≡ alike q p) where
  double_both : (b : Bool) (p q : List ℕ) → alike q p && not b ≡ true → IsDouble (if b then None else Some (f q)) (f p)
  double_both true p q h = by_test (alike q p) (λ a. let e = simp a at h in cc) (λ a. let e = simp a at h in cc)
  double_both false p q h = rw (alike_is q p) (by_test (alike q p) (λ a. a) (λ a. let e = simp a at h in cc))

  -- a duplicate is a double
  double_kept : (p : List ℕ) (ol : Option Last) → repeats_last p ol ≡ true → IsDouble (doubled f ol) (f p)
  double_kept p None h = cc
  double_kept p (Some l) h = double_both l.is_repeat p l.packet h

  module _ (start_is : (p : List ℕ) → unit_start (f p) ≡ unit_start p) (bytes_is : (p : List ℕ) → bytes (f p) ≡ bytes p) (pid : ℕ) where
    -- the rest of a row, replaced, joins to the rest of the unit
    abbrev pub RowJoins : List (List ℕ) → List (List ℕ) → Type 0
    RowJoins past ps = Joins (doubled f (last_of pid past)) (map f (rest_of_row pid (filter (has_payload pid) (seen_after past ps))))
        (rest_of_unit (filter (is_original pid) (seen_after past ps)))

    row_more : (p : List ℕ) (past ps : List (List ℕ)) → RowJoins (p ∷ past) ps → RowJoins past (p ∷ ps)
    row_more p past ps h =
        by_test (payload_on pid p)
        (λ y. by_test (repeats pid p past)
        (λ r.
        let again = sym (walk_is_last pid p past) ∙ r in
        let e = simp (y, r) at h in simp (y, r) (inl (double_kept p (last_of pid past) again, e)))
        (λ r. by_test (unit_start p)
        (λ s. simp (y, r, s))
        (λ s. let e = simp (y, r) at h in
        simp (y, r, s) (inr (start_is p ∙ s, (rest_of_unit (filter (is_original pid) (seen_after (p ∷ past) ps)), ap (λ l. l ++ rest_of_unit (filter (is_original pid) (seen_after (p ∷ past) ps))) (sym (bytes_is p)), e))))))
        (λ y. let e = simp y at h in simp y e)

    pub row_joins : (past ps : List (List ℕ)) → RowJoins past ps
    row_joins past [] = refl
    row_joins past (p ∷ ps) = row_more p past ps (row_joins (p ∷ past) ps)

-- ---- the rows of a run

map-same : (ps : List (List ℕ)) → map (λ (p : List ℕ). p) ps ≡ ps
map-same [] = refl
map-same (p ∷ ps) = ap (λ l. p ∷ l) (map-same ps)

module _ (sw : List ℕ) (pid : ℕ) where
  row_plain : (past ps : List (List ℕ)) → Joins (doubled (λ (p : List ℕ). p) (last_of pid past)) (rest_of_row pid (filter (has_payload pid) (seen_after past ps)))
      (rest_of_unit (filter (is_original pid) (seen_after past ps)))
  row_plain past ps =
      subst (λ qs. Joins (doubled (λ (p : List ℕ). p) (last_of pid past)) qs (rest_of_unit (filter (is_original pid) (seen_after past ps))))
      (map-same (rest_of_row pid (filter (has_payload pid) (seen_after past ps))))
      (row_joins (λ (p : List ℕ). p) (λ q p. refl) (λ p. refl) (λ p. refl) pid past ps)

  abbrev Fall : List (List ℕ) → List (List ℕ) → Type 0
  Fall past ps = let S = filter (has_payload pid) (seen_after past ps) in filter (payload_on pid) ps ≡ rest_of_row pid S ++ row_packets (rows_of sw pid S)

  fall_more : (p : List ℕ) (past ps : List (List ℕ)) → Fall (p ∷ past) ps → Fall past (p ∷ ps)
  fall_more p past ps h =
      by_test (payload_on pid p)
      (λ y. by_test (repeats pid p past)
      (λ r. simp (y, r) (ap (λ l. p ∷ l) h))
      (λ r. by_test (unit_start p)
      (λ s. simp (y, r, s) (ap (λ l. p ∷ l) h))
      (λ s. simp (y, r, s) (ap (λ l. p ∷ l) h))))
      (λ y. simp y h)

  fall : (past ps : List (List ℕ)) → Fall past ps
  fall past [] = refl
  fall past (p ∷ ps) = fall_more p past ps (fall (p ∷ past) ps)

  abbrev Match : List (List ℕ) → List (List ℕ) → Type 0
  Match past ps = AreRowsOf (rows_of sw pid (filter (has_payload pid) (seen_after past ps))) (units_of sw pid (filter (is_original pid) (seen_after past ps)))

  match_more : (p : List ℕ) (past ps : List (List ℕ)) → Match (p ∷ past) ps → Match past (p ∷ ps)
  match_more p past ps h =
      by_test (payload_on pid p)
      (λ y. by_test (repeats pid p past)
      (λ r. simp (y, r) h)
      (λ r. by_test (unit_start p)
      (λ s.
      let j = simp (y, r) at (row_plain (p ∷ past) ps) in
      simp (y, r, s) (record { time = refl; bytes = (s, (rest_of_unit (filter (is_original pid) (seen_after (p ∷ past) ps)), refl, j)); random_access = refl }, h))
      (λ s. simp (y, r, s) h)))
      (λ y. simp y h)

  match_all : (past ps : List (List ℕ)) → Match past ps
  match_all past [] = tt
  match_all past (p ∷ ps) = match_more p past ps (match_all (p ∷ past) ps)

pub rows_join : RowsJoin
rows_join sw pid ps = (fall sw pid [] ps, match_all sw pid [] ps)
