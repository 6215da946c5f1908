-- What the kept packets carry, with no premise on counters: within a row all packets are moved by the same number, so doubles stay doubles.
use Rattle.std.specs.Prelude.{ℤ, filter, All}
use Rattle.std.proofs.Common.{◌≡◌, ℕ, ◌*◌, List, [], ◌∷◌, ◌++◌, Bool, true, false, refl, sym, ap, ◌∙◌, if◌then◌else◌, Option, Some, map, length}
use Rattle.std.proofs.lemmas.List.Elements.{All-head, All-tail}
use Rattle.ts_packet.specs.Fields.{payload_on, unit_start, bytes, renumbered}
use Rattle.ts_packet.specs.Duplicates.{repeats}
use Rattle.ts_packet.specs.Runs.{seen_after}
use Rattle.ts_packet.proofs.Cases.{by_test}
use Rattle.ts_packet.proofs.FieldLemmas.{start-renumbered, payload_on-renumbered, payload_on-on, bytes-renumbered, alike-renumbered}
use Rattle.ts_packet.proofs.Renumbered.{renumbered-zero}
use Rattle.unit_stream.specs.Times.{unit_time}
use Rattle.unit_stream.specs.Units.{is_original, rest_of_unit, units_of, payloads, has_payload, rest_of_row}
use Rattle.unit_stream.specs.Carrying.{Joins, CarriesUnits}
use Rattle.unit_stream.proofs.RowLemmas as rows
use Rattle.unit_stream.proofs.RowLemmas.{RowJoins}
use Rattle.unit_cut.specs.Cutting.{staying}
use Rattle.unit_cut.proofs.Counted.{gone, cut_is}
use Rattle.unit_cut.specs.Laws.{CutCarriesUnits}
use Rattle.unit_cut.proofs.InOrder.{cut_after}
use Rattle.unit_cut.proofs.CutLemmas.{payload_on-kept}

-- the rest of a row, moved up by n, joins to the rest of the unit
pub row_joins : (n pid : ℕ) (past ps : List (List ℕ)) → RowJoins (renumbered n) (alike-renumbered n) (start-renumbered n) (bytes-renumbered n) pid past ps
row_joins n pid past ps = rows.row_joins (renumbered n) (alike-renumbered n) (start-renumbered n) (bytes-renumbered n) pid past ps

-- a row's first packet, kept, in front of the rest
pub first_kept : (q : List ℕ) (bs rest : List ℕ) (qs row left us : List (List ℕ)) → unit_start q ≡ true → bytes q ≡ bs → qs ≡ row ++ left → Joins (Some q) row rest → CarriesUnits left us
    → CarriesUnits (q ∷ qs) ((bs ++ rest) ∷ us)
first_kept q bs rest qs row left us s e f j c = (q ∷ row, left, ap (λ l. q ∷ l) f, (s, (rest, ap (λ l. l ++ rest) (sym e), j)), c)

no_row : (b : Bool) → (if◌then◌else◌ {A = List (List ℕ)} b [] []) ≡ []
no_row true = refl
no_row false = refl

module _ (goes : Option ℤ → Bool) (sw : List ℕ) (pid : ℕ) where
  -- behind any past: the rest of the row that runs, where its unit stays, and then packets that carry the units that stay
  abbrev pub CarriedAfter : List (List ℕ) → List (List ℕ) → Type 0
  CarriedAfter past ps =
      (left : List (List ℕ))
      × (filter (payload_on pid) (cut_after goes sw pid past ps)
      ≡ (if goes (unit_time sw pid past) then [] else map (renumbered (15 * gone goes sw pid past)) (rest_of_row pid (filter (has_payload pid) (seen_after past ps)))) ++ left)
      × CarriesUnits left (payloads (staying goes (units_of sw pid (filter (is_original pid) (seen_after past ps)))))

  carried_more : (p : List ℕ) (past ps : List (List ℕ)) → CarriedAfter (p ∷ past) ps → CarriedAfter past (p ∷ ps)
  carried_more p past ps h =
      let n = 15 * gone goes sw pid past in
      by_test (payload_on pid p)
      (λ y. let o = payload_on-on pid p y in by_test (repeats pid p past)
      (λ r. by_test (goes (unit_time sw pid past))
      (λ g. let e = simp (y, r, g) at h in simp (y, r, g) e)
      (λ g. let e = simp (y, r, g) at h in simp (y, r, g, o, payload_on-renumbered) (e.0, ap (λ l. renumbered n p ∷ l) e.1, e.2)))
      (λ r. by_test (unit_start p)
      (λ s.
      let j = simp (y, r) at (row_joins n pid (p ∷ past) ps) in
      by_test (goes (unit_time sw pid (p ∷ past)))
      (λ g'. let f = simp (y, r, s) at g' in let e = simp (y, r, s, f) at h in simp (y, r, s, f, no_row) e)
      (λ g'. let f = simp (y, r, s) at g' in let e = simp (y, r, s, f) at h in
      simp (y, r, s, f, o, payload_on-renumbered, no_row) (
        renumbered n p ∷ filter (payload_on pid) (cut_after goes sw pid (p ∷ past) ps),
        refl,
        first_kept (renumbered n p) (bytes p) (rest_of_unit (filter (is_original pid) (seen_after (p ∷ past) ps)))
            (filter (payload_on pid) (cut_after goes sw pid (p ∷ past) ps)) (map (renumbered n) (rest_of_row pid (filter (has_payload pid) (seen_after (p ∷ past) ps)))) e.0
            (payloads (staying goes (units_of sw pid (filter (is_original pid) (seen_after (p ∷ past) ps)))))
            (start-renumbered n p ∙ s) (bytes-renumbered n p) e.1 j e.2,
      )))
      (λ s. by_test (goes (unit_time sw pid past))
      (λ g. let e = simp (y, r, s, g) at h in simp (y, r, s, g) e)
      (λ g. let e = simp (y, r, s, g) at h in simp (y, r, s, g, o, payload_on-renumbered) (e.0, ap (λ l. renumbered n p ∷ l) e.1, e.2)))))
      (λ y. let e = simp y at h in simp (y, payload_on-kept goes sw pid p past) e)

  pub carried_after : (past ps : List (List ℕ)) → CarriedAfter past ps
  carried_after past [] = by_test (goes (unit_time sw pid past)) (λ g. simp g ([], refl, refl)) (λ g. simp g ([], refl, refl))
  carried_after past (p ∷ ps) = carried_more p past ps (carried_after (p ∷ past) ps)

module _ (pid : ℕ) where
  abbrev Unmoved : List (List ℕ) → List (List ℕ) → Type 0
  Unmoved past ps = map (renumbered 0) (rest_of_row pid (filter (has_payload pid) (seen_after past ps))) ≡ rest_of_row pid (filter (has_payload pid) (seen_after past ps))

  unmoved_more : (p : List ℕ) (past ps : List (List ℕ)) → renumbered 0 p ≡ p → Unmoved (p ∷ past) ps → Unmoved past (p ∷ ps)
  unmoved_more p past ps e h =
      by_test (payload_on pid p)
      (λ y. by_test (repeats pid p past)
      (λ r. simp (y, r, e) (ap (λ l. p ∷ l) h))
      (λ r. by_test (unit_start p)
      (λ s. simp (y, r, s))
      (λ s. simp (y, r, s, e) (ap (λ l. p ∷ l) h))))
      (λ y. simp y h)

  -- before the first unit start nothing has gone
  unmoved : (past ps : List (List ℕ)) → All (λ (p : List ℕ). length p ≡ 188) ps → Unmoved past ps
  unmoved past [] k = refl
  unmoved past (p ∷ ps) k = let f = λ (q : List ℕ). length q ≡ 188 in
      unmoved_more p past ps (renumbered-zero p (All-head f p ps k)) (unmoved (p ∷ past) ps (All-tail f p ps k))

pub cut_carries_units : CutCarriesUnits
cut_carries_units goes none sw pid ps k =
    let h = carried_after goes sw pid [] ps in
    let e = simp none at h in
    (e.0, ap (filter (payload_on pid)) (cut_is goes sw pid ps) ∙ e.1 ∙ ap (λ l. l ++ e.0) (unmoved pid [] ps k), e.2)
