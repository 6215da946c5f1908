-- Row by row, with no premise on counters.
use Rattle.std.specs.Prelude.{ℤ, filter}
use Rattle.std.proofs.Common.{◌≡◌, ℕ, List, [], ◌∷◌, ◌++◌, Bool, false, ap, ◌∙◌, if◌then◌else◌, Option, None}
use Rattle.ts_packet.specs.Fields.{payload_on, unit_start, renumbered, without_number}
use Rattle.ts_packet.specs.Duplicates.{repeats}
use Rattle.ts_packet.specs.Runs.{seen_after, uncounted}
use Rattle.ts_packet.proofs.Cases.{by_test}
use Rattle.ts_packet.proofs.FieldLemmas.{payload_on-renumbered, payload_on-on, without_number-renumbered}
use Rattle.unit_stream.specs.Times.{unit_time}
use Rattle.unit_stream.specs.Units.{has_payload, rest_of_row, rows_of}
use Rattle.unit_cut.specs.Cutting.{packets_staying}
use Rattle.unit_cut.specs.Laws.{CutLeavesRows}
use Rattle.unit_cut.proofs.Counted.{cut_is}
use Rattle.unit_cut.proofs.InOrder.{cut_after}
use Rattle.unit_cut.proofs.CutLemmas.{payload_on-kept}

uncounted-renumbered : (n : ℕ) (p : List ℕ) (ps : List (List ℕ)) → uncounted (renumbered n p ∷ ps) ≡ uncounted (p ∷ ps)
uncounted-renumbered n p ps = ap (λ q. q ∷ uncounted ps) (without_number-renumbered n p)

module _ (goes : Option ℤ → Bool) (none : goes None ≡ false) (sw : List ℕ) (pid : ℕ) where
  -- behind any past: the rest of the row that runs, where its unit stays, and the rows that stay
  abbrev RowsStay : List (List ℕ) → List (List ℕ) → Type 0
  RowsStay past ps = let S = filter (has_payload pid) (seen_after past ps) in
      uncounted (filter (payload_on pid) (cut_after goes sw pid past ps))
      ≡ uncounted ((if goes (unit_time sw pid past) then [] else rest_of_row pid S) ++ packets_staying goes (rows_of sw pid S))

  rows_more : (p : List ℕ) (past ps : List (List ℕ)) → RowsStay (p ∷ past) ps → RowsStay past (p ∷ ps)
  rows_more p past ps h =
      by_test (payload_on pid p)
      (λ y. let o = payload_on-on pid p y in by_test (repeats pid p past)
      (λ r. by_test (goes (unit_time sw pid past))
      (λ g. let e = simp (y, r, g) at h in simp (y, r, g) e)
      (λ g. let e = simp (y, r, g) at h in simp (y, r, g, o, payload_on-renumbered, uncounted-renumbered) (ap (λ l. without_number p ∷ l) e)))
      (λ r. by_test (unit_start p)
      (λ s. by_test (goes (unit_time sw pid past))
      (λ g. by_test (goes (unit_time sw pid (p ∷ past)))
      (λ g'. let f = simp (y, r, s) at g' in let e = simp (y, r, s, f) at h in simp (y, r, s, f, g) e)
      (λ g'. let f = simp (y, r, s) at g' in let e = simp (y, r, s, f) at h in simp (y, r, s, f, g, o, payload_on-renumbered, uncounted-renumbered) (ap (λ l. without_number p ∷ l) e)))
      (λ g. by_test (goes (unit_time sw pid (p ∷ past)))
      (λ g'. let f = simp (y, r, s) at g' in let e = simp (y, r, s, f) at h in simp (y, r, s, f, g) e)
      (λ g'. let f = simp (y, r, s) at g' in let e = simp (y, r, s, f) at h in simp (y, r, s, f, g, o, payload_on-renumbered, uncounted-renumbered) (ap (λ l. without_number p ∷ l) e))))
      (λ s. by_test (goes (unit_time sw pid past))
      (λ g. let e = simp (y, r, s, g) at h in simp (y, r, s, g) e)
      (λ g. let e = simp (y, r, s, g) at h in simp (y, r, s, g, o, payload_on-renumbered, uncounted-renumbered) (ap (λ l. without_number p ∷ l) e)))))
      (λ y. let e = simp y at h in simp (y, payload_on-kept goes sw pid p past) e)

  rows_stay : (past ps : List (List ℕ)) → RowsStay past ps
  rows_stay past [] = by_test (goes (unit_time sw pid past)) (λ g. simp g) (λ g. simp g)
  rows_stay past (p ∷ ps) = rows_more p past ps (rows_stay (p ∷ past) ps)

pub cut_leaves_rows : CutLeavesRows
cut_leaves_rows goes none sw pid ps =
    let h = rows_stay goes none sw pid [] ps in
    let e = simp none at h in
    ap (λ l. uncounted (filter (payload_on pid) l)) (cut_is goes sw pid ps) ∙ e
