-- The units of the kept packets are the kept units.
use Rattle.std.specs.Prelude.{ℤ}
use Rattle.std.proofs.Common.{◌≡◌, ℕ, ◌*◌, List, [], ◌∷◌, ◌++◌, Bool, true, false, not, refl, sym, ap, ◌∙◌, Option, None, reverse}
use Rattle.std.proofs.lemmas.List.{reverse-reverse}
use Rattle.ts_packet.specs.Fields.{payload_on, unit_start, bytes, renumbered}
use Rattle.ts_packet.specs.Duplicates.{repeats, original, Gapless}
use Rattle.ts_packet.specs.Runs.{IsGaplessAfter}
use Rattle.ts_packet.proofs.Cases.{by_test}
use Rattle.ts_packet.proofs.FieldLemmas.{start-renumbered, payload_on-renumbered, payload_on-on, bytes-renumbered}
use Rattle.ts_packet.proofs.HistoryLemmas.{walk_is_last}
use Rattle.ts_packet.proofs.RunLemmas.{map-reverse, filter-reverse, gapless_glue}
use Rattle.unit_stream.specs.Times.{unit_time}
use Rattle.unit_stream.specs.Units.{TimedUnit, longer, units, units_back, payloads}
use Rattle.unit_stream.proofs.UnitLemmas.{HeadTime, head_time, units_in_order}
use Rattle.unit_cut.specs.Cutting.{staying}
use Rattle.unit_cut.proofs.Counted.{gone, counted_cut, cut_back, cut_is}
use Rattle.unit_cut.specs.Laws.{CutLeavesUnits}
use Rattle.unit_cut.proofs.InOrder.{cut_in_order}
use Rattle.unit_cut.proofs.CutLemmas.{repeats_kept, next_kept, matched, next_of, payload_on-kept}

-- the last of some payloads, longer
abbrev pub longer_bytes : List (List ℕ) → List ℕ → List (List ℕ)
longer_bytes [] bs = []
longer_bytes (x ∷ xs) bs = (x ++ bs) ∷ xs

pub payloads-longer : (us : List TimedUnit) (bs : List ℕ) → payloads (longer us bs) ≡ longer_bytes (payloads us) bs
payloads-longer [] bs = refl
payloads-longer (u ∷ us) bs = refl

module _ (goes : Option ℤ → Bool) where
  -- where the last unit stays, it is the last of those that stay
  staying-longer : (us : List TimedUnit) (t : Option ℤ) (bs : List ℕ) → HeadTime us t → goes t ≡ false → payloads (staying goes (longer us bs)) ≡ longer_bytes (payloads (staying goes us)) bs
  staying-longer [] t bs h g = refl
  staying-longer (u ∷ us) t bs h g = let f = ap goes h ∙ g in simp f

  -- and where it goes, its length is nothing to them
  staying-gone : (us : List TimedUnit) (t : Option ℤ) (bs : List ℕ) → HeadTime us t → goes t ≡ true → staying goes (longer us bs) ≡ staying goes us
  staying-gone [] t bs h g = refl
  staying-gone (u ∷ us) t bs h g = let f = ap goes h ∙ g in simp f

module _ (b : Option (List ℕ)) (goes : Option ℤ → Bool) (sw sw' : List ℕ) (pid : ℕ) where
  abbrev UnitsStay : List (List ℕ) → Type 0
  UnitsStay past = payloads (units_back sw' pid (cut_back goes sw pid past)) ≡ payloads (staying goes (units_back sw pid past))

  stay_more : (p : List ℕ) (past : List (List ℕ)) → Gapless b pid (p ∷ past) → UnitsStay past → UnitsStay (p ∷ past)
  stay_more p past k h =
      let here = matched b goes sw pid past k.1 in
      let n = gone goes sw pid past in
      let before = cut_back goes sw pid past in
      let head = head_time sw pid past in
      by_test (payload_on pid p)
      (λ y. let o = payload_on-on pid p y in by_test (repeats pid p past)
      (λ r.
      let again = sym (walk_is_last pid p past) ∙ r in
      by_test (goes (unit_time sw pid past))
      (λ g. simp (y, r, g) h)
      (λ g.
      let kept = walk_is_last pid (renumbered (15 * n) p) before ∙ repeats_kept b _ _ p _ _ here g again in
      simp (y, r, g, o, payload_on-renumbered, kept) h))
      (λ r.
      let new : original pid p past ≡ true = simp (y, r) in
      let kept = walk_is_last pid (renumbered (15 * n) p) before ∙ next_kept b _ _ p _ _ here (next_of b goes sw pid p past (k.0.next new)) in
      by_test (unit_start p)
      (λ s. by_test (goes (unit_time sw pid (p ∷ past)))
      (λ g. let f = simp (y, r, s) at g in simp (y, r, s, f) h)
      (λ g. let f = simp (y, r, s) at g in simp (y, r, s, f, o, payload_on-renumbered, start-renumbered, bytes-renumbered, kept) (ap (λ l. bytes p ∷ l) h)))
      (λ s. by_test (goes (unit_time sw pid past))
      (λ g. simp (y, r, s, g, staying-gone goes _ _ (bytes p) head g) h)
      (λ g. simp (y, r, s, g, o, payload_on-renumbered, start-renumbered, bytes-renumbered, kept, payloads-longer) (ap (λ l. longer_bytes l (bytes p)) h ∙ sym (staying-longer goes _ _ (bytes p) head g))))))
      (λ y. simp (y, payload_on-kept) h)

  units_stay : (past : List (List ℕ)) → Gapless b pid past → UnitsStay past
  units_stay [] k = refl
  units_stay (p ∷ past) k = stay_more p past k (units_stay past k.1)

  -- THE LAW ON UNITS, behind a head
  pub cut_units : (ps : List (List ℕ)) → IsGaplessAfter b pid ps → payloads (units sw' pid (counted_cut goes sw pid ps)) ≡ payloads (staying goes (units sw pid ps))
  cut_units ps k =
      let g : Gapless b pid (reverse ps) = gapless_glue b pid [] ps tt k in
      let back = cut_back goes sw pid (reverse ps) in
      let left : payloads (units sw' pid (counted_cut goes sw pid ps)) ≡ reverse (payloads (units_back sw' pid back)) =
      ap payloads (units_in_order sw' pid (counted_cut goes sw pid ps) ∙ ap (λ l. reverse (units_back sw' pid l)) (ap reverse (cut_in_order goes sw pid ps) ∙ reverse-reverse back))
      ∙ map-reverse (λ (u : TimedUnit). u.payload) (units_back sw' pid back) in
      let right : payloads (staying goes (units sw pid ps)) ≡ reverse (payloads (staying goes (units_back sw pid (reverse ps)))) =
      ap (λ l. payloads (staying goes l)) (units_in_order sw pid ps)
      ∙ ap payloads (filter-reverse (λ (u : TimedUnit). not (goes u.time)) (units_back sw pid (reverse ps)))
      ∙ map-reverse (λ (u : TimedUnit). u.payload) (staying goes (units_back sw pid (reverse ps))) in
      left ∙ ap reverse (units_stay (reverse ps) g) ∙ sym right

pub cut_leaves_units : CutLeavesUnits
cut_leaves_units goes sw sw' pid ps k = ap (λ l. payloads (units sw' pid l)) (cut_is goes sw pid ps) ∙ cut_units None goes sw sw' pid ps k
