-- In a conditioned stream what is placed is the splice of its units.
use Rattle.std.specs.Prelude.{ℤ, ◌≤ℤ◌, filter, if◌then◌else◌}
use Rattle.std.proofs.Common.{◌≡◌, ℕ, List, [], ◌∷◌, ◌++◌, reverse, Bool, true, false, not, ◌&&◌, ◌||◌, refl, sym, ap, ◌∙◌, Option, None, Some}
use Rattle.std.specs.List.{AllByRecursion}
use Rattle.std.proofs.lemmas.List.{append-nil}
use Rattle.ts_packet.specs.Fields.{unit_start, bytes}
use Rattle.ts_packet.specs.Duplicates.{original}
use Rattle.ts_packet.specs.Runs.{seen_after}
use Rattle.ts_packet.proofs.Cases.{by_test, true_or_false}
use Rattle.ts_packet.proofs.RunLemmas.{onto}
use Rattle.unit_stream.specs.Times.{unit_time}
use Rattle.unit_stream.specs.Units.{units, units_of, is_original, rest_of_unit}
use Rattle.splice_laws.specs.Splicing.{PlayedEvent, SliceUnit, TimedStream, stream, at_or_past, below, holds, outside, comes, passed, opens, begun, as_inserted, slice_at, all_slices_at, from, up_to}
use Rattle.splice_laws.specs.Laws.{IsStream, EndsBeforeAll, AreOrdered}
use Rattle.splice_laws.specs.Rows.{is_between}
use Rattle.splice_laws.proofs.TimeLemmas.{starts_ordered, past_lower, holds-or_past, holds-past, not-below, timed_past}
use Rattle.splice_laws.proofs.HistoryLemmas.{begun-passed, passed-dead}
use Rattle.splice_laws.proofs.PlacedLemmas.{opens-first}
use Rattle.splice_laws.proofs.PidLemmas.{pids_are_streams}
use Rattle.splice_laws.proofs.SpliceLemmas.{not_between, not_newly, not_own, own_past, own_below, glue_past, glue_below}
use Rattle.output_laws.specs.Spliced.{placed_payloads, inserted_payloads, unit_at}
use Rattle.output_laws.proofs.SplicedLemmas.{payloads-append}
use Rattle.splice_plans.specs.Playing.{is_crossed}
use Rattle.chain_laws.specs.UnitSplices.{payloads_between, slice_payloads, splice_from, PlacedIsUnitSplice}

module _ (r : TimedStream) (k : IsStream r) (unit : List ℕ → List (List ℕ) → List (List ℕ) → List ℕ) where
  -- of the packets behind a past, which begin units: those of units between two edges
  abbrev between : Option ℤ → Option ℤ → List ℕ → List (List ℕ) → Bool
  between low high p past = r.begins p past && (from low (r.time (p ∷ past)) && up_to high (r.time (p ∷ past)))

  abbrev pub part : Option ℤ → Option ℤ → List (List ℕ) → List (List ℕ) → List (List ℕ)
  part low high past [] = []
  part low high past (p ∷ ps) = (if between low high p past then unit p past ps ∷ [] else []) ++ part low high (p ∷ past) ps

  -- the running unit is at or past the edge where one was
  abbrev Side : ℤ → List (List ℕ) → Type 0
  Side edge past = at_or_past edge (r.time past) ≡ passed r edge past

  abbrev Crossed : ℤ → List ℕ → List (List ℕ) → Type 0
  Crossed edge p past = r.begins p past ≡ true → passed r edge past ≡ true → below edge (r.time (p ∷ past)) ≡ false

  abbrev CrossedIn : ℤ → List (List ℕ) → List (List ℕ) → Type 0
  CrossedIn edge past [] = Unit {0}
  CrossedIn edge past (p ∷ ps) = Crossed edge p past × CrossedIn edge (p ∷ past) ps

  side_more : (edge : ℤ) (p : List ℕ) (past : List (List ℕ)) → Crossed edge p past → Side edge past → Side edge (p ∷ past)
  side_more edge p past c h = by_test (r.begins p past)
      (λ s. by_test (passed r edge past)
      (λ e. simp (s, e) (not-below edge (r.time (p ∷ past)) (c s e) (k.timed p past (timed_past edge (r.time past) (h ∙ e)))))
      (λ e. simp (s, e)))
      (λ s. let t = k.steady p past s in simp (s, t) (h ∙ or_false (passed r edge past))) where
        or_false : (a : Bool) → a ≡ a || false
        or_false true = refl
        or_false false = refl

  -- behind the edge no packet is of a unit below it
  part_none : (low : Option ℤ) (edge : ℤ) (past ps : List (List ℕ)) → Side edge past → CrossedIn edge past ps → passed r edge past ≡ true → part low (Some edge) past ps ≡ []
  part_none low edge past [] h c e = refl
  part_none low edge past (p ∷ ps) h c e =
      let h' = side_more edge p past c.0 h in
      let e' : passed r edge (p ∷ past) ≡ true = simp e in
      let a = h' ∙ e' in
      let n : between low (Some edge) p past ≡ false = not_between (r.begins p past) (from low (r.time (p ∷ past))) (at_or_past edge (r.time (p ∷ past))) a in
      simp n (part_none low edge (p ∷ past) ps h' c.1 e')

  -- ---- events that are reached

  begun-stays : (x : PlayedEvent) (past ps : List (List ℕ)) → begun r x past ≡ true → begun r x (onto past ps) ≡ true
  begun-stays x past [] b = b
  begun-stays x past (p ∷ ps) b = begun-stays x (p ∷ past) ps (simp b)

  never-begun : (x : PlayedEvent) (past ps : List (List ℕ)) → passed r x.start past ≡ true → begun r x past ≡ false → begun r x (onto past ps) ≡ false
  never-begun x past [] e b = b
  never-begun x past (p ∷ ps) e b =
      let d = passed-dead r k x past e b in
      never-begun x (p ∷ past) ps (simp e) (by_test (comes r x.start p past) (λ c. simp (b, c, d)) (λ c. simp (b, c)))

  -- it begins in these packets behind that past
  abbrev newly : List (List ℕ) → List (List ℕ) → PlayedEvent → Bool
  newly past ps x = not (begun r x past) && begun r x (onto past ps)

  reached_here : (x : PlayedEvent) (us : List SliceUnit) (p : List ℕ) (past ps : List (List ℕ)) →
      (if newly past (p ∷ ps) x then slice_payloads us else []) ≡ slice_payloads (slice_at r x us p past) ++ (if newly (p ∷ past) ps x then slice_payloads us else [])
  reached_here x us p past ps = one (begun r x past) (opens r x p past) (passed r x.start past) (begun r x (onto (p ∷ past) ps)) (begun-passed r k x past) (opens-first r k x p past) (begun-stays x (p ∷ past) ps) where
    one : (b o e z : Bool) → (b ≡ true → e ≡ true) → (b ≡ false → o ≡ true → e ≡ false) → (b || o ≡ true → z ≡ true) →
        (if not b && z then slice_payloads us else []) ≡ slice_payloads (if o && not e then us else []) ++ (if not (b || o) && z then slice_payloads us else [])
    one true true true z i j l = refl
    one true true false z i j l = let f = i refl in cc
    one true false e z i j l = refl
    one false true true z i j l = let f = j refl refl in cc
    one false true false true i j l = sym (append-nil (slice_payloads us))
    one false true false false i j l = let f = l refl in cc
    one false false e z i j l = refl

  -- ---- one packet more

  outside-below : (x : PlayedEvent) (xs : List PlayedEvent) (t : Option ℤ) → x.start ≤ℤ x.stop → EndsBeforeAll x xs → at_or_past x.start t ≡ false → outside xs t ≡ true
  outside-below x [] t l b a = refl
  outside-below x (y ∷ ys) t l b a = by_test (holds y t)
      (λ h. true_or_false (at_or_past x.start t) (past_lower x.start y.start t (starts_ordered x y l b.0) (holds-past y t h)) a)
      (λ h. simp h (outside-below x ys t l b.1 a))

  -- the slices before a packet
  abbrev pub slices_at : List PlayedEvent → (PlayedEvent → List SliceUnit) → List ℕ → List (List ℕ) → List (List ℕ)
  slices_at [] slice p past = []
  slices_at (x ∷ xs) slice p past = slice_payloads (slice_at r x (slice x) p past) ++ slices_at xs slice p past

  no_slices : (x : PlayedEvent) (slice : PlayedEvent → List SliceUnit) (xs : List PlayedEvent) (p : List ℕ) (past : List (List ℕ)) → x.start ≤ℤ x.stop → EndsBeforeAll x xs → at_or_past x.start (r.time (p ∷ past)) ≡ false → slices_at xs slice p past ≡ []
  no_slices x slice [] p past l b a = refl
  no_slices x slice (y ∷ ys) p past l b a = by_test (at_or_past y.start (r.time (p ∷ past)))
      (λ h. true_or_false (at_or_past x.start (r.time (p ∷ past))) (past_lower x.start y.start (r.time (p ∷ past)) (starts_ordered x y l b.0) h) a)
      (λ h. by_test (r.begins p past) (λ s. simp (s, h) (no_slices x slice ys p past l b.1 a)) (λ s. simp s (no_slices x slice ys p past l b.1 a)))

  none_here : (x : PlayedEvent) (us : List SliceUnit) (p : List ℕ) (past : List (List ℕ)) → at_or_past x.start (r.time (p ∷ past)) ≡ false → slice_at r x us p past ≡ []
  none_here x us p past a = by_test (r.begins p past) (λ s. simp (s, a)) (λ s. simp s)

  not_later : (x : PlayedEvent) (t : Option ℤ) → x.start ≤ℤ x.stop → at_or_past x.start t ≡ false → at_or_past x.stop t ≡ false
  not_later x t l a = by_test (at_or_past x.stop t) (λ b. true_or_false (at_or_past x.start t) (past_lower x.start x.stop t l b) a) (λ b. b)

  not_held : (x : PlayedEvent) (t : Option ℤ) → at_or_past x.start t ≡ false → holds x t ≡ false
  not_held x t a = by_test (holds x t) (λ b. true_or_false (at_or_past x.start t) (holds-past x t b) a) (λ b. b)

  -- the edge is not past the first of the events
  abbrev IsLow : Option ℤ → List PlayedEvent → Type 0
  IsLow None xs = Unit {0}
  IsLow (Some low) [] = Unit {0}
  IsLow (Some low) (x ∷ xs) = low ≤ℤ x.start

  abbrev Sides : List PlayedEvent → List (List ℕ) → Type 0
  Sides [] past = Unit {0}
  Sides (x ∷ xs) past = Side x.start past × Sides xs past

  abbrev AllCrossed : List PlayedEvent → List (List ℕ) → List (List ℕ) → Type 0
  AllCrossed [] past ps = Unit {0}
  AllCrossed (x ∷ xs) past ps = CrossedIn x.start past ps × AllCrossed xs past ps

  low_of : (x : PlayedEvent) (xs : List PlayedEvent) → EndsBeforeAll x xs → IsLow (Some x.stop) xs
  low_of x [] b = tt
  low_of x (y ∷ ys) b = b.0

  from-past : (low : Option ℤ) (x : PlayedEvent) (xs : List PlayedEvent) (t : Option ℤ) → IsLow low (x ∷ xs) → at_or_past x.start t ≡ true → from low t ≡ true
  from-past None x xs t l a = refl
  from-past (Some low) x xs t l a = past_lower low x.start t l a

  -- the parts, and the slices that begin in the packets behind the past
  abbrev pub parts : Option ℤ → List PlayedEvent → (PlayedEvent → Bool) → (PlayedEvent → List SliceUnit) → List (List ℕ) → List (List ℕ) → List (List ℕ)
  parts low [] is_reached slice past ps = part low None past ps
  parts low (x ∷ xs) is_reached slice past ps =
      part low (Some x.start) past ps ++ ((if is_reached x then slice_payloads (slice x) else []) ++ parts (Some x.stop) xs is_reached slice past ps)

  abbrev pub own : Option ℤ → List PlayedEvent → List ℕ → List (List ℕ) → List (List ℕ) → List (List ℕ)
  own low xs p past ps = if r.begins p past && (from low (r.time (p ∷ past)) && outside xs (r.time (p ∷ past))) then unit p past ps ∷ [] else []

  module _ (slice : PlayedEvent → List SliceUnit) where
    parts-cons : (low : Option ℤ) (xs : List PlayedEvent) → AreOrdered xs → IsLow low xs → (p : List ℕ) (past ps : List (List ℕ)) → Sides xs past → AllCrossed xs past (p ∷ ps) →
        parts low xs (newly past (p ∷ ps)) slice past (p ∷ ps)
        ≡ slices_at xs slice p past ++ (own low xs p past ps ++ parts low xs (newly (p ∷ past) ps) slice (p ∷ past) ps)
    parts-cons low [] o l p past ps h c = refl
    parts-cons low (x ∷ xs) o l p past ps h c =
        let t = r.time (p ∷ past) in
        let G = part low (Some x.start) (p ∷ past) ps in
        let F = part low (Some x.start) past (p ∷ ps) in
        let D : List (List ℕ) = if between low (Some x.start) p past then unit p past ps ∷ [] else [] in
        let U : List (List ℕ) = if newly past (p ∷ ps) x then slice_payloads (slice x) else [] in
        let W : List (List ℕ) = if newly (p ∷ past) ps x then slice_payloads (slice x) else [] in
        let S = slice_payloads (slice_at r x (slice x) p past) in
        let P = parts (Some x.stop) xs (newly past (p ∷ ps)) slice past (p ∷ ps) in
        let T = slices_at xs slice p past in
        let C = own low (x ∷ xs) p past ps in
        let E = own (Some x.stop) xs p past ps in
        let Z = parts (Some x.stop) xs (newly (p ∷ past) ps) slice (p ∷ past) ps in
        let f : F ≡ D ++ G = refl in
        let u : U ≡ S ++ W = reached_here x (slice x) p past ps in
        let m : P ≡ T ++ (E ++ Z) = parts-cons (Some x.stop) xs o.2 (low_of x xs o.1) p past ps h.1 c.1 in
        by_test (at_or_past x.start t)
        (λ a.
        let h' = side_more x.start p past c.0.0 h.0 in
        let e = sym h' ∙ a in
        let n : between low (Some x.start) p past ≡ false = not_between (r.begins p past) (from low t) (at_or_past x.start t) a in
        glue_past F G D U W S P T C E Z f u m
        (ap (λ (b : Bool). if b then unit p past ps ∷ [] else []) n)
        (part_none low x.start (p ∷ past) ps h' c.0.1 e)
        (not_newly (begun r x (p ∷ past)) (begun r x (onto (p ∷ past) ps)) (slice_payloads (slice x)) (never-begun x (p ∷ past) ps e))
        (ap (λ (b : Bool). if b then unit p past ps ∷ [] else []) (own_past (r.begins p past) (from low t) (holds x t) (at_or_past x.stop t) (outside xs t) (from-past low x xs t l a) (holds-or_past x t a))))
        (λ a.
        let later : at_or_past x.stop t ≡ false = not_later x t o.0 a in
        let free : holds x t ≡ false = not_held x t a in
        glue_below F G D U W S P T C E Z f u m
        (ap slice_payloads (none_here x (slice x) p past a))
        (no_slices x slice xs p past o.0 o.1 a)
        (not_own (r.begins p past) (at_or_past x.stop t) (outside xs t) (unit p past ps ∷ []) later)
        (ap (λ (b : Bool). if b then unit p past ps ∷ [] else []) (own_below (r.begins p past) (from low t) (holds x t) (outside xs t) (at_or_past x.start t) free (outside-below x xs t o.0 o.1 a) a)))

    -- ---- all packets

    parts-nil : (low : Option ℤ) (xs : List PlayedEvent) (past : List (List ℕ)) → parts low xs (newly past []) slice past [] ≡ []
    parts-nil low [] past = refl
    parts-nil low (x ∷ xs) past =
        let e : newly past [] x ≡ false = neither (begun r x past) in simp e (parts-nil (Some x.stop) xs past) where
          neither : (b : Bool) → not b && b ≡ false
          neither true = refl
          neither false = refl

    sides_more : (xs : List PlayedEvent) (p : List ℕ) (past ps : List (List ℕ)) → Sides xs past → AllCrossed xs past (p ∷ ps) → Sides xs (p ∷ past) × AllCrossed xs (p ∷ past) ps
    sides_more [] p past ps h c = (tt, tt)
    sides_more (x ∷ xs) p past ps h c =
        let m = sides_more xs p past ps h.1 c.1 in
        ((side_more x.start p past c.0.0 h.0, m.0), (c.0.1, m.1))

    -- what is placed by packets
    abbrev pub placed : List PlayedEvent → List (List ℕ) → List (List ℕ) → List (List ℕ)
    placed xs past [] = []
    placed xs past (p ∷ ps) = slices_at xs slice p past ++ (own None xs p past ps ++ placed xs (p ∷ past) ps)

    placed_after : (xs : List PlayedEvent) → AreOrdered xs → (past ps : List (List ℕ)) → Sides xs past → AllCrossed xs past ps → placed xs past ps ≡ parts None xs (newly past ps) slice past ps
    placed_after xs o past [] h c = sym (parts-nil None xs past)
    placed_after xs o past (p ∷ ps) h c =
        let m = sides_more xs p past ps h c in
        ap (λ l. slices_at xs slice p past ++ (own None xs p past ps ++ l)) (placed_after xs o (p ∷ past) ps m.0 m.1)
        ∙ sym (parts-cons None xs o tt p past ps h c)

    sides_at_first : (xs : List PlayedEvent) → Sides xs []
    sides_at_first [] = tt
    sides_at_first (x ∷ xs) = (ap (at_or_past x.start) k.fresh, sides_at_first xs)

    or-parts : (a b : Bool) → (a || b) ≡ false → (a ≡ false) × (b ≡ false)
    or-parts true b h = cc
    or-parts false b h = (refl, h)

    one-crossed : (edge : ℤ) (p : List ℕ) (past : List (List ℕ)) → is_crossed r edge (p ∷ past) ≡ false → Crossed edge p past
    one-crossed edge p past h b e = let n = (or-parts (is_crossed r edge past) _ h).1 in simp (b, e) at n

    crossed-in : (edge : ℤ) (past ps : List (List ℕ)) → is_crossed r edge (onto past ps) ≡ false → CrossedIn edge past ps × (is_crossed r edge past ≡ false)
    crossed-in edge past [] h = (tt, h)
    crossed-in edge past (p ∷ ps) h =
        let m = crossed-in edge (p ∷ past) ps h in
        ((one-crossed edge p past m.1, m.0), (or-parts (is_crossed r edge past) _ m.1).0)

    all-crossed : (xs : List PlayedEvent) (ps : List (List ℕ)) → AllByRecursion (λ (x : PlayedEvent). is_crossed r x.start (reverse ps) ≡ false) xs → AllCrossed xs [] ps
    all-crossed [] ps d = tt
    all-crossed (x ∷ xs) ps d = ((crossed-in x.start [] ps d.0).0, all-crossed xs ps d.1)

    pub placed_is_parts : (xs : List PlayedEvent) → AreOrdered xs → (ps : List (List ℕ)) → AllByRecursion (λ (x : PlayedEvent). is_crossed r x.start (reverse ps) ≡ false) xs →
        placed xs [] ps ≡ parts None xs (newly [] ps) slice [] ps
    placed_is_parts xs o ps d = placed_after xs o [] ps (sides_at_first xs) (all-crossed xs ps d)

-- ---- the units of a PID

inserted-in : (us : List SliceUnit) → inserted_payloads (as_inserted us) ≡ slice_payloads us
inserted-in [] = refl
inserted-in (u ∷ us) = ap (λ l. u.payload ∷ l) (inserted-in us)

module _ (switched : List ℕ) (pid : ℕ) where
  abbrev unit : List ℕ → List (List ℕ) → List (List ℕ) → List ℕ
  unit p past ps = bytes p ++ rest_of_unit (filter (is_original pid) (seen_after (p ∷ past) ps))

  module _ (slice : PlayedEvent → List SliceUnit) where
    slices-same : (xs : List PlayedEvent) (p : List ℕ) (past : List (List ℕ)) → inserted_payloads (all_slices_at (stream switched pid) xs slice p past) ≡ slices_at (stream switched pid) (pids_are_streams switched pid) unit xs slice p past
    slices-same [] p past = refl
    slices-same (x ∷ xs) p past =
        let us = slice_at (stream switched pid) x (slice x) p past in
        payloads-append (as_inserted us) (all_slices_at (stream switched pid) xs slice p past)
        ∙ ap (λ l. l ++ inserted_payloads (all_slices_at (stream switched pid) xs slice p past)) (inserted-in us)
        ∙ ap (λ l. slice_payloads us ++ l) (slices-same xs p past)

    placed-same : (xs : List PlayedEvent) (past ps : List (List ℕ)) → placed_payloads switched pid xs slice past ps ≡ placed (stream switched pid) (pids_are_streams switched pid) unit slice xs past ps
    placed-same xs past [] = refl
    placed-same xs past (p ∷ ps) =
        ap (λ l. l ++ (unit_at switched pid xs past p ps ++ placed_payloads switched pid xs slice (p ∷ past) ps)) (slices-same xs p past)
        ∙ ap (λ l. slices_at (stream switched pid) (pids_are_streams switched pid) unit xs slice p past ++ (unit_at switched pid xs past p ps ++ l)) (placed-same xs (p ∷ past) ps)

  -- the units by their times
  abbrev PartIs : Option ℤ → Option ℤ → List (List ℕ) → List (List ℕ) → Type 0
  PartIs low high past ps = part (stream switched pid) (pids_are_streams switched pid) unit low high past ps ≡ payloads_between low high (units_of switched pid (filter (is_original pid) (seen_after past ps)))

  part-more : (low high : Option ℤ) (p : List ℕ) (past ps : List (List ℕ)) → PartIs low high (p ∷ past) ps → PartIs low high past (p ∷ ps)
  part-more low high p past ps h =
      by_test (original pid p past)
      (λ o. by_test (unit_start p)
      (λ s. by_test (is_between low high (unit_time switched pid (p ∷ past)))
      (λ b. let b' = simp (o, s) at b in simp (o, s, b') (ap (λ l. unit p past ps ∷ l) h))
      (λ b. let b' = simp (o, s) at b in simp (o, s, b') h))
      (λ s. simp (o, s) h))
      (λ o. simp o h)

  part-units : (low high : Option ℤ) (past ps : List (List ℕ)) → PartIs low high past ps
  part-units low high past [] = refl
  part-units low high past (p ∷ ps) = part-more low high p past ps (part-units low high (p ∷ past) ps)

  module _ (slice : PlayedEvent → List SliceUnit) where
    parts-units : (reached : PlayedEvent → Bool) (low : Option ℤ) (xs : List PlayedEvent) (ps : List (List ℕ)) →
        parts (stream switched pid) (pids_are_streams switched pid) unit low xs reached slice [] ps ≡ splice_from low xs reached slice (units switched pid ps)
    parts-units reached low [] ps = part-units low None [] ps
    parts-units reached low (x ∷ xs) ps =
        let U : List (List ℕ) = if reached x then slice_payloads (slice x) else [] in
        ap (λ l. l ++ (U ++ parts (stream switched pid) (pids_are_streams switched pid) unit (Some x.stop) xs reached slice [] ps)) (part-units low (Some x.start) [] ps)
        ∙ ap (λ l. payloads_between low (Some x.start) (units switched pid ps) ++ (U ++ l)) (parts-units reached (Some x.stop) xs ps)

pub placed_is_unit_splice : PlacedIsUnitSplice
placed_is_unit_splice switched pid xs o slice ps d =
    placed-same switched pid slice xs [] ps
    ∙ placed_is_parts (stream switched pid) (pids_are_streams switched pid) (unit switched pid) slice xs o ps d
    ∙ parts-units switched pid slice (λ (x : PlayedEvent). begun (stream switched pid) x (reverse ps)) None xs ps
