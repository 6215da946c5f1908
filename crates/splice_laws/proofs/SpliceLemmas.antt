-- In a conditioned stream the places are those by time.
use Rattle.std.specs.Prelude.{ℤ, ◌≤ℤ◌, flat_map, if◌then◌else◌, All}
use Rattle.std.proofs.Common.{◌≡◌, ℕ, List, [], ◌∷◌, ◌++◌, Bool, true, false, not, ◌&&◌, ◌||◌, refl, sym, ap, ◌∙◌, Option, None, Some, append_assoc}
use Rattle.std.proofs.lemmas.List.{append-nil}
use Rattle.std.proofs.lemmas.List.Elements.{All-head, All-tail}
use Rattle.ts_packet.specs.Runs.{Seen, seen_after}
use Rattle.ts_packet.proofs.Cases.{by_test, true_or_false}
use Rattle.ts_packet.proofs.RunLemmas.{onto}
use Rattle.splice_laws.specs.Splicing.{PlayedEvent, SliceUnit, Out, TimedStream, Network, at_or_past, below, holds, outside, comes, passed, opens, begun, as_inserted, kept, slice_at, all_slices_at, from, between, part, parts}
use Rattle.splice_laws.specs.Laws.{IsStream, EndsBeforeAll, AreOrdered, IsCrossedOnce, IsConditioned, PlacedIsSplice}
use Rattle.splice_laws.proofs.TimeLemmas.{starts_ordered, past_lower, holds-or_past, holds-past, not-below, timed_past}
use Rattle.splice_laws.proofs.HistoryLemmas.{begun-passed, passed-dead}
use Rattle.splice_laws.proofs.PlacedLemmas.{opens-first}

pub not_between : (c f a : Bool) → a ≡ true → c && (f && not a) ≡ false
not_between false f a h = refl
not_between true false a h = refl
not_between true true a h = ap not h

pub not_newly : {A : Type 0} (b z : Bool) (l : List A) → (b ≡ false → z ≡ false) → (if not b && z then l else []) ≡ []
not_newly true z l h = refl
not_newly false z l h = let e = h refl in simp e

pub not_own : {A : Type 0} (c q o : Bool) (l : List A) → q ≡ false → (if c && (q && o) then l else []) ≡ []
not_own false q o l h = refl
not_own true q o l h = simp h

pub own_past : (c f h q o : Bool) → f ≡ true → h ≡ not q → c && (f && (not h && o)) ≡ c && (q && o)
own_past c f h true o e g = simp (e, g)
own_past c f h false o e g = simp (e, g)

pub own_below : (c f h o a : Bool) → h ≡ false → o ≡ true → a ≡ false → c && (f && (not h && o)) ≡ c && (f && not a)
own_below c f h o a e g d = simp (e, g, d)

-- F G the parts up to the event, U W the event where it is reached, P Z those behind it: with the packet and without; D C E the packet, S T the slices at it
pub glue_past : {A : Type 0} (F G D U W S P T C E Z : List A) → F ≡ D ++ G → U ≡ S ++ W → P ≡ T ++ (E ++ Z) → D ≡ [] → G ≡ [] → W ≡ [] → C ≡ E →
    F ++ (U ++ P) ≡ (S ++ T) ++ (C ++ (G ++ (W ++ Z)))
glue_past F G D U W S P T C E Z f u p d g w c = simp (f, u, p, d, g, w, c, append_assoc)

pub glue_below : {A : Type 0} (F G D U W S P T C E Z : List A) → F ≡ D ++ G → U ≡ S ++ W → P ≡ T ++ (E ++ Z) → S ≡ [] → T ≡ [] → E ≡ [] → C ≡ D →
    F ++ (U ++ P) ≡ (S ++ T) ++ (C ++ (G ++ (W ++ Z)))
glue_below F G D U W S P T C E Z f u p s t e c = simp (f, u, p, s, t, e, c, append_assoc)

module _ (r : TimedStream) (k : IsStream r) where
  -- the running unit is at or past the edge where one was
  abbrev Side : ℤ → List (List ℕ) → Type 0
  Side edge past = at_or_past edge (r.time past) ≡ passed r edge past

  abbrev pub Crossed : ℤ → Seen → Type 0
  Crossed edge s = r.begins s.packet s.past ≡ true → passed r edge s.past ≡ true → below edge (r.time (s.packet ∷ s.past)) ≡ false

  side_more : (edge : ℤ) (p : List ℕ) (past : List (List ℕ)) → Crossed edge (record { packet = p; past = past }) → Side edge past → Side edge (p ∷ past)
  side_more edge p past c h = by_test (r.begins p past)
      (λ s. by_test (passed r edge past)
      (λ e. simp (s, e) (not-below edge (r.time (p ∷ past)) (c s e) (k.timed p past (timed_past edge (r.time past) (h ∙ e)))))
      (λ e. simp (s, e)))
      (λ s. let t = k.steady p past s in simp (s, t) (h ∙ or_false (passed r edge past))) where
        or_false : (a : Bool) → a ≡ a || false
        or_false true = refl
        or_false false = refl

  -- behind the edge no packet is of a unit below it
  part_none : (low : Option ℤ) (edge : ℤ) (past ps : List (List ℕ)) → Side edge past → All (Crossed edge) (seen_after past ps) → passed r edge past ≡ true → part r low (Some edge) (seen_after past ps) ≡ []
  part_none low edge past [] h c e = refl
  part_none low edge past (p ∷ ps) h c e =
      let s : Seen = record { packet = p; past = past } in
      let h' = side_more edge p past (All-head (Crossed edge) s (seen_after (p ∷ past) ps) c) h in
      let e' : passed r edge (p ∷ past) ≡ true = simp e in
      let a = h' ∙ e' in
      let n : between r low (Some edge) s ≡ false = not_between (r.carries p) (from low (r.time (p ∷ past))) (at_or_past edge (r.time (p ∷ past))) a in
      simp n (part_none low edge (p ∷ past) ps h' (All-tail (Crossed edge) s (seen_after (p ∷ past) ps) c) e')

  part-cons : (low high : Option ℤ) (p : List ℕ) (past ps : List (List ℕ)) →
      part r low high (seen_after past (p ∷ ps)) ≡ (if between r low high (record { packet = p; past = past }) then Network p ∷ [] else []) ++ part r low high (seen_after (p ∷ past) ps)
  part-cons low high p past ps = by_test (between r low high (record { packet = p; past = past })) (λ b. simp b) (λ b. simp b)

  -- ---- events that are reached

  pub begun-stays : (x : PlayedEvent) (past ps : List (List ℕ)) → begun r x past ≡ true → begun r x (onto past ps) ≡ true
  begun-stays x past [] b = b
  begun-stays x past (p ∷ ps) b = begun-stays x (p ∷ past) ps (simp b)

  never-begun : (x : PlayedEvent) (past ps : List (List ℕ)) → passed r x.start past ≡ true → begun r x past ≡ false → begun r x (onto past ps) ≡ false
  never-begun x past [] e b = b
  never-begun x past (p ∷ ps) e b =
      let d = passed-dead r k x past e b in
      never-begun x (p ∷ past) ps (simp e) (by_test (comes r x.start p past) (λ c. simp (b, c, d)) (λ c. simp (b, c)))

  -- it begins in these packets behind that past
  abbrev newly : List (List ℕ) → List (List ℕ) → PlayedEvent → Bool
  newly past ps x = not (begun r x past) && begun r x (onto past ps)

  reached_here : (x : PlayedEvent) (units : List SliceUnit) (p : List ℕ) (past ps : List (List ℕ)) →
      (if newly past (p ∷ ps) x then as_inserted units else []) ≡ as_inserted (slice_at r x units p past) ++ (if newly (p ∷ past) ps x then as_inserted units else [])
  reached_here x units p past ps = one (begun r x past) (opens r x p past) (passed r x.start past) (begun r x (onto (p ∷ past) ps)) (begun-passed r k x past) (opens-first r k x p past) (begun-stays x (p ∷ past) ps) where
    one : (b o e z : Bool) → (b ≡ true → e ≡ true) → (b ≡ false → o ≡ true → e ≡ false) → (b || o ≡ true → z ≡ true) →
        (if not b && z then as_inserted units else []) ≡ as_inserted (if o && not e then units else []) ++ (if not (b || o) && z then as_inserted units else [])
    one true true true z i j l = refl
    one true true false z i j l = let f = i refl in cc
    one true false e z i j l = refl
    one false true true z i j l = let f = j refl refl in cc
    one false true false true i j l = sym (append-nil (as_inserted units))
    one false true false false i j l = let f = l refl in cc
    one false false e z i j l = refl

  -- ---- one packet more

  outside-below : (x : PlayedEvent) (xs : List PlayedEvent) (t : Option ℤ) → x.start ≤ℤ x.stop → EndsBeforeAll x xs → at_or_past x.start t ≡ false → outside xs t ≡ true
  outside-below x [] t l b a = refl
  outside-below x (y ∷ ys) t l b a = by_test (holds y t)
      (λ h. true_or_false (at_or_past x.start t) (past_lower x.start y.start t (starts_ordered x y l b.0) (holds-past y t h)) a)
      (λ h. simp h (outside-below x ys t l b.1 a))

  no_slices : (x : PlayedEvent) (slice : PlayedEvent → List SliceUnit) (xs : List PlayedEvent) (p : List ℕ) (past : List (List ℕ)) → x.start ≤ℤ x.stop → EndsBeforeAll x xs → at_or_past x.start (r.time (p ∷ past)) ≡ false → all_slices_at r xs slice p past ≡ []
  no_slices x slice [] p past l b a = refl
  no_slices x slice (y ∷ ys) p past l b a = by_test (at_or_past y.start (r.time (p ∷ past)))
      (λ h. true_or_false (at_or_past x.start (r.time (p ∷ past))) (past_lower x.start y.start (r.time (p ∷ past)) (starts_ordered x y l b.0) h) a)
      (λ h. by_test (r.begins p past) (λ s. simp (s, h) (no_slices x slice ys p past l b.1 a)) (λ s. simp s (no_slices x slice ys p past l b.1 a)))

  none_here : (x : PlayedEvent) (units : List SliceUnit) (p : List ℕ) (past : List (List ℕ)) → at_or_past x.start (r.time (p ∷ past)) ≡ false → slice_at r x units p past ≡ []
  none_here x units p past a = by_test (r.begins p past) (λ s. simp (s, a)) (λ s. simp s)

  not_later : (x : PlayedEvent) (t : Option ℤ) → x.start ≤ℤ x.stop → at_or_past x.start t ≡ false → at_or_past x.stop t ≡ false
  not_later x t l a = by_test (at_or_past x.stop t) (λ b. true_or_false (at_or_past x.start t) (past_lower x.start x.stop t l b) a) (λ b. b)

  not_held : (x : PlayedEvent) (t : Option ℤ) → at_or_past x.start t ≡ false → holds x t ≡ false
  not_held x t a = by_test (holds x t) (λ b. true_or_false (at_or_past x.start t) (holds-past x t b) a) (λ b. b)

  -- the edge is not past the first of the events
  abbrev IsLow : Option ℤ → List PlayedEvent → Type 0
  IsLow None xs = Unit {0}
  IsLow (Some low) [] = Unit {0}
  IsLow (Some low) (x ∷ xs) = low ≤ℤ x.start

  abbrev Sides : List PlayedEvent → List (List ℕ) → Type 0
  Sides [] past = Unit {0}
  Sides (x ∷ xs) past = Side x.start past × Sides xs past

  abbrev AllCrossed : List PlayedEvent → List Seen → Type 0
  AllCrossed [] ss = Unit {0}
  AllCrossed (x ∷ xs) ss = All (Crossed x.start) ss × AllCrossed xs ss

  low_of : (x : PlayedEvent) (xs : List PlayedEvent) → EndsBeforeAll x xs → IsLow (Some x.stop) xs
  low_of x [] b = tt
  low_of x (y ∷ ys) b = b.0

  from-past : (low : Option ℤ) (x : PlayedEvent) (xs : List PlayedEvent) (t : Option ℤ) → IsLow low (x ∷ xs) → at_or_past x.start t ≡ true → from low t ≡ true
  from-past None x xs t l a = refl
  from-past (Some low) x xs t l a = past_lower low x.start t l a

  abbrev own : Option ℤ → List PlayedEvent → List ℕ → List (List ℕ) → List Out
  own low xs p past = if r.carries p && (from low (r.time (p ∷ past)) && outside xs (r.time (p ∷ past))) then Network p ∷ [] else []

  module _ (slice : PlayedEvent → List SliceUnit) where
    pub parts-cons : (low : Option ℤ) (xs : List PlayedEvent) → AreOrdered xs → IsLow low xs → (p : List ℕ) (past ps : List (List ℕ)) → Sides xs past → AllCrossed xs (seen_after past (p ∷ ps)) →
        parts r low xs (newly past (p ∷ ps)) slice (seen_after past (p ∷ ps))
        ≡ all_slices_at r xs slice p past ++ (own low xs p past ++ parts r low xs (newly (p ∷ past) ps) slice (seen_after (p ∷ past) ps))
    parts-cons low [] o l p past ps h c = part-cons low None p past ps
    parts-cons low (x ∷ xs) o l p past ps h c =
        let s : Seen = record { packet = p; past = past } in
        let t = r.time (p ∷ past) in
        let G = part r low (Some x.start) (seen_after (p ∷ past) ps) in
        let F = part r low (Some x.start) (seen_after past (p ∷ ps)) in
        let D : List Out = if between r low (Some x.start) s then Network p ∷ [] else [] in
        let U : List Out = if newly past (p ∷ ps) x then as_inserted (slice x) else [] in
        let W : List Out = if newly (p ∷ past) ps x then as_inserted (slice x) else [] in
        let S = as_inserted (slice_at r x (slice x) p past) in
        let P = parts r (Some x.stop) xs (newly past (p ∷ ps)) slice (seen_after past (p ∷ ps)) in
        let T = all_slices_at r xs slice p past in
        let C = own low (x ∷ xs) p past in
        let E = own (Some x.stop) xs p past in
        let Z = parts r (Some x.stop) xs (newly (p ∷ past) ps) slice (seen_after (p ∷ past) ps) in
        let f : F ≡ D ++ G = part-cons low (Some x.start) p past ps in
        let u : U ≡ S ++ W = reached_here x (slice x) p past ps in
        let m : P ≡ T ++ (E ++ Z) = parts-cons (Some x.stop) xs o.2 (low_of x xs o.1) p past ps h.1 c.1 in
        by_test (at_or_past x.start t)
        (λ a.
        let h' = side_more x.start p past (All-head (Crossed x.start) s (seen_after (p ∷ past) ps) c.0) h.0 in
        let e = sym h' ∙ a in
        let n : between r low (Some x.start) s ≡ false = not_between (r.carries p) (from low t) (at_or_past x.start t) a in
        glue_past F G D U W S P T C E Z f u m
        (ap (λ (b : Bool). if b then Network p ∷ [] else []) n)
        (part_none low x.start (p ∷ past) ps h' (All-tail (Crossed x.start) s (seen_after (p ∷ past) ps) c.0) e)
        (not_newly (begun r x (p ∷ past)) (begun r x (onto (p ∷ past) ps)) (as_inserted (slice x)) (never-begun x (p ∷ past) ps e))
        (ap (λ (b : Bool). if b then Network p ∷ [] else []) (own_past (r.carries p) (from low t) (holds x t) (at_or_past x.stop t) (outside xs t) (from-past low x xs t l a) (holds-or_past x t a))))
        (λ a.
        let later : at_or_past x.stop t ≡ false = not_later x t o.0 a in
        let free : holds x t ≡ false = not_held x t a in
        glue_below F G D U W S P T C E Z f u m
        (ap as_inserted (none_here x (slice x) p past a))
        (no_slices x slice xs p past o.0 o.1 a)
        (not_own (r.carries p) (at_or_past x.stop t) (outside xs t) (Network p ∷ []) later)
        (ap (λ (b : Bool). if b then Network p ∷ [] else []) (own_below (r.carries p) (from low t) (holds x t) (outside xs t) (at_or_past x.start t) free (outside-below x xs t o.0 o.1 a) a)))

    -- ---- all packets

    parts-nil : (low : Option ℤ) (xs : List PlayedEvent) (past : List (List ℕ)) → parts r low xs (newly past []) slice [] ≡ []
    parts-nil low [] past = refl
    parts-nil low (x ∷ xs) past =
        let e : newly past [] x ≡ false = neither (begun r x past) in simp e (parts-nil (Some x.stop) xs past) where
          neither : (b : Bool) → not b && b ≡ false
          neither true = refl
          neither false = refl

    sides_more : (xs : List PlayedEvent) (p : List ℕ) (past ps : List (List ℕ)) → Sides xs past → AllCrossed xs (seen_after past (p ∷ ps)) → Sides xs (p ∷ past) × AllCrossed xs (seen_after (p ∷ past) ps)
    sides_more [] p past ps h c = (tt, tt)
    sides_more (x ∷ xs) p past ps h c =
        let s : Seen = record { packet = p; past = past } in
        let m = sides_more xs p past ps h.1 c.1 in
        ((side_more x.start p past (All-head (Crossed x.start) s (seen_after (p ∷ past) ps) c.0) h.0, m.0), (All-tail (Crossed x.start) s (seen_after (p ∷ past) ps) c.0, m.1))

    splice_after : (xs : List PlayedEvent) → AreOrdered xs → (past ps : List (List ℕ)) → Sides xs past → AllCrossed xs (seen_after past ps) →
        flat_map (λ (s : Seen). all_slices_at r xs slice s.packet s.past ++ kept r xs s.packet s.past) (seen_after past ps) ≡ parts r None xs (newly past ps) slice (seen_after past ps)
    splice_after xs o past [] h c = sym (parts-nil None xs past)
    splice_after xs o past (p ∷ ps) h c =
        let m = sides_more xs p past ps h c in
        append_assoc (all_slices_at r xs slice p past) (kept r xs p past) _
        ∙ ap (λ l. all_slices_at r xs slice p past ++ (kept r xs p past ++ l)) (splice_after xs o (p ∷ past) ps m.0 m.1)
        ∙ sym (parts-cons None xs o tt p past ps h c)

    sides_at_first : (xs : List PlayedEvent) → Sides xs []
    sides_at_first [] = tt
    sides_at_first (x ∷ xs) = (ap (at_or_past x.start) k.fresh, sides_at_first xs)

    all_crossed : (xs : List PlayedEvent) (ps : List (List ℕ)) → IsConditioned r xs ps → AllCrossed xs (seen_after [] ps)
    all_crossed [] ps d = tt
    all_crossed (x ∷ xs) ps d = (All-head (λ (x : PlayedEvent). IsCrossedOnce r x.start ps) x xs d, all_crossed xs ps (All-tail (λ (x : PlayedEvent). IsCrossedOnce r x.start ps) x xs d))

pub placed_is_splice : PlacedIsSplice
placed_is_splice r k xs o slice ps d = splice_after r k slice xs o [] ps (sides_at_first r k slice xs) (all_crossed r k slice xs ps d)
