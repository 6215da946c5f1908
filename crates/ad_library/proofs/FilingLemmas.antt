-- What is filed of stored units.
use Rattle.std.specs.Prelude.{ℤ, pos, ◌≤ℤ◌, ◌-ℤ◌, max, slice_range, nat_le, not, All, reverse}
use Rattle.std.specs.Int.{int_min}
use Rattle.std.specs.List.{AllByRecursion}
use Rattle.std.proofs.Common.{◌≡◌, ℕ, zero, suc, ◌-◌, ◌≤◌, List, [], ◌∷◌, ◌++◌, map, true, false, ◌&&◌, ◌==◌, refl, sym, ap, ◌∙◌, subst, Option, Some, None, length, arith, take, drop}
use Rattle.std.proofs.lemmas.Int.{ints}
use Rattle.std.proofs.lemmas.Bool.{leb-true, le-leb, eq-eqb, and_from, and_parts}
use Rattle.std.proofs.lemmas.List.{reverse-append, map-append, take-append-le, length-append, append-nil, drop_at}
use Rattle.std.proofs.lemmas.List.Elements.{All-head, All-tail}
use Rattle.std.proofs.Math.Seq.{take-length}
use Rattle.pes_time.specs.Stamps.{is_split}
use Rattle.unit_stream.specs.Units.{TimedUnit}
use Rattle.ad_library.specs.declared.store.UnitPlace.{UnitPlace}
use Rattle.ad_library.specs.Advertisements.{KeptUnit, with_unit, kept, KeptStream, lower, lower_of, least_of, zero_of, AdvertUnit, unit_from}
use Rattle.ad_library.specs.Storing.{StoredUnit, kept_unit, on_line, joined, places_of, place_of, greatest_of, StampsAreWhole}
use Rattle.ad_library.specs.Placing.{start_or, unit_at, units_at, is_placed, are_placed, tops_are}
use Rattle.ad_library.specs.Filing.{kept_of, ArePast, least_of_places}
use Rattle.ad_library.proofs.PlacingLemmas.{last_top}

pub kept_cons : (u : StoredUnit) (us : List StoredUnit) → kept_of (u ∷ us) ≡ kept_of us ++ kept_unit u ∷ []
kept_cons u us = reverse-append (kept_unit u ∷ []) (map kept_unit us)

-- ---- the greatest times

top_snoc : (t : ℕ) (ps : List UnitPlace) (p : UnitPlace) → last_top t (ps ++ p ∷ []) ≡ p.top
top_snoc t [] p = refl
top_snoc t (q ∷ qs) p = top_snoc q.top qs p

tops_snoc : (t : ℕ) (ps : List UnitPlace) (p : UnitPlace) → tops_are t ps ≡ true → p.top ≡ max (last_top t ps) p.time → tops_are t (ps ++ p ∷ []) ≡ true
tops_snoc t [] p h e = and_from (p.top == max t p.time) true (eq-eqb p.top (max t p.time) e) refl
tops_snoc t (q ∷ qs) p h e =
    let r = and_parts (q.top == max t q.time) (tops_are q.top qs) h in
    and_from (q.top == max t q.time) (tops_are q.top (qs ++ p ∷ [])) r.0 (tops_snoc q.top qs p r.1 e)

greatest_is : (us : List StoredUnit) → last_top 0 (places_of us) ≡ greatest_of us
greatest_is [] = refl
greatest_is (u ∷ us) = top_snoc 0 (places_of us) (place_of u us)

pub tops_stored : (us : List StoredUnit) → tops_are 0 (places_of us) ≡ true
tops_stored [] = refl
tops_stored (u ∷ us) = tops_snoc 0 (places_of us) (place_of u us) (tops_stored us) (ap (λ t. max t u.time) (sym (greatest_is us)))

-- ---- the places

range_more : (bs cs : List ℕ) (a b : ℕ) → b ≤ length bs → slice_range (bs ++ cs) a b ≡ slice_range bs a b
range_more bs cs zero b le =
    let z : b - 0 ≡ b = omega arith in
    ap (λ n. take n (bs ++ cs)) z ∙ take-append-le b bs cs le ∙ sym (ap (λ n. take n bs) z)
range_more [] cs (suc a) b le =
    let z : b - suc a ≡ 0 = omega arith in
    ap (λ n. take n (drop (suc a) cs)) z ∙ sym (ap (λ n. take n (drop (suc a) [])) z)
range_more (x ∷ bs) cs (suc a) zero le =
    let z : 0 - suc a ≡ 0 = omega arith in
    ap (λ n. take n (drop a (bs ++ cs))) z ∙ sym (ap (λ n. take n (drop a bs)) z)
range_more (x ∷ bs) cs (suc a) (suc b) le =
    let z : suc b - suc a ≡ b - a = omega arith in
    ap (λ n. take n (drop a (bs ++ cs))) z ∙ range_more bs cs a b (omega arith) ∙ sym (ap (λ n. take n (drop a bs)) z)

range_last : (bs cs : List ℕ) → slice_range (bs ++ cs) (length bs) (length (bs ++ cs)) ≡ cs
range_last bs cs =
    let n = length-append bs cs in
    let z : length (bs ++ cs) - length bs ≡ length cs = omega (arith, n) in
    ap (λ k. take k (drop (length bs) (bs ++ cs))) z ∙ ap (take (length cs)) ((drop_at bs cs (length bs) refl)) ∙ take-length cs

start_snoc : (ps : List UnitPlace) (p : UnitPlace) (m n : ℕ) → p.start ≡ n → start_or (ps ++ p ∷ []) m ≡ start_or ps n
start_snoc [] p m n e = e
start_snoc (q ∷ qs) p m n e = refl

module _ (least : ℕ) (bs cs : List ℕ) where
  longer_bytes : length bs ≤ length (bs ++ cs)
  longer_bytes = let n = length-append bs cs in omega (arith, n)

  one_placed : (q : UnitPlace) (stop : ℕ) → is_placed least q stop bs ≡ true → (is_placed least q stop (bs ++ cs) ≡ true) × (unit_at least q stop (bs ++ cs) ≡ unit_at least q stop bs)
  one_placed q stop h =
      let a = and_parts (nat_le q.start stop) (nat_le stop (length bs) && (nat_le least q.time && not (is_split (slice_range bs q.start stop)))) h in
      let b = and_parts (nat_le stop (length bs)) (nat_le least q.time && not (is_split (slice_range bs q.start stop))) a.1 in
      let c = and_parts (nat_le least q.time) (not (is_split (slice_range bs q.start stop))) b.1 in
      let le = leb-true stop (length bs) b.0 in
      let same = range_more bs cs q.start stop le in
      let more = longer_bytes in (
        and_from (nat_le q.start stop) (nat_le stop (length (bs ++ cs)) && (nat_le least q.time && not (is_split (slice_range (bs ++ cs) q.start stop)))) a.0
            (and_from (nat_le stop (length (bs ++ cs))) (nat_le least q.time && not (is_split (slice_range (bs ++ cs) q.start stop))) (le-leb stop (length (bs ++ cs)) (omega (arith, le, more)))
            (and_from (nat_le least q.time) (not (is_split (slice_range (bs ++ cs) q.start stop))) c.0 (ap (λ x. not (is_split x)) same ∙ c.1))),
        ap (λ x. let y : AdvertUnit = record { offset = pos (q.time - least); payload = x; random_access = q.random_access } in y) same,
      )

  snoc_placed : (ps : List UnitPlace) (p : UnitPlace) → are_placed least ps bs ≡ true → p.start ≡ length bs → is_placed least p (length (bs ++ cs)) (bs ++ cs) ≡ true
      → (are_placed least (ps ++ p ∷ []) (bs ++ cs) ≡ true) × (units_at least (ps ++ p ∷ []) (bs ++ cs) ≡ units_at least ps bs ++ unit_at least p (length (bs ++ cs)) (bs ++ cs) ∷ [])
  snoc_placed [] p h e k = (and_from (is_placed least p (length (bs ++ cs)) (bs ++ cs)) true k refl, refl)
  snoc_placed (q ∷ qs) p h e k =
      let stop = start_or qs (length bs) in
      let r = and_parts (is_placed least q stop bs) (are_placed least qs bs) h in
      let own = one_placed q stop r.0 in
      let rest = snoc_placed qs p r.1 e k in
      let at : start_or (qs ++ p ∷ []) (length (bs ++ cs)) ≡ stop = start_snoc qs p (length (bs ++ cs)) (length bs) e in (
        and_from (is_placed least q (start_or (qs ++ p ∷ []) (length (bs ++ cs))) (bs ++ cs)) (are_placed least (qs ++ p ∷ []) (bs ++ cs)) (ap (λ n. is_placed least q n (bs ++ cs)) at ∙ own.0) rest.0,
        ap (λ u. u ∷ units_at least (qs ++ p ∷ []) (bs ++ cs)) (ap (λ n. unit_at least q n (bs ++ cs)) at ∙ own.1) ∙ ap (λ us. unit_at least q stop bs ∷ us) rest.1,
      )

-- the offset on the line
offset_is : (t least : ℕ) → least ≤ t → pos (t - least) ≡ on_line t -ℤ on_line least
offset_is t least le = omega (arith, ints)

same_unit : (least : ℕ) (u : StoredUnit) (us : List StoredUnit) → least ≤ u.time
    → unit_at least (place_of u us) (length (joined us ++ u.payload)) (joined us ++ u.payload) ≡ unit_from (on_line least) (kept_unit u)
same_unit least u us le =
    ap (λ x. let y : AdvertUnit = record { offset = pos (u.time - least); payload = x; random_access = u.random_access } in y) (range_last (joined us) u.payload)
    ∙ ap (λ x. let y : AdvertUnit = record { offset = x; payload = u.payload; random_access = u.random_access } in y) (offset_is u.time least le)

newest_placed : (least : ℕ) (u : StoredUnit) (us : List StoredUnit) → least ≤ u.time → is_split u.payload ≡ false
    → is_placed least (place_of u us) (length (joined us ++ u.payload)) (joined us ++ u.payload) ≡ true
newest_placed least u us le w =
    let bs = joined us ++ u.payload in
    let n = longer_bytes least (joined us) u.payload in
    and_from (nat_le (length (joined us)) (length bs)) (nat_le (length bs) (length bs) && (nat_le least u.time && not (is_split (slice_range bs (length (joined us)) (length bs))))) (le-leb (length (joined us)) (length bs) n)
    (and_from (nat_le (length bs) (length bs)) (nat_le least u.time && not (is_split (slice_range bs (length (joined us)) (length bs)))) (le-leb (length bs) (length bs) (omega arith))
    (and_from (nat_le least u.time) (not (is_split (slice_range bs (length (joined us)) (length bs)))) (le-leb least u.time le)
    (ap (λ x. not (is_split x)) (range_last (joined us) u.payload) ∙ ap not w)))

pub stored_placed : (least : ℕ) (us : List StoredUnit) → ArePast least us → All StampsAreWhole us
    → (are_placed least (places_of us) (joined us) ≡ true) × (units_at least (places_of us) (joined us) ≡ map (unit_from (on_line least)) (kept_of us))
stored_placed least [] a w = (refl, refl)
stored_placed least (u ∷ us) a w =
    let rest = stored_placed least us a.1 (All-tail StampsAreWhole u us w) in
    let more = snoc_placed least (joined us) u.payload (places_of us) (place_of u us) rest.0 refl (newest_placed least u us a.0 (All-head StampsAreWhole u us w).whole) in
    let f = unit_from (on_line least) in (
      more.0,
      more.1 ∙ ap (λ vs. vs ++ unit_at least (place_of u us) (length (joined us ++ u.payload)) (joined us ++ u.payload) ∷ []) rest.1 ∙ ap (λ v. map f (kept_of us) ++ v ∷ []) (same_unit least u us a.0)
          ∙ sym (map-append f (kept_of us) (kept_unit u ∷ [])) ∙ sym (ap (map f) (kept_cons u us)),
    )

-- ---- the least time

min_swap : (a b : ℤ) → int_min a b ≡ int_min b a
min_swap a b = grind (arith, ints)

min_assoc : (a b c : ℤ) → int_min (int_min a b) c ≡ int_min (int_min a c) b
min_assoc a b c = grind (arith, ints)

lower_swap : (o : Option ℤ) (s t : ℤ) → lower (lower o s) t ≡ lower (lower o t) s
lower_swap None s t = ap Some (min_swap s t)
lower_swap (Some m) s t = ap Some (min_assoc m s t)

pub lower_push : (a o : Option ℤ) (t : ℤ) → lower_of (lower a t) o ≡ lower_of a (lower o t)
lower_push a None t = refl
lower_push None (Some m) t = ap Some (min_swap t m)
lower_push (Some x) (Some m) t = ap Some (grind (arith, ints))

pub lower_of_push : (a l z : Option ℤ) → lower_of (lower_of a l) z ≡ lower_of a (lower_of z l)
lower_of_push a None z = refl
lower_of_push a (Some t) z = lower_push a z t

pub lower_none : (z : Option ℤ) → lower_of None z ≡ z
lower_none None = refl
lower_none (Some t) = refl

places_snoc : (ps : List UnitPlace) (p : UnitPlace) → least_of_places (ps ++ p ∷ []) ≡ lower (least_of_places ps) (on_line p.time)
places_snoc [] p = refl
places_snoc (q ∷ qs) p = ap (λ o. lower o (on_line q.time)) (places_snoc qs p) ∙ lower_swap (least_of_places qs) (on_line p.time) (on_line q.time)

least_snoc : (us : List KeptUnit) (u : KeptUnit) → least_of (us ++ u ∷ []) ≡ lower (least_of us) u.time
least_snoc [] u = refl
least_snoc (v ∷ vs) u = ap (λ o. lower o v.time) (least_snoc vs u) ∙ lower_swap (least_of vs) u.time v.time

pub least_stored : (us : List StoredUnit) → least_of_places (places_of us) ≡ least_of (kept_of us)
least_stored [] = refl
least_stored (u ∷ us) =
    places_snoc (places_of us) (place_of u us) ∙ ap (λ o. lower o (on_line u.time)) (least_stored us) ∙ sym (least_snoc (kept_of us) (kept_unit u)) ∙ sym (ap least_of (kept_cons u us))

-- ---- none lies before it

abbrev pub Below : ℤ → Option ℤ → Type 0
Below z None = Unit {0}
Below z (Some m) = z ≤ℤ m

abbrev pub NotBefore : ℤ → List KeptUnit → Type 0
NotBefore z us = AllByRecursion (λ (u : KeptUnit). z ≤ℤ u.time) us

abbrev pub NoneBefore : ℤ → List KeptStream → Type 0
NoneBefore z ks = AllByRecursion (λ (k : KeptStream). NotBefore z k.units) ks

below_lower : (z : ℤ) (o : Option ℤ) (t : ℤ) → Below z (lower o t) → Below z o × (z ≤ℤ t)
below_lower z None t h = (tt, h)
below_lower z (Some m) t h = (grind (arith, ints), grind (arith, ints))

below_lower_of : (z : ℤ) (a b : Option ℤ) → Below z (lower_of a b) → Below z a × Below z b
below_lower_of z a None h = (h, tt)
below_lower_of z a (Some t) h = below_lower z a t h

below_least : (z : ℤ) (us : List KeptUnit) → Below z (least_of us) → NotBefore z us
below_least z [] h = tt
below_least z (u ∷ us) h = let r = below_lower z (least_of us) u.time h in (r.1, below_least z us r.0)

below_zero : (z : ℤ) (ks : List KeptStream) → Below z (zero_of ks) → NoneBefore z ks
below_zero z [] h = tt
below_zero z (k ∷ ks) h = let r = below_lower_of z (zero_of ks) (least_of k.units) h in (below_least z k.units r.1, below_zero z ks r.0)

same_below : (z : ℤ) → Below z (Some z)
same_below z = grind (arith, ints)

pub none_before : (z : ℤ) (ks : List KeptStream) → zero_of ks ≡ Some z → NoneBefore z ks
none_before z ks e = below_zero z ks (subst (Below z) (sym e) (same_below z))

before_snoc : (z : ℤ) (us : List KeptUnit) (u : KeptUnit) → NotBefore z (us ++ u ∷ []) → NotBefore z us × (z ≤ℤ u.time)
before_snoc z [] u h = (tt, h.0)
before_snoc z (v ∷ vs) u h = let r = before_snoc z vs u h.1 in ((h.0, r.0), r.1)

past_line : (least t : ℕ) → on_line least ≤ℤ on_line t → least ≤ t
past_line least t h = omega (arith, ints, h)

pub are_past : (least : ℕ) (us : List StoredUnit) → NotBefore (on_line least) (kept_of us) → ArePast least us
are_past least [] h = tt
are_past least (u ∷ us) h =
    let r = before_snoc (on_line least) (kept_of us) (kept_unit u) (subst (NotBefore (on_line least)) (kept_cons u us) h) in
    (past_line least u.time r.1, are_past least us r.0)

-- ---- the kept units, in order

kept_append : (us vs : List TimedUnit) → kept (us ++ vs) ≡ kept us ++ kept vs
kept_append [] vs = refl
kept_append (u ∷ us) vs = by_time u.time (kept_append us vs) where
  by_time : (o : Option ℤ) → kept (us ++ vs) ≡ kept us ++ kept vs → with_unit o u (kept (us ++ vs)) ≡ with_unit o u (kept us) ++ kept vs
  by_time None e = e
  by_time (Some t) e = ap (λ l. record { time = t; payload = u.payload; random_access = u.random_access } ∷ l) e

with_last : (o : Option ℤ) (u : TimedUnit) (ks : List KeptUnit) → reverse ks ++ with_unit o u [] ≡ reverse (with_unit o u ks)
with_last None u ks = append-nil (reverse ks)
with_last (Some t) u ks = sym (reverse-append (record { time = t; payload = u.payload; random_access = u.random_access } ∷ []) ks)

pub kept_reverse : (us : List TimedUnit) → kept (reverse us) ≡ reverse (kept us)
kept_reverse [] = refl
kept_reverse (u ∷ us) =
    ap kept (reverse-append (u ∷ []) us) ∙ kept_append (reverse us) (u ∷ []) ∙ ap (λ l. l ++ kept (u ∷ [])) (kept_reverse us) ∙ with_last u.time u (kept us)
