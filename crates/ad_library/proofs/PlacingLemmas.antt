-- Places of units, one after another.
use Rattle.std.proofs.Common.{◌≡◌, ℕ, zero, suc, ◌+◌, ◌-◌, ◌<◌, ◌≤◌, List, [], ◌∷◌, Bool, true, false, not, ◌&&◌, ◌||◌, ◌==◌, max, length, drop, refl, sym, ap, arith, ◌∙◌}
use Rattle.std.specs.Prelude.{nat_le, slice_range, slice_get, Option, Some, None, is_some, option_map}
use Rattle.std.specs.List.{list_all, list_any}
use Rattle.std.proofs.lemmas.Bool.{leb-true, le-leb, leb-false, lt-ltb, le-ltb, eqb-true, and_from, and_parts, not-true}
use Rattle.std.proofs.Math.Bool.{or-false}
use Rattle.ts_packet.proofs.Cases.{by_test}
use Rattle.pes_time.specs.Stamps.{is_split, is_untimed}
use Rattle.ad_library.specs.declared.store.UnitPlace.{UnitPlace}
use Rattle.ad_library.specs.Advertisements.{AdvertUnit, is_below, slice_of, reaches_end}
use Rattle.ad_library.specs.Placing.{start_or, unit_at, units_at, is_placed, are_placed, is_topped, tops_rise, tops_are}

-- ---- one place

module _ (least : ℕ) (p : UnitPlace) (stop : ℕ) (bs : List ℕ) (h : is_placed least p stop bs ≡ true) where
  pub starts : p.start ≤ stop
  starts = leb-true p.start stop (and_parts _ _ h).0

  pub stops : stop ≤ length bs
  stops = leb-true stop (length bs) (and_parts _ _ (and_parts _ _ h).1).0

  third : nat_le least p.time && not (is_split (slice_range bs p.start stop)) ≡ true
  third = (and_parts (nat_le stop (length bs)) (nat_le least p.time && not (is_split (slice_range bs p.start stop))) (and_parts _ _ h).1).1

  pub past : least ≤ p.time
  past = leb-true least p.time (and_parts (nat_le least p.time) (not (is_split (slice_range bs p.start stop))) third).0

  pub reads : is_split (slice_range bs p.start stop) ≡ false
  reads = not-true (is_split (slice_range bs p.start stop)) (and_parts (nat_le least p.time) (not (is_split (slice_range bs p.start stop))) third).1

-- bytes whose stamps can be read are not empty
pub fills : (bs : List ℕ) → is_split bs ≡ false → 0 < length bs
unfolding is_split is_untimed
fills [] h = absurd (cc)
fills (b ∷ bs) h = omega arith

-- ---- the first of some

module _ (least : ℕ) (ps qs : List UnitPlace) (p : UnitPlace) (bs : List ℕ) (e : ps ≡ p ∷ qs) where
  pub first_placed : are_placed least ps bs ≡ true → is_placed least p (start_or qs (length bs)) bs ≡ true
  first_placed h = (and_parts _ _ (ap (λ xs. are_placed least xs bs) (sym e) ∙ h)).0

  pub rest_placed : are_placed least ps bs ≡ true → are_placed least qs bs ≡ true
  rest_placed h = (and_parts _ _ (ap (λ xs. are_placed least xs bs) (sym e) ∙ h)).1

  pub rest_rises : tops_rise ps ≡ true → tops_rise qs ≡ true
  rest_rises h = (and_parts _ _ (and_parts _ _ (ap tops_rise (sym e) ∙ h)).1).1

  pub first_below : (size : ℕ) → p.time - least < size → slice_of size (units_at least ps bs) ≡ unit_at least p (start_or qs (length bs)) bs ∷ slice_of size (units_at least qs bs)
  first_below size lt = ap (λ xs. slice_of size (units_at least xs bs)) e ∙ (let t = lt-ltb (p.time - least) size lt in simp t refl)

  pub first_past : (size : ℕ) → size ≤ p.time - least → slice_of size (units_at least ps bs) ≡ slice_of size (units_at least qs bs)
  first_past size le = ap (λ xs. slice_of size (units_at least xs bs)) e ∙ (let t = le-ltb (p.time - least) size le in simp t refl)

-- ---- some from the front

all_at : {X : Type 0} (f : X → Bool) (xs : List X) (n : ℕ) (x : X) → list_all f xs ≡ true → slice_get xs n ≡ Some x → f x ≡ true
all_at f [] n x h e = absurd (cc)
all_at f (y ∷ ys) zero x h e = let s : y ≡ x = cc in ap f (sym s) ∙ (and_parts (f y) (list_all f ys) h).0
all_at f (y ∷ ys) (suc n) x h e = all_at f ys n x (and_parts (f y) (list_all f ys) h).1 e

module _ (least limit : ℕ) (bs : List ℕ) where
  front_at : (ps : List UnitPlace) (n : ℕ) (q : UnitPlace) → tops_rise ps ≡ true → slice_get ps n ≡ Some q → q.top - least < limit
      → drop (suc n) (slice_of limit (units_at least ps bs)) ≡ slice_of limit (units_at least (drop (suc n) ps) bs)
  front_at [] n q h e lt = absurd (cc)
  front_at (p ∷ ps) zero q h e lt =
      let own = leb-true p.time p.top (and_parts (nat_le p.time p.top) (list_all (is_topped p) ps && tops_rise ps) h).0 in
      let s : p ≡ q = cc in
      let t : p.top ≡ q.top = ap (λ (x : UnitPlace). x.top) s in
      ap (drop 1) (first_below least (p ∷ ps) ps p bs refl limit (omega arith))
  front_at (p ∷ ps) (suc n) q h e lt =
      let own = leb-true p.time p.top (and_parts (nat_le p.time p.top) (list_all (is_topped p) ps && tops_rise ps) h).0 in
      let more = and_parts (list_all (is_topped p) ps) (tops_rise ps) (and_parts (nat_le p.time p.top) (list_all (is_topped p) ps && tops_rise ps) h).1 in
      let over = leb-true p.top q.top (all_at (is_topped p) ps n q more.0 e) in
      ap (drop (suc (suc n))) (first_below least (p ∷ ps) ps p bs refl limit (omega arith)) ∙ front_at ps n q more.1 e lt

  pub front_below : (ps : List UnitPlace) (count : ℕ) (q : UnitPlace) → 0 < count → tops_rise ps ≡ true → slice_get ps (count - 1) ≡ Some q → q.top - least < limit
      → drop count (slice_of limit (units_at least ps bs)) ≡ slice_of limit (units_at least (drop count ps) bs)
  front_below ps zero q some h e lt = absurd (omega arith)
  front_below ps (suc n) q some h e lt = front_at ps n q h (let s : suc n - 1 ≡ n = omega arith in ap (slice_get ps) (sym s) ∙ e) lt

pub placed_drop : (n least : ℕ) (ps : List UnitPlace) (bs : List ℕ) → are_placed least ps bs ≡ true → are_placed least (drop n ps) bs ≡ true
placed_drop zero least ps bs h = h
placed_drop (suc n) least [] bs h = h
placed_drop (suc n) least (p ∷ ps) bs h = placed_drop n least ps bs (rest_placed least (p ∷ ps) ps p bs refl h)

pub rises_drop : (n : ℕ) (ps : List UnitPlace) → tops_rise ps ≡ true → tops_rise (drop n ps) ≡ true
rises_drop zero ps h = h
rises_drop (suc n) [] h = h
rises_drop (suc n) (p ∷ ps) h = rises_drop n ps (rest_rises 0 (p ∷ ps) ps p [] refl h)

-- ---- turns

pub drop_more : {X : Type 0} (m : ℕ) (us : List X) → drop 1 (drop m us) ≡ drop (m + 1) us
drop_more zero us = refl
drop_more (suc m) [] = let e : suc m + 1 ≡ suc (suc m) = omega arith in sym (ap (λ n. drop n []) e)
drop_more (suc m) (u ∷ us) = let e : suc m + 1 ≡ suc (m + 1) = omega arith in drop_more m us ∙ sym (ap (λ n. drop n (u ∷ us)) e)

pub drained : {X : Type 0} (us : List X) (m n : ℕ) → m ≤ n → slice_get (drop m us) 0 ≡ None → drop 1 (drop m us) ≡ drop n us
drained [] zero zero le e = refl
drained [] zero (suc n) le e = refl
drained [] (suc m) zero le e = absurd (omega arith)
drained [] (suc m) (suc n) le e = refl
drained (u ∷ us) zero n le e = absurd (cc)
drained (u ∷ us) (suc m) zero le e = absurd (omega arith)
drained (u ∷ us) (suc m) (suc n) le e = drained us m n (omega arith) e

pub none_seen : {X Y : Type 0} (f : X → Y) (o : Option X) → is_some o ≡ false → option_map f o ≡ None
none_seen f None h = refl
none_seen f (Some x) h = absurd (cc)

-- ---- greatest times

all_topped : (p : UnitPlace) (t : ℕ) (ps : List UnitPlace) → p.top ≤ t → tops_are t ps ≡ true → list_all (is_topped p) ps ≡ true
all_topped p t [] le h = refl
all_topped p t (q ∷ qs) le h =
    let r = and_parts (q.top == max t q.time) (tops_are q.top qs) h in
    let e = eqb-true q.top (max t q.time) r.0 in
    and_from (is_topped p q) (list_all (is_topped p) qs) (le-leb p.top q.top (omega arith)) (all_topped p q.top qs (omega arith) r.1)

pub tops_rising : (t : ℕ) (ps : List UnitPlace) → tops_are t ps ≡ true → tops_rise ps ≡ true
tops_rising t [] h = refl
tops_rising t (p ∷ ps) h =
    let r = and_parts (p.top == max t p.time) (tops_are p.top ps) h in
    let e = eqb-true p.top (max t p.time) r.0 in
    and_from (nat_le p.time p.top) (list_all (is_topped p) ps && tops_rise ps) (le-leb p.time p.top (omega arith))
    (and_from (list_all (is_topped p) ps) (tops_rise ps) (all_topped p p.top ps (omega arith) r.1) (tops_rising p.top ps r.1))

abbrev pub is_reached : ℕ → ℕ → ℕ → Bool
is_reached limit least t = nat_le (limit - 45000) (t - least)

no_le : (a b : ℕ) → b < a → nat_le a b ≡ false
no_le a b lt = by_test (nat_le a b) (λ y. absurd (let le = leb-true a b y in omega arith)) (λ n. n)

or_three : (a b c : Bool) → (a || b) || c ≡ a || (b || c)
or_three true b c = refl
or_three false b c = refl

abbrev pub last_top : ℕ → List UnitPlace → ℕ
last_top t [] = t
last_top t (p ∷ ps) = last_top p.top ps

last_is_top : (ps : List UnitPlace) (q : UnitPlace) (t : ℕ) → Some q ≡ slice_get ps (length ps - 1) → last_top t ps ≡ q.top
last_is_top [] q t e = absurd (cc)
last_is_top (p ∷ []) q t e = let s : q ≡ p = cc in sym (ap (λ (x : UnitPlace). x.top) s)
last_is_top (p ∷ r ∷ rs) q t e = let n : length (p ∷ r ∷ rs) - 1 ≡ suc (length (r ∷ rs) - 1) = omega arith in last_is_top (r ∷ rs) q p.top (e ∙ ap (slice_get (p ∷ r ∷ rs)) n)

module _ (limit least : ℕ) (bs : List ℕ) where
  reached_is : (p : UnitPlace) (stop : ℕ) → reaches_end limit (unit_at least p stop bs) ≡ is_reached limit least p.time
  reached_is p stop =
      by_test (nat_le limit ((p.time - least) + 45000))
      (λ y. let le = leb-true limit ((p.time - least) + 45000) y in y ∙ sym (le-leb (limit - 45000) (p.time - least) (omega arith)))
      (λ n. let lt = leb-false limit ((p.time - least) + 45000) n in n ∙ sym (no_le (limit - 45000) (p.time - least) (omega arith)))

  -- the test at the greatest of two times
  at_max : (a b : ℕ) → is_reached limit least (max a b) ≡ is_reached limit least a || is_reached limit least b
  at_max a b =
      by_test (is_reached limit least a)
      (λ y. let le = leb-true (limit - 45000) (a - least) y in let m = le-leb (limit - 45000) (max a b - least) (omega arith) in m ∙ sym (ap (λ c. c || is_reached limit least b) y))
      (λ n. let lt = leb-false (limit - 45000) (a - least) n in
      by_test (is_reached limit least b)
      (λ y. let le = leb-true (limit - 45000) (b - least) y in let m = le-leb (limit - 45000) (max a b - least) (omega arith) in m ∙ sym (ap (λ c. c || is_reached limit least b) n ∙ y))
      (λ k. let lt2 = leb-false (limit - 45000) (b - least) k in let m = no_le (limit - 45000) (max a b - least) (omega arith) in m ∙ sym (ap (λ c. c || is_reached limit least b) n ∙ k)))

  abbrev any_reached : List UnitPlace → Bool
  any_reached ps = list_any (reaches_end limit) (units_at least ps bs)

  reached_by : (t : ℕ) (ps : List UnitPlace) → tops_are t ps ≡ true → is_reached limit least (last_top t ps) ≡ is_reached limit least t || any_reached ps
  reached_by t [] h = sym (or-false (is_reached limit least t))
  reached_by t (p ∷ ps) h =
      let r = and_parts (p.top == max t p.time) (tops_are p.top ps) h in
      let e = eqb-true p.top (max t p.time) r.0 in
      let top : is_reached limit least p.top ≡ is_reached limit least t || is_reached limit least p.time = ap (is_reached limit least) e ∙ at_max t p.time in
      let own = reached_is p (start_or ps (length bs)) in
      reached_by p.top ps r.1 ∙ ap (λ c. c || any_reached ps) top ∙ or_three (is_reached limit least t) (is_reached limit least p.time) (any_reached ps)
      ∙ ap (λ c. is_reached limit least t || (c || any_reached ps)) (sym own)

  -- at the newest place's greatest time it is told whether any unit reaches the end
  pub reaches_last : (ps : List UnitPlace) (q : UnitPlace) → tops_are 0 ps ≡ true → Some q ≡ slice_get ps (length ps - 1) → is_reached limit least q.top ≡ any_reached ps
  reaches_last [] q h e = absurd (cc)
  reaches_last (p ∷ ps) q h e =
      let all = reached_by 0 (p ∷ ps) h in
      let own = reached_is p (start_or ps (length bs)) in
      ap (is_reached limit least) (sym (last_is_top (p ∷ ps) q 0 e)) ∙ all ∙
      by_test (is_reached limit least 0)
      (λ y. let le = leb-true (limit - 45000) (0 - least) y in let m = le-leb (limit - 45000) (p.time - least) (omega arith) in
      ap (λ c. c || any_reached (p ∷ ps)) y ∙ sym (ap (λ c. c || any_reached ps) (own ∙ m)))
      (λ n. ap (λ c. c || any_reached (p ∷ ps)) n)

-- no more units are left than there are places
few_one : (limit : ℕ) (b : Bool) (u : AdvertUnit) (us : List AdvertUnit) (n : ℕ) → is_below limit u ≡ b → length (slice_of limit us) ≤ n → length (slice_of limit (u ∷ us)) ≤ suc n
few_one limit true u us n h l = simp h (omega (arith, l))
few_one limit false u us n h l = simp h (omega (arith, l))

pub few_left : (limit least : ℕ) (ps : List UnitPlace) (bs : List ℕ) → length (slice_of limit (units_at least ps bs)) ≤ length ps
few_left limit least [] bs = omega arith
few_left limit least (p ∷ ps) bs =
    let u = unit_at least p (start_or ps (length bs)) bs in
    few_one limit (is_below limit u) u (units_at least ps bs) (length ps) refl (few_left limit least ps bs)
