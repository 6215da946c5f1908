-- One event: what its tests on the ring say of its interval on the line.
use Rattle.std.proofs.Common.{◌≡◌, ℕ, ◌^◌, ◌<◌, ◌==◌, Bool, true, false, not, ◌&&◌, ◌⊎◌, ◌∙◌, ap, List, subst, sym, refl, arith}
use Rattle.std.specs.Prelude.{ℤ, pos, negsuc, ◌+ℤ◌, ◌-ℤ◌, ◌≤ℤ◌, ◌<ℤ◌, int_le, int_lt, unsigned_abs, All, Contains, Some}
use Rattle.std.proofs.lemmas.Int.{ints}
use Rattle.std.proofs.lemmas.Bool.Decides.{nat_tests}
use Rattle.pes_time.specs.Line.{signed, ring_of, lift}
use Rattle.pes_time.proofs.LineLemmas.{ring-lift, lift-above, lift-below}
use Rattle.pes_time.proofs.IntLemmas.{lt-test}
use Rattle.event_table.specs.declared.event.Event.{Event}
use Rattle.event_table.specs.Rings.{is_before_on_ring}
use Rattle.event_table.specs.Events.{covers_on_ring, meets_on_ring, repeats_on_ring, ring_end, IsArmable}
use Rattle.event_table.specs.Standing.{Standing, on_ring, on_line, ending_at, end_of, forgotten_at, covers, meets, repeats, IsApart, IsInReach}
use Rattle.event_table.specs.Laws.{HaveNoTimeInCommon, IsCompared}
use Rattle.event_table.specs.Laws.IsCompared.{is_unit, is_start, is_end, is_forgetting, is_asked}
use Rattle.event_table.proofs.TimeLemmas.{InWindow, before-window, ring-plus, same-place, way-within, way-cases}

pub apart-common : (a b : Standing) → IsApart a b → HaveNoTimeInCommon a b
apart-common a b apart time in_a in_b =
    let ab : a.start <ℤ end_of b = omega (arith, ints, in_a.from, in_b.to) in
    let ba : b.start <ℤ end_of a = omega (arith, ints, in_b.from, in_a.to) in
    grind (arith, ints, apart.times)

pub not-lt : (a b : ℤ) → not (int_lt a b) ≡ int_le b a
not-lt a b = grind (arith, ints)

pub early-by : (start time : ℤ) (b : Bool) → (int_lt (pos 0) (time -ℤ start) && b) ≡ (int_lt start time && b)
early-by start time true = grind (arith, ints)
early-by start time false = grind (arith, ints)

pub ahead-of : (high time : ℤ) → (int_lt high time && int_le time (high +ℤ pos (2 ^ 29))) ≡ true → high <ℤ time
ahead-of high time is = grind (arith, ints)

-- the test of two numbers that are read as two others
pub read-same : (a b p q : ℕ) → a ≡ p → b ≡ q → a ≡ b → (p == q) ≡ true
read-same a b p q a_is b_is same = let is : p ≡ q = cc in grind (arith, nat_tests)

pub read-other : (a b p q : ℕ) → a ≡ p → b ≡ q → (a ≡ b → ⊥) → (p == q) ≡ false
read-other a b p q a_is b_is other = let not_is : p ≡ q → ⊥ = λ is. other (a_is ∙ is ∙ sym b_is) in grind (arith, nat_tests)

-- the end at this time is this time
pub ending-end : (start time : ℤ) → start <ℤ time → start +ℤ pos (unsigned_abs (time -ℤ start)) ≡ time
ending-end start time past = way-end start time (time -ℤ start) refl past
  where
    way-end : (start time way : ℤ) → time -ℤ start ≡ way → start <ℤ time → start +ℤ pos (unsigned_abs way) ≡ time
    way-end start time (pos n) is past = omega (arith, ints)
    way-end start time (negsuc n) is past = absurd (omega (arith, ints))

meets-least : (b : Bool) (end time other_start : ℤ) → time <ℤ end → (b && int_lt other_start end) ≡ false → (b && int_lt other_start time) ≡ false
meets-least true end time other_start before apart = grind (arith, ints)
meets-least false end time other_start before apart = refl

-- an interval with less at its end meets no more
pub meets-less : (start end time other_start other_end : ℤ) → int_lt start time ≡ true → int_lt time end ≡ true
    → (int_lt start other_end && int_lt other_start end) ≡ false → (int_lt start other_end && int_lt other_start (start +ℤ pos (unsigned_abs (time -ℤ start)))) ≡ false
meets-less start end time other_start other_end past before apart =
    rw (ending-end start time (lt-test start time past)) (meets-least (int_lt start other_end) end time other_start (lt-test time end before) apart)

pub early-parts : (start time end : ℤ) → (int_lt start time && int_lt time end) ≡ true → (start <ℤ time) × (time <ℤ end)
early-parts start time end early = (grind (arith, ints), grind (arith, ints))

pub ending-reach : (high : ℤ) (s : Standing) (time : ℤ) → IsInReach high s → s.start <ℤ time → high <ℤ time → time <ℤ end_of s → IsInReach high (ending_at time s)
ending-reach high s time reach past ahead before =
    let end : s.start +ℤ pos (unsigned_abs (time -ℤ s.start)) ≡ time = ending-end s.start time past in
    record { some = omega (arith, ints); shortened = omega (arith, ints); most = reach.most; start = reach.start; stands = rw end (omega (arith, ints)) }

pub next-window : (high way later : ℤ) → later ≡ high +ℤ way → pos 0 ≤ℤ way → way ≤ℤ pos 900000 → InWindow high later
next-window high way later is above below = record { low = omega (arith, ints); top = omega (arith, ints) }

pub next-reach : (high way later : ℤ) (s : Standing) → later ≡ high +ℤ way → pos 0 ≤ℤ way → IsInReach high s → int_lt later (forgotten_at s) ≡ true → IsInReach later s
next-reach high way later s is above reach stands =
    record { some = reach.some; shortened = reach.shortened; most = reach.most; start = omega (arith, ints); stands = lt-test later (forgotten_at s) stands }

pub high-window : (high : ℤ) → InWindow high high
high-window high = record { low = omega (arith, ints); top = omega (arith, ints) }

-- start, end and forgetting of an event within reach, for short
pub start-window : (high : ℤ) (s : Standing) → IsInReach high s → InWindow high s.start
start-window high s reach = record { low = omega (arith, ints); top = omega (arith, ints) }

pub end-window : (high : ℤ) (s : Standing) → IsInReach high s → InWindow high (end_of s)
end-window high s reach = record { low = omega (arith, ints); top = omega (arith, ints) }

pub forgotten-window : (high : ℤ) (s : Standing) → IsInReach high s → InWindow high (forgotten_at s)
forgotten-window high s reach = record { low = omega (arith, ints); top = omega (arith, ints) }

-- an element of a list of which the fact holds
pub All-at : {X : Type 0} (P : X → Type 0) (xs : List X) (x : X) → All P xs → Contains xs x → P x
All-at P xs x all (k, below, is) = subst P is (all k x below)

pub compared-window : (high : ℤ) (standing : List Standing) (time : ℤ) → All (IsInReach high) standing → IsCompared high standing time → InWindow high time
compared-window high standing time all (is_unit low top) = record { low = omega (arith, ints); top = omega (arith, ints) }
compared-window high standing time all (is_start s in_list is) = rw is (start-window high s (All-at (IsInReach high) standing s all in_list))
compared-window high standing time all (is_end s in_list is) = rw is (end-window high s (All-at (IsInReach high) standing s all in_list))
compared-window high standing time all (is_forgetting s in_list is) = rw is (forgotten-window high s (All-at (IsInReach high) standing s all in_list))
compared-window high standing time all (is_asked low top) = record { low = omega (arith, ints); top = omega (arith, ints) }

and-comm : (a b : Bool) → (a && b) ≡ (b && a)
and-comm true true = refl
and-comm true false = refl
and-comm false true = refl
and-comm false false = refl

covers-by : (b : Bool) (way time start : ℤ) (n : ℕ)
    → (int_le (pos 0) way && int_lt way (pos n)) ≡ (int_le (pos 0) (time -ℤ start) && int_lt (time -ℤ start) (pos n))
    → (b && int_le (pos 0) way && int_lt way (pos n)) ≡ (b && int_le start time && int_lt time (start +ℤ pos n))
covers-by true way time start n same = grind (arith, ints)
covers-by false way time start n same = refl

-- an uncancelled event holds a time of the ring where it holds the time near the high time that stands there
pub covers-near : (high : ℤ) (p : ℕ) → p < 2 ^ 33 → (s : Standing) → IsInReach high s → covers_on_ring (on_ring s) p ≡ covers (lift high p) s
covers-near high p fits s reach =
    let above : lift high p <ℤ (high +ℤ pos (2 ^ 32)) = lift-above high p fits in
    let below : high ≤ℤ (lift high p +ℤ pos (2 ^ 32)) = lift-below high p fits in
    let cases = way-cases (lift high p) s.start (omega (arith, ints)) (omega (arith, ints)) in
    let cases' = subst (λ r. (signed r (ring_of s.start) ≡ lift high p -ℤ s.start) ⊎ ((signed r (ring_of s.start) ≡ (lift high p -ℤ s.start) -ℤ pos (2 ^ 33)) × (pos (2 ^ 32) ≤ℤ (lift high p -ℤ s.start))) ⊎ ((signed r (ring_of s.start) ≡ (lift high p -ℤ s.start) +ℤ pos (2 ^ 33)) × ((lift high p -ℤ s.start) <ℤ pos 0))) (ring-lift high p fits) cases in
    let within = way-within (signed p (ring_of s.start)) (lift high p -ℤ s.start) s.length (omega (arith, ints)) (omega (arith, ints)) (omega (arith, ints)) cases' in
    covers-by (not s.cancelled) (signed p (ring_of s.start)) (lift high p) s.start s.length within

-- whether an event repeats another
pub repeats-near : (high : ℤ) (e : Event) → e.start < 2 ^ 33 → (s : Standing) → IsInReach high s → repeats_on_ring e (on_ring s) ≡ repeats (on_line (Some high) e) s
repeats-near high e fits s reach =
    ap (λ b. e.id == s.id && b && e.asked == s.asked && e.program == s.program) (same-place high e.start s.start fits (start-window high s reach))

-- the ring's end is that of the line
pub ring_end-on_ring : (s : Standing) → ring_end (on_ring s) ≡ ring_of (end_of s)
ring_end-on_ring s = ring-plus s.start s.length

-- an event that may be armed is within reach
pub armable-reach : (high : ℤ) (e : Event) → e.start < 2 ^ 33 → IsArmable (ring_of high) e → IsInReach high (on_line (Some high) e)
armable-reach high e fits can =
    let above = can.ahead.above in
    let below = can.ahead.below in
    let some = can.fresh.some in
    let most = can.fresh.most in
    let whole = can.fresh.whole in
    record { some = omega arith; shortened = omega arith; most = omega arith; start = omega (arith, ints); stands = omega (arith, ints) }

-- an event of the ring stands where it is on the line
pub on_ring-on_line : (high : ℤ) (e : Event) → e.start < 2 ^ 33 → on_ring (on_line (Some high) e) ≡ e
on_ring-on_line high e fits = ap (λ p. record e { start = p }) (ring-lift high e.start fits)

-- whether two events within reach meet
pub meets-near : (high : ℤ) (a b : Standing) → IsInReach high a → IsInReach high b → meets_on_ring (on_ring a) (on_ring b) ≡ meets a b
meets-near high a b ra rb =
    let first : is_before_on_ring (ring_of a.start) (ring_end (on_ring b)) ≡ int_lt a.start (end_of b)
    = rw (ring_end-on_ring b) (before-window high a.start (end_of b) (start-window high a ra) (end-window high b rb)) in
    let second : is_before_on_ring (ring_of b.start) (ring_end (on_ring a)) ≡ int_lt b.start (end_of a)
    = rw (ring_end-on_ring a) (before-window high b.start (end_of a) (start-window high b rb) (end-window high a ra)) in
    cc

pub meets-comm : (a b : Standing) → meets a b ≡ meets b a
meets-comm a b = and-comm (int_lt a.start (end_of b)) (int_lt b.start (end_of a))
