-- Times near the high time: the ring tells their order, and whether they are equal.
use Rattle.std.proofs.Common.{◌≡◌, ℕ, ◌+◌, ◌-◌, ◌%◌, ◌^◌, ◌<◌, ◌≤◌, ◌==◌, ◌&&◌, ◌⊎◌, inl, inr, sym, ap, ◌∙◌, arith}
use Rattle.std.specs.Prelude.{ℤ, pos, negsuc, ◌+ℤ◌, ◌-ℤ◌, ◌≤ℤ◌, ◌<ℤ◌, int_le, int_lt}
use Rattle.std.specs.Ordering.{int_eq}
use Rattle.std.proofs.lemmas.Int.{ints, by_lt_z}
use Rattle.std.proofs.lemmas.Bool.Decides.{same_from_decides, Decides-eqb, Decides-int_eq, Decides-like}
use Rattle.pes_time.specs.Line.{signed, ring_of, lift, Near}
use Rattle.pes_time.proofs.LineLemmas.{signed-near, ring-lift, lift-above, lift-below, lift-only}
use Rattle.event_table.specs.Rings.{is_before_on_ring}

-- a time so near the high time that its order to any other such is told by the ring
pub record InWindow (high time : ℤ) : Type 0 where
  pub low : high <ℤ (time +ℤ pos (2 ^ 30 + 900000))
  pub top : time ≤ℤ (high +ℤ pos (2 ^ 29 + 2 ^ 30 + 900000))

pub near-window : (high a b : ℤ) → InWindow high a → InWindow high b → Near a b
near-window high a b wa wb = record { above = omega (arith, ints); below = omega (arith, ints) }

pub before-near : (a b : ℤ) → Near a b → is_before_on_ring (ring_of a) (ring_of b) ≡ int_lt a b
before-near a b near = rw signed-near (grind (arith, ints))

pub before-window : (high a b : ℤ) → InWindow high a → InWindow high b → is_before_on_ring (ring_of a) (ring_of b) ≡ int_lt a b
before-window high a b wa wb = before-near a b (near-window high a b wa wb)

-- so many ticks later on the ring
pub ring-plus : (a : ℤ) (n : ℕ) → (ring_of a + n) % 2 ^ 33 ≡ ring_of (a +ℤ pos n)
ring-plus (pos a) n = grind (arith, ints)
ring-plus (negsuc a) n = grind (arith, ints)

-- times less than a turn apart that stand at one place are one
pub ring-only : (a b : ℤ) → (a -ℤ b) <ℤ pos (2 ^ 33) → (b -ℤ a) <ℤ pos (2 ^ 33) → ring_of a ≡ ring_of b → a ≡ b
ring-only (pos a) (pos b) above below same = grind (arith, ints)
ring-only (pos a) (negsuc b) above below same = grind (arith, ints)
ring-only (negsuc a) (pos b) above below same = grind (arith, ints)
ring-only (negsuc a) (negsuc b) above below same = grind (arith, ints)

-- one turn later is the same place
pub ring-turn : (a : ℤ) → ring_of (a +ℤ pos (2 ^ 33)) ≡ ring_of a
ring-turn (pos a) = grind (arith, ints)
ring-turn (negsuc a) = grind (arith, ints)

-- the test of two places is that of the times there
pub same-place : (high : ℤ) (p : ℕ) (time : ℤ) → p < 2 ^ 33 → InWindow high time → (p == ring_of time) ≡ int_eq (lift high p) time
same-place high p time fits window =
    same_from_decides (p == ring_of time) (int_eq (lift high p) time)
    (Decides-like {P = p ≡ ring_of time} (p == ring_of time)
    (λ same. ring-only (lift high p) time
    (let above = lift-above high p fits in omega (arith, ints))
    (let below = lift-below high p fits in omega (arith, ints))
    (ring-lift high p fits ∙ same))
    (λ same. sym (ring-lift high p fits) ∙ ap ring_of same)
    (Decides-eqb p (ring_of time)))
    (Decides-int_eq (lift high p) time)

-- a way of less than 2^30 from a time in the window is told by the ring, from however far
pub way-within : (way off : ℤ) (n : ℕ) → n ≤ 2 ^ 30 → off <ℤ pos (2 ^ 33) → negsuc (2 ^ 33 - 2 ^ 31) ≤ℤ off
    → (way ≡ off) ⊎ ((way ≡ off -ℤ pos (2 ^ 33)) × (pos (2 ^ 32) ≤ℤ off)) ⊎ ((way ≡ off +ℤ pos (2 ^ 33)) × (off <ℤ pos 0))
    → (int_le (pos 0) way && int_lt way (pos n)) ≡ (int_le (pos 0) off && int_lt off (pos n))
way-within way off n small top low cases = grind (arith, ints)

-- the way on the ring is the difference in [-2^32, 2^32)
pub signed-range : (a b : ℤ) → b ≤ℤ (a +ℤ pos (2 ^ 32)) → a <ℤ (b +ℤ pos (2 ^ 32)) → signed (ring_of a) (ring_of b) ≡ a -ℤ b
signed-range a b low top = let lifted : a ≡ b +ℤ signed (ring_of a) (ring_of b) = lift-only b a low top in omega (arith, ints)

-- the way on the ring between two times less than a turn apart
pub way-cases : (a b : ℤ) → (a -ℤ b) <ℤ pos (2 ^ 33) → (b -ℤ a) <ℤ pos (2 ^ 33)
    → (signed (ring_of a) (ring_of b) ≡ a -ℤ b) ⊎ ((signed (ring_of a) (ring_of b) ≡ (a -ℤ b) -ℤ pos (2 ^ 33)) × (pos (2 ^ 32) ≤ℤ (a -ℤ b))) ⊎ ((signed (ring_of a) (ring_of b) ≡ (a -ℤ b) +ℤ pos (2 ^ 33)) × ((a -ℤ b) <ℤ pos 0))
way-cases a b above below =
    by_lt_z (a -ℤ b) (pos (2 ^ 32))
    (λ lt. by_lt_z (pos (2 ^ 32)) (b -ℤ a)
    (λ far. inr (inr (
    let way : signed (ring_of (a +ℤ pos (2 ^ 33))) (ring_of b) ≡ (a +ℤ pos (2 ^ 33)) -ℤ b = signed-range _ _ (omega (arith, ints)) (omega (arith, ints)) in
    (ap (λ p. signed p (ring_of b)) (sym (ring-turn a)) ∙ way ∙ omega (arith, ints), omega (arith, ints)))))
    (λ near. inl (signed-range a b (omega (arith, ints)) (omega (arith, ints)))))
    (λ ge. inr (inl (
    let way : signed (ring_of (a -ℤ pos (2 ^ 33))) (ring_of b) ≡ (a -ℤ pos (2 ^ 33)) -ℤ b = signed-range _ _ (omega (arith, ints)) (omega (arith, ints)) in
    let back : (a -ℤ pos (2 ^ 33)) +ℤ pos (2 ^ 33) ≡ a = omega (arith, ints) in
    (ap (λ p. signed p (ring_of b)) (sym (ap ring_of back) ∙ ring-turn (a -ℤ pos (2 ^ 33))) ∙ way ∙ omega (arith, ints), ge))))
