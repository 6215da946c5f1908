-- Ring and line: near times are told apart by the ring, and a stamp has one place near a time.
use Rattle.std.proofs.Common.{◌≡◌, ℕ, ◌^◌, ◌<◌, arith}
use Rattle.std.specs.Prelude.{ℤ, pos, negsuc, ◌+ℤ◌, ◌-ℤ◌, ◌≤ℤ◌, ◌<ℤ◌}
use Rattle.std.proofs.lemmas.Int.{ints}
use Rattle.pes_time.specs.Line.{signed, ring_of, lift, Near}

-- within 2^32 the way on the ring is the difference on the line
pub signed-near : (a b : ℤ) → Near a b → signed (ring_of a) (ring_of b) ≡ a -ℤ b
signed-near (pos a) (pos b) near = grind (arith, ints)
signed-near (pos a) (negsuc b) near = grind (arith, ints)
signed-near (negsuc a) (pos b) near = grind (arith, ints)
signed-near (negsuc a) (negsuc b) near = grind (arith, ints)

-- the lifted time stands at its stamp
pub ring-lift : (h : ℤ) (p : ℕ) → p < 2 ^ 33 → ring_of (lift h p) ≡ p
ring-lift (pos n) p below = grind (arith, ints)
ring-lift (negsuc n) p below = grind (arith, ints)

-- it is less than 2^32 above
pub lift-above : (h : ℤ) (p : ℕ) → p < 2 ^ 33 → lift h p <ℤ (h +ℤ pos (2 ^ 32))
lift-above h p below = grind (arith, ints)

-- and at most 2^32 below
pub lift-below : (h : ℤ) (p : ℕ) → p < 2 ^ 33 → h ≤ℤ (lift h p +ℤ pos (2 ^ 32))
lift-below h p below = grind (arith, ints)

-- no other time in that range stands there
pub lift-only : (h t : ℤ) → h ≤ℤ (t +ℤ pos (2 ^ 32)) → t <ℤ (h +ℤ pos (2 ^ 32)) → t ≡ lift h (ring_of t)
lift-only (pos h) (pos t) low high = grind (arith, ints)
lift-only (pos h) (negsuc t) low high = grind (arith, ints)
lift-only (negsuc h) (pos t) low high = grind (arith, ints)
lift-only (negsuc h) (negsuc t) low high = grind (arith, ints)
