-- Times on the ring of 33-bit stamps and on the line of integers, in ticks of 90 kHz (ISO/IEC 13818-1, 2.4.3.7).
-- A stamp says where an integer stands modulo 2^33. Which integer it is, the times before it say: the one that is nearest.
use Rattle.std.specs.Prelude.{◌≡◌, ℕ, ◌+◌, ◌-◌, ◌%◌, ◌^◌, ◌<◌, if◌then◌else◌, nat_lt, ℤ, pos, negsuc, ◌+ℤ◌, ◌-ℤ◌, ◌≤ℤ◌, ◌<ℤ◌, Option, None, Some, ◌↔◌}
use Rattle.std.specs.Int.{int_max}

-- the way from u to t on the ring, in [-2^32, 2^32)
abbrev pub signed : ℕ → ℕ → ℤ
signed t u = let way = (t + (2 ^ 33 - u)) % 2 ^ 33 in if nat_lt way (2 ^ 32) then pos way else negsuc (2 ^ 33 - 1 - way)

-- where an integer stands on the ring
abbrev pub ring_of : ℤ → ℕ
ring_of (pos n) = n % 2 ^ 33
ring_of (negsuc n) = 2 ^ 33 - 1 - n % 2 ^ 33

-- the line time in [-2^32, 2^32) of h that stands at p on the ring
abbrev pub lift : ℤ → ℕ → ℤ
lift h p = h +ℤ signed p (ring_of h)

-- where a stamp stands on the line, by the greatest time so far; the first stamp stands at its own number
abbrev pub place : Option ℤ → ℕ → ℤ
place None p = pos p
place (Some h) p = lift h p

-- the greatest time, with one more
abbrev pub raise : Option ℤ → ℤ → Option ℤ
raise None t = Some t
raise (Some h) t = Some (int_max h t)

-- two line times less than 2^32 apart, whose order the ring tells
pub record Near (a b : ℤ) : Type 0 where
  pub above : (a -ℤ b) <ℤ pos (2 ^ 32)
  pub below : (b -ℤ a) <ℤ pos (2 ^ 32)

-- what the ring says of near times: the way between them is their difference, and its sign their order
pub record TellsOrder (a b : ℤ) : Type 0 where
  pub way : signed (ring_of a) (ring_of b) ≡ a -ℤ b
  pub earlier : (signed (ring_of a) (ring_of b) <ℤ pos 0) ↔ (a <ℤ b)

abbrev pub RingOrderIsLineOrder : Type 0
RingOrderIsLineOrder = (a b : ℤ) → Near a b → TellsOrder a b

-- t is in [-2^32, 2^32) of h and stands at p on the ring
pub record StandsNear (h : ℤ) (p : ℕ) (t : ℤ) : Type 0 where
  pub ring : ring_of t ≡ p
  pub low : h ≤ℤ (t +ℤ pos (2 ^ 32))
  pub high : t <ℤ (h +ℤ pos (2 ^ 32))

-- for each stamp there is one integer near h, and `lift` is it
abbrev pub LiftIsTheNearTime : Type 0
LiftIsTheNearTime = (h : ℤ) (p : ℕ) → p < 2 ^ 33 → StandsNear h p (lift h p) × ((t : ℤ) → StandsNear h p t → t ≡ lift h p)
