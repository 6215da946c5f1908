-- Conditions on times of the ring, which a caller can test.
use Rattle.std.specs.Prelude.{ℕ, ◌^◌, Bool, false, not, pos, ◌≤ℤ◌, ◌<ℤ◌, int_lt, Option, None, Some}
use Rattle.pes_time.specs.Line.{signed}

-- whether a comes before b, by the sign of the way between them
abbrev pub is_before_on_ring : ℕ → ℕ → Bool
is_before_on_ring a b = int_lt (signed a b) (pos 0)

-- the time lies 1 to 2^29 ticks past the high time
pub record IsAheadOnRing (high time : ℕ) : Type 0 where
  pub above : pos 0 <ℤ signed time high
  pub below : signed time high ≤ℤ pos (2 ^ 29)

-- there is a high time, and the time lies ahead of it
abbrev pub IsAheadOf : Option ℕ → ℕ → Type 0
IsAheadOf None time = ⊥
IsAheadOf (Some high) time = IsAheadOnRing high time

-- the next high time is not below the last one, and at most 900,000 ticks (ten seconds) past it
pub record IsNextHigh (high next : ℕ) : Type 0 where
  pub above : pos 0 ≤ℤ signed next high
  pub below : signed next high ≤ℤ pos 900000

-- a time may be the next high time: the first may be any
abbrev pub CanAdvance : Option ℕ → ℕ → Type 0
CanAdvance None next = Unit {0}
CanAdvance (Some high) next = IsNextHigh high next

-- the high time is at or past this time
abbrev pub has_reached_on_ring : Option ℕ → ℕ → Bool
has_reached_on_ring None time = false
has_reached_on_ring (Some high) time = not (is_before_on_ring high time)
