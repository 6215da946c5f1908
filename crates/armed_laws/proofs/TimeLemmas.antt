-- Ends and starts, by their tests.
use Rattle.std.proofs.Common.{◌≡◌, ◌^◌, Bool, true, false, ◌&&◌, refl, arith}
use Rattle.std.specs.Prelude.{ℤ, pos, negsuc, ◌+ℤ◌, ◌-ℤ◌, ◌≤ℤ◌, ◌<ℤ◌, int_le, int_lt, unsigned_abs, Option, None, Some}
use Rattle.std.proofs.lemmas.Int.{ints}
use Rattle.event_table.specs.Standing.{Standing, end_of, is_ahead_of, is_early_end, has_begun, ending_at}
use Rattle.splice_laws.specs.Settled.{IsAhead}

pub ahead-of : (latest : Option ℤ) (time : ℤ) → is_ahead_of latest time ≡ true → IsAhead latest time
ahead-of None time h = tt
ahead-of (Some high) time h = by high time (int_le time (high +ℤ pos (2 ^ 29))) h
  where
    by : (high time : ℤ) (b : Bool) → (int_lt high time && b) ≡ true → high <ℤ time
    by high time true h = grind (arith, ints, h)
    by high time false h = absurd (grind (arith, h))

pub not-begun : (latest : Option ℤ) (s : Standing) → has_begun latest s ≡ false → IsAhead latest s.start
not-begun None s h = tt
not-begun (Some high) s h = by high s.start h
  where
    by : (high start : ℤ) → int_le start high ≡ false → high <ℤ start
    by high start h = grind (arith, ints, h)

-- the end that is set
pub new-end : (time : ℤ) (s : Standing) → s.start <ℤ time → end_of (ending_at time s) ≡ time
new-end time s h = by s.start time (time -ℤ s.start) refl h
  where
    by : (start time way : ℤ) → time -ℤ start ≡ way → start <ℤ time → (start +ℤ pos (unsigned_abs way)) ≡ time
    by start time (pos n) is h = omega (arith, ints, is, h)
    by start time (negsuc n) is h = absurd (omega (arith, ints, is, h))

pub early-parts : (s : Standing) (time : ℤ) → is_early_end s time ≡ true → (s.start <ℤ time) × (time ≤ℤ end_of s)
early-parts s time h = by s.start (end_of s) time h
  where
    by : (start end time : ℤ) → (int_lt start time && int_lt time end) ≡ true → (start <ℤ time) × (time ≤ℤ end)
    by start end time h = (grind (arith, ints, h), grind (arith, ints, h))
