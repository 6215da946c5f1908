-- Times of lines on the line of the network, in ticks of 90 kHz. A time stays within 64 bits.
use Rattle.std.specs.Prelude.{ℕ, ◌+◌, ◌-◌, ◌*◌, ◌%◌, ◌^◌, min, ℤ, pos, negsuc}
use Rattle.pes_time.specs.Line.{signed}
use Rattle.break_lists.specs.declared.line.At.{At}
use Rattle.break_lists.specs.declared.line.At.TheVariants.{After, Stamp}

-- so much later, or earlier
abbrev pub moved : ℕ → ℤ → ℕ
moved time (pos n) = min (time + n) (2 ^ 64 - 1)
moved time (negsuc n) = time - (n + 1)

-- WHEN a line's time is: so many milliseconds behind the first time, or the time of the stamp that is nearest to that
abbrev pub time_of : ℕ → At → ℕ
time_of first (After span) = min (first + min (span * 90) (2 ^ 64 - 1)) (2 ^ 64 - 1)
time_of first (Stamp stamp) = moved first (signed stamp (first % 2 ^ 33))
