-- Bits a second, and clock references.
use Rattle.std.specs.Prelude.{ℕ, ◌*◌, ◌+◌, ◌/◌, ◌%◌, ◌^◌, List, Option, None, Some, if◌then◌else◌, ◌==◌, nat_lt, slice_index}

-- the ticks of 27 MHz of a program_clock_reference (ISO/IEC 13818-1, 2.4.3.5): 300 for each of the 33 bits of its base, and the nine of its
-- extension; six reserved bits stand between them
abbrev pub pcr_ticks : List ℕ → ℕ
pcr_ticks bs = (slice_index bs 0 * 2 ^ 25 + slice_index bs 1 * 2 ^ 17 + slice_index bs 2 * 2 ^ 9 + slice_index bs 3 * 2 + slice_index bs 4 / 128) * 300
    + (slice_index bs 4 % 2 * 256 + slice_index bs 5)

-- a u64, where it is one
abbrev pub fitting : ℕ → Option ℕ
fitting n = if nat_lt n (2 ^ 64) then Some n else None

-- bits a second of so many bytes in so many ticks of 27 MHz, rounded down
abbrev pub rate_of : ℕ → ℕ → Option ℕ
rate_of bytes ticks = if ticks == 0 then None else fitting (bytes * 8 * 27000000 / ticks)
