-- Bits: that of the highest worth comes first (ANSI/SCTE 35, the mnemonic bslbf).
use Rattle.std.specs.Prelude.{ℕ, ◌/◌, ◌%◌, ◌^◌, Bool, ◌==◌}

-- a bit of a number; bit 7 of a byte comes first
abbrev pub bit_of : ℕ → ℕ → Bool
bit_of bit n = n / 2 ^ bit % 2 == 1
