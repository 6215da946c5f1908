-- What holds of digits as they are written and as they are read.
use Rattle.std.specs.Prelude.{◌≡◌, ℕ, ◌<◌, List, Some, All}
use Rattle.hex_digits.specs.Digits.{digits_of, spelled}

-- what is written is read back
abbrev pub DigitsAreReadBack : Type 0
DigitsAreReadBack = (bytes : List ℕ) → All (λ b. b < 256) bytes → spelled (digits_of bytes) ≡ Some bytes

-- what is read was written so, of bytes
abbrev pub SpelledByTheDigits : Type 0
SpelledByTheDigits = (text bytes : List ℕ) → spelled text ≡ Some bytes → (text ≡ digits_of bytes) × All (λ b. b < 256) bytes
