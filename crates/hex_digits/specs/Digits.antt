-- Bytes as upper case hexadecimal digits, two for each, the high four bits first.
use Rattle.std.specs.Prelude.{ℕ, ◌+◌, ◌-◌, ◌*◌, ◌/◌, ◌%◌, ◌&&◌, true, List, [], ◌∷◌, Option, Some, None, nat_le, if◌then◌else◌}
use Rattle.std.specs.Fmt.{digit_glyph}

-- the value of the digit, `0` to `9` or `A` to `F`
abbrev pub digit_value : ℕ → Option ℕ
digit_value c = if nat_le 48 c && nat_le c 57 then Some (c - 48) else (if nat_le 65 c && nat_le c 70 then Some (c - 55) else None)

-- the upper case digit of a value below 16, as std prints it: `0` to `9`, then `A` to `F`
abbrev pub digit_of : ℕ → ℕ
digit_of v = digit_glyph true v

-- the digits of these bytes
abbrev pub digits_of : List ℕ → List ℕ
digits_of [] = []
digits_of (b ∷ rest) = digit_of (b / 16) ∷ digit_of (b % 16) ∷ digits_of rest

-- a byte of these two halves before some bytes, where all of them are
abbrev pub byte_before : Option ℕ → Option ℕ → Option (List ℕ) → Option (List ℕ)
byte_before (Some high) (Some low) (Some bytes) = Some ((16 * high + low) ∷ bytes)
byte_before high low bytes = None

-- the bytes that are spelled, where all of the text is pairs of digits
abbrev pub spelled : List ℕ → Option (List ℕ)
spelled [] = Some []
spelled (high ∷ []) = None
spelled (high ∷ low ∷ rest) = byte_before (digit_value high) (digit_value low) (spelled rest)
