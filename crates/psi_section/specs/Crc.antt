-- CRC_32 (ISO/IEC 13818-1, Annex A): the remainder of a polynomial division over bits, most significant bit first. A polynomial
-- over bits is the number whose bits are its coefficients, and its sum and its difference are the exclusive or.
use Rattle.std.specs.Prelude.{ℕ, ◌-◌, ◌*◌, ◌/◌, ◌%◌, ◌^◌, List, [], ◌∷◌, ◌++◌, ◌==◌, if◌then◌else◌, bit_xor}
use Rattle.byteorder.specs.Endian.{big_bytes}

-- the generator: x^32 + x^26 + x^23 + x^22 + x^16 + x^12 + x^11 + x^10 + x^8 + x^7 + x^5 + x^4 + x^2 + x + 1
abbrev pub generator : ℕ
generator = 0x104C11DB7

-- a polynomial of degree 32 at most, less the generator where x^32 stands in it
abbrev pub reduced : ℕ → ℕ
reduced v = if v / 2 ^ 32 == 1 then bit_xor v generator else v

-- The remainder with one bit more behind the message: it is shifted in by a multiplication by x, and the bit is added at x^32, since
-- the message is divided with 32 zeros behind it.
abbrev pub with_bit : ℕ → ℕ → ℕ
with_bit r bit = reduced (bit_xor (2 * r) (bit * 2 ^ 32))

-- the bits of a byte, most significant first
abbrev pub bits_of : ℕ → List ℕ
bits_of b = b / 128 % 2 ∷ b / 64 % 2 ∷ b / 32 % 2 ∷ b / 16 % 2 ∷ b / 8 % 2 ∷ b / 4 % 2 ∷ b / 2 % 2 ∷ b % 2 ∷ []

-- the remainder with these bits behind
abbrev pub with_bits : ℕ → List ℕ → ℕ
with_bits r [] = r
with_bits r (bit ∷ bits) = with_bits (with_bit r bit) bits

-- the remainder with these bytes behind
abbrev pub remainder_after : ℕ → List ℕ → ℕ
remainder_after r [] = r
remainder_after r (b ∷ bs) = remainder_after (with_bits r (bits_of b)) bs

-- the remainder of the bits' division, from this start value
unfoldable pub crc_remainder : ℕ → List ℕ → ℕ
crc_remainder start bs = remainder_after start bs

-- CRC_32 of bytes: from the start value all ones
unfoldable pub crc : List ℕ → ℕ
crc bs = crc_remainder (2 ^ 32 - 1) bs

-- bytes with their CRC_32 behind them, most significant byte first
abbrev pub with_crc : List ℕ → List ℕ
with_crc bs = bs ++ big_bytes 4 (crc bs)
