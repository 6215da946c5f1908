-- Numbers in bytes: the byte of the highest worth comes first (ISO/IEC 13818-1, ANSI/SCTE 35: the mnemonic uimsbf; ANSI/SCTE 104).
use Rattle.std.specs.Prelude.{ℕ, ◌<◌, List, drop, slice_index}
use Rattle.byteorder.specs.Endian.{big_number}

-- the number that the first n bytes make
unfoldable pub number_of : ℕ → List ℕ → ℕ
number_of n bytes = big_number n bytes

-- the number that the two bytes at a place make
unfoldable pub number16_at : List ℕ → ℕ → ℕ
number16_at bytes place = big_number 2 (drop place bytes)

-- the number that the four bytes at a place make
unfoldable pub number32_at : List ℕ → ℕ → ℕ
number32_at bytes place = big_number 4 (drop place bytes)

-- each of them is a byte
abbrev pub AreBytes : List ℕ → Type 0
AreBytes bytes = (place : ℕ) → slice_index bytes place < 256
