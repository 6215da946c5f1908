-- Fields at the front of some bytes, each with the bytes behind it. None is where the bytes end before the field does.
use Rattle.std.specs.Prelude.{ℕ, ◌%◌, ◌^◌, Bool, List, [], ◌∷◌, length, drop, slice_index, Option, Some, None, nat_lt, if◌then◌else◌}
use Rattle.std.specs.Borrow.{Bor}
use Rattle.wire_fields.specs.Numbers.{number_of}
use Rattle.scte35_codec.specs.Bits.{bit_of}

infixl 10 ◌>>=◌
abbrev pub ◌>>=◌ : {A B : Type 0} → Option A → (A → Option B) → Option B
(Some x) >>= f = f x
None >>= f = None

abbrev pub byte_at : List ℕ → Option (ℕ × List ℕ)
byte_at [] = None
byte_at (b ∷ rest) = Some (b, rest)

-- a number of n bytes
unfoldable pub number_at : ℕ → List ℕ → Option (ℕ × List ℕ)
number_at n bytes = if nat_lt (length bytes) n then None else Some (number_of n bytes, drop n bytes)

-- a flag, six reserved bits and 33 bits of ticks: splice_time() with a time, and break_duration()
unfoldable pub ticks_at : List ℕ → Option ((Bool × ℕ) × List ℕ)
ticks_at bytes = if nat_lt (length bytes) 5 then None else Some ((bit_of 7 (slice_index bytes 0), number_of 5 bytes % 2 ^ 33), drop 5 bytes)

-- what the code takes from the front
abbrev pub front : {A : Type 0} → A × Bor (List ℕ) → A × List ℕ
front x = (x.0, x.1.now)
