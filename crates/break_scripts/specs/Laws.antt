-- What holds of the lines of requests.
use Rattle.std.specs.Prelude.{◌≡◌, ℕ, ◌+◌, ◌%◌, ◌^◌, ◌<◌, ◌≤◌, ◌==◌, if◌then◌else◌, List, [], ◌∷◌, ◌++◌, Some, All}
use Rattle.std.specs.Fmt.{decimal}
use Rattle.decimal_numbers.specs.Numbers.{number_below}
use Rattle.hex_digits.specs.Digits.{digits_of, spelled}
use Rattle.break_scripts.specs.declared.request.PlacedRequest.{PlacedRequest}
use Rattle.break_scripts.specs.Scripts.{PlannedLine, message, lines_of}

-- packets do not fall, from this one on
abbrev pub AreInOrder : ℕ → List PlacedRequest → Type 0
AreInOrder least [] = Unit {0}
AreInOrder least (r ∷ rs) = (least ≤ r.packet) × AreInOrder r.packet rs

-- the numbers of lines rise, from this one on
abbrev pub AreRising : ℕ → List PlannedLine → Type 0
AreRising least [] = Unit {0}
AreRising least (l ∷ ls) = (least ≤ l.packet) × AreRising (l.packet + 1) ls

-- the messages of the requests before this packet, in their order
abbrev pub messages_before : ℕ → ℕ → ℕ → List PlacedRequest → List ℕ
messages_before packet index number [] = []
messages_before packet index number (r ∷ rs) = (if r.packet == packet then message number index r.request else [])
    ++ messages_before packet index ((number + 1) % 256) rs

-- the bytes of the lines of this packet
abbrev pub bytes_before : ℕ → List PlannedLine → List ℕ
bytes_before packet [] = []
bytes_before packet (l ∷ ls) = (if l.packet == packet then l.bytes else []) ++ bytes_before packet ls

-- A packet is counted in 64 bits, and a byte in 8.
abbrev pub LinesAreReadBack : Type 0
LinesAreReadBack = (packet : ℕ) (bytes : List ℕ) → packet < 2 ^ 64 → All (λ b. b < 256) bytes
    → (number_below (decimal packet) (2 ^ 64) ≡ Some packet) × (spelled (digits_of bytes) ≡ Some bytes)

abbrev pub LinesRise : Type 0
LinesRise = (index number least : ℕ) (rs : List PlacedRequest) → AreInOrder least rs → AreRising least (lines_of index number rs)

abbrev pub MessagesStandBeforeTheirPackets : Type 0
MessagesStandBeforeTheirPackets = (index number packet : ℕ) (rs : List PlacedRequest)
    → bytes_before packet (lines_of index number rs) ≡ messages_before packet index number rs
