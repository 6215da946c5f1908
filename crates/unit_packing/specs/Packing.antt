-- The packets in which a unit goes out (ISO/IEC 13818-1, 2.4.3.2 to 2.4.3.5): no priority, not scrambled, each with as many bytes of the
-- unit as fit, the first alone with payload_unit_start_indicator. A packet that the bytes don't fill has an adaptation field before
-- them, and so has the first where random access is marked.
use Rattle.std.specs.Prelude.{ℕ, zero, suc, ◌+◌, ◌-◌, ◌/◌, ◌%◌, ◌==◌, List, [], ◌∷◌, ◌++◌, Bool, true, false, if◌then◌else◌, length, take, drop, replicate}
use Rattle.ts_packet.specs.Filling.{packets_for}

-- how many bytes of the unit fit: random access takes adaptation_field_length and a byte of flags
abbrev pub room : Bool → ℕ
room access = if access then 182 else 184

-- what adaptation_field_length counts: nothing, or the flags, of which random_access_indicator may be set, and stuffing
abbrev pub field : Bool → ℕ → List ℕ
field access zero = []
field access (suc stuffing) = (if access then 64 else 0) ∷ replicate stuffing 255

-- the fourth byte, and the adaptation field before so many bytes of the unit: adaptation_field_control is 01 with none, or 11
abbrev pub behind_pid : ℕ → Bool → ℕ → List ℕ
behind_pid n access size = if size == 184 then (16 + n) ∷ [] else ((48 + n) ∷ (183 - size) ∷ field access (183 - size))

-- what stands before so many bytes of the unit
abbrev pub header_front : ℕ → ℕ → Bool → Bool → ℕ → List ℕ
header_front pid n start access size = 71 ∷ (pid / 256 + (if start then 64 else 0)) ∷ pid % 256 ∷ behind_pid n access size

-- a packet of a unit with this counter and these bytes of it
unfoldable pub unit_packet : ℕ → ℕ → Bool → Bool → List ℕ → List ℕ
unit_packet pid n start access part = header_front pid n start access (length part) ++ part

-- so many packets in which a unit goes on with these bytes
abbrev pub later_unit_packets : ℕ → ℕ → ℕ → List ℕ → List (List ℕ)
later_unit_packets zero pid n bs = []
later_unit_packets (suc count) pid n bs = unit_packet pid n false false (take 184 bs) ∷ later_unit_packets count pid ((n + 1) % 16) (drop 184 bs)

-- the packets behind the first
abbrev pub rest_unit_packets : ℕ → ℕ → List ℕ → List (List ℕ)
rest_unit_packets pid n bs = later_unit_packets (packets_for (length bs)) pid n bs

-- THE PACKETS OF A UNIT, where the first has this counter
abbrev pub unit_packets : ℕ → Bool → ℕ → List ℕ → List (List ℕ)
unit_packets pid access n bs = unit_packet pid n true access (take (room access) bs) ∷ rest_unit_packets pid ((n + 1) % 16) (drop (room access) bs)
