-- The units of a run (ISO/IEC 13818-1, 2.4.3.6), as filters and maps over the packets with their pasts. The run begins after the head.
use Rattle.std.specs.Prelude.{◌≡◌, ℕ, ℤ, ◌++◌, ◌∷◌, List, [], Bool, if◌then◌else◌, Option, filter, map, reverse}
use Rattle.ts_packet.specs.Fields.{payload_on, unit_start, bytes, random_access}
use Rattle.ts_packet.specs.Duplicates.{original}
use Rattle.ts_packet.specs.Runs.{Seen, seen_after}
use Rattle.unit_stream.specs.Times.{begins, unit_time}

-- a unit: its time, its bytes, and the random_access_indicator of its first packet
pub record TimedUnit : Type 0 where
  pub time : Option ℤ
  pub payload : List ℕ
  pub random_access : Bool

-- the payloads up to the next start
abbrev pub rest_of_unit : List Seen → List ℕ
rest_of_unit [] = []
rest_of_unit (s ∷ ss) = if unit_start s.packet then [] else bytes s.packet ++ rest_of_unit ss

-- originals cut at the start bits
abbrev pub units_of : List ℕ → ℕ → List Seen → List TimedUnit
units_of switched pid [] = []
units_of switched pid (s ∷ ss) = if unit_start s.packet
    then record { time = unit_time switched pid (s.packet ∷ s.past); payload = bytes s.packet ++ rest_of_unit ss; random_access = random_access s.packet } ∷ units_of switched pid ss
    else units_of switched pid ss

abbrev pub is_original : ℕ → Seen → Bool
is_original pid s = original pid s.packet s.past

-- the units of a PID: its payload packets without duplicates, cut at the start bits; packets before the first start belong to none
abbrev pub units : List ℕ → ℕ → List (List ℕ) → List TimedUnit
units switched pid ps = units_of switched pid (filter (is_original pid) (seen_after [] ps))

-- the bytes of units
abbrev pub payloads : List TimedUnit → List (List ℕ)
payloads us = map (λ (u : TimedUnit). u.payload) us

-- ---- the same, one packet at a time, newest first

abbrev pub longer : List TimedUnit → List ℕ → List TimedUnit
longer [] bs = []
longer (u ∷ us) bs = record { time = u.time; payload = u.payload ++ bs; random_access = u.random_access } ∷ us

abbrev pub units_back : List ℕ → ℕ → List (List ℕ) → List TimedUnit
units_back switched pid [] = []
units_back switched pid (p ∷ past) =
    if begins pid p past then record { time = unit_time switched pid (p ∷ past); payload = bytes p; random_access = random_access p } ∷ units_back switched pid past
    else (if original pid p past then longer (units_back switched pid past) (bytes p) else units_back switched pid past)

-- a run's units after one more packet
abbrev pub with_last_longer : List TimedUnit → List ℕ → List TimedUnit
with_last_longer us bs = reverse (longer (reverse us) bs)

abbrev pub units_with : List ℕ → ℕ → List ℕ → List (List ℕ) → List TimedUnit → List TimedUnit
units_with switched pid p past us =
    if begins pid p past then us ++ record { time = unit_time switched pid (p ∷ past); payload = bytes p; random_access = random_access p } ∷ []
    else (if original pid p past then with_last_longer us (bytes p) else us)

-- THE LAW OF GROWTH: one packet more begins a unit, extends the last one, or leaves the units as they are
abbrev pub UnitsGrow : Type 0
UnitsGrow = (switched : List ℕ) (pid : ℕ) (ps : List (List ℕ)) (p : List ℕ) →
    units switched pid (ps ++ p ∷ []) ≡ units_with switched pid p (reverse ps) (units switched pid ps)

-- ---- rows: units with their packets, duplicates too

pub record Row : Type 0 where
  pub time : Option ℤ
  pub packets : List (List ℕ)

abbrev pub has_payload : ℕ → Seen → Bool
has_payload pid s = payload_on pid s.packet

-- the payload packets up to the next unit start
abbrev pub rest_of_row : ℕ → List Seen → List (List ℕ)
rest_of_row pid [] = []
rest_of_row pid (s ∷ ss) = if begins pid s.packet s.past then [] else s.packet ∷ rest_of_row pid ss

abbrev pub rows_of : List ℕ → ℕ → List Seen → List Row
rows_of switched pid [] = []
rows_of switched pid (s ∷ ss) = if begins pid s.packet s.past
    then record { time = unit_time switched pid (s.packet ∷ s.past); packets = s.packet ∷ rest_of_row pid ss } ∷ rows_of switched pid ss
    else rows_of switched pid ss

-- the payload packets of a PID: those before the first unit start, and the rows
abbrev pub lead_in : ℕ → List (List ℕ) → List (List ℕ)
lead_in pid ps = rest_of_row pid (filter (has_payload pid) (seen_after [] ps))

abbrev pub rows : List ℕ → ℕ → List (List ℕ) → List Row
rows switched pid ps = rows_of switched pid (filter (has_payload pid) (seen_after [] ps))
