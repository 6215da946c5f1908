-- The splice of a PID, unit by unit: each unit of the network with its packets.
use Rattle.std.specs.Prelude.{◌≡◌, ℕ, ℤ, ◌++◌, ◌∷◌, List, [], Bool, ◌&&◌, if◌then◌else◌, Option, None, Some, filter, map, flat_map, reverse}
use Rattle.ts_packet.specs.Runs.{Seen, seen_after}
use Rattle.unit_stream.specs.Times.{begins, unit_time}
use Rattle.unit_stream.specs.Units.{Row, has_payload, rest_of_row, rows, lead_in}
use Rattle.splice_laws.specs.Splicing.{PlayedEvent, SliceUnit, Out, Network, Inserted, stream, begun, slice_at, outside, from, up_to, carried}
use Rattle.splice_laws.specs.Laws.{AreOrdered, IsConditioned}

-- a unit of the network, or of a slice
pub data Item : Type 0 where
  Own : Row → Item
  Played : SliceUnit → Item

-- what stands in the stream for it
abbrev pub out_items : List Item → List Out
out_items [] = []
out_items (Own row ∷ items) = map (λ (p : List ℕ). Network p) row.packets ++ out_items items
out_items (Played u ∷ items) = Inserted u ∷ out_items items

abbrev pub own_items : List Row → List Item
own_items us = map (λ (row : Row). Own row) us

abbrev pub slice_items : List SliceUnit → List Item
slice_items us = map (λ (u : SliceUnit). Played u) us

-- ---- placed

abbrev pub slices_before : List ℕ → ℕ → List PlayedEvent → (PlayedEvent → List SliceUnit) → Seen → List Item
slices_before switched pid xs slice s = flat_map (λ (x : PlayedEvent). slice_items (slice_at (stream switched pid) x (slice x) s.packet s.past)) xs

abbrev pub placed_units_of : List ℕ → ℕ → List PlayedEvent → (PlayedEvent → List SliceUnit) → List Seen → List Item
placed_units_of switched pid xs slice [] = []
placed_units_of switched pid xs slice (s ∷ ss) = if begins pid s.packet s.past
    then slices_before switched pid xs slice s ++ ((if outside xs (unit_time switched pid (s.packet ∷ s.past)) then Own (record { time = unit_time switched pid (s.packet ∷ s.past); packets = s.packet ∷ rest_of_row pid ss }) ∷ [] else []) ++ placed_units_of switched pid xs slice ss)
    else placed_units_of switched pid xs slice ss

-- the units outside all events, in order, with the slice of each reached event before the first unit at or past its start
abbrev pub placed_units : List ℕ → ℕ → List PlayedEvent → (PlayedEvent → List SliceUnit) → List (List ℕ) → List Item
placed_units switched pid xs slice ps = placed_units_of switched pid xs slice (filter (has_payload pid) (seen_after [] ps))

-- ---- splice

abbrev pub is_between : Option ℤ → Option ℤ → Option ℤ → Bool
is_between low high t = from low t && up_to high t

abbrev pub units_between : Option ℤ → Option ℤ → List Row → List Row
units_between low high us = filter (λ (row : Row). is_between low high row.time) us

abbrev pub unit_parts : Option ℤ → List PlayedEvent → (PlayedEvent → Bool) → (PlayedEvent → List SliceUnit) → List Row → List Item
unit_parts low [] is_reached slice us = own_items (units_between low None us)
unit_parts low (x ∷ xs) is_reached slice us =
    own_items (units_between low (Some x.start) us) ++ ((if is_reached x then slice_items (slice x) else []) ++ unit_parts (Some x.stop) xs is_reached slice us)

-- THE SPLICE OF UNITS: those without time or below the first start; the first slice, where that event is reached; those from its end to
-- below the second start; and so on
abbrev pub splice_units : List ℕ → ℕ → List PlayedEvent → (PlayedEvent → List SliceUnit) → List (List ℕ) → List Item
splice_units switched pid xs slice ps = unit_parts None xs (λ (x : PlayedEvent). begun (stream switched pid) x (reverse ps)) slice (rows switched pid ps)

-- ---- the laws

-- a PID's packets before its first unit start, and then those of these items
abbrev pub carried_items : ℕ → List (List ℕ) → List Item → List Out
carried_items pid ps items = map (λ (p : List ℕ). Network p) (lead_in pid ps) ++ out_items items

-- THE LAW OF PLACES, FOR A PID
abbrev pub CarriesPlacedUnits : Type 0
CarriesPlacedUnits = (switched : List ℕ) (pid : ℕ) (xs : List PlayedEvent) → AreOrdered xs → (slice : PlayedEvent → List SliceUnit) (ps : List (List ℕ)) →
    carried (stream switched pid) xs slice ps ≡ carried_items pid ps (placed_units switched pid xs slice ps)

-- THE LAW OF THE SPLICE, FOR A PID
abbrev pub CarriesSpliceUnits : Type 0
CarriesSpliceUnits = (switched : List ℕ) (pid : ℕ) (xs : List PlayedEvent) → AreOrdered xs → (slice : PlayedEvent → List SliceUnit) (ps : List (List ℕ)) →
    IsConditioned (stream switched pid) xs ps → carried (stream switched pid) xs slice ps ≡ carried_items pid ps (splice_units switched pid xs slice ps)
