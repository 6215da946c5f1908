-- Units of an advertisement on their way out on a PID.
use Rattle.std.specs.Prelude.{ℕ, ◌+◌, ◌-◌, ◌%◌, ◌^◌, nat_le, ℤ, pos, List, [], ◌∷◌, ◌++◌, Bool, true, false, if◌then◌else◌, Option, None, Some}
use lib.Signed.{le_z}
use Rattle.pes_time.specs.Line.{ring_of}
use Rattle.pes_time.specs.Stamps.{restamped}
use Rattle.ts_packet.specs.Numbering.{Step}
use Rattle.unit_stream.specs.UnitPackets.{put_in}
use Rattle.unit_packing.specs.Packing.{unit_packets}
use Rattle.unit_packing.specs.Putting.{next_number}
use Rattle.ad_library.specs.Advertisements.{AdvertUnit}
use Rattle.ad_library.specs.declared.slice.Slice.{Slice}
use Rattle.ad_library.specs.Slices.{left}
use Rattle.ad_library.specs.Storing.{on_line}

-- an offset is at most this, where there is a limit
abbrev pub is_offset_due : Option ℕ → ℕ → Bool
is_offset_due None offset = true
is_offset_due (Some reached) offset = nat_le offset reached

abbrev pub is_due : Option ℕ → AdvertUnit → Bool
is_due None u = true
is_due (Some reached) u = le_z u.offset (pos reached)

-- how far the stamps move, on the ring: from the least time of an advertisement to this time
abbrev pub delta_at : ℕ → ℤ → ℕ
delta_at start least = (start + (2 ^ 33 - ring_of least % 2 ^ 33)) % 2 ^ 33

-- from a least time as it is held
abbrev pub delta_of : ℕ → ℕ → ℕ
delta_of start held = delta_at start (on_line held)

-- the longest front of units that are due
abbrev pub due_units : Option ℕ → List AdvertUnit → List AdvertUnit
due_units reached [] = []
due_units reached (u ∷ us) = if is_due reached u then u ∷ due_units reached us else []

-- the first of these is due
abbrev pub is_any_due : Option ℕ → List AdvertUnit → Bool
is_any_due reached [] = false
is_any_due reached (u ∷ us) = is_due reached u

-- the packets of a unit with its stamps moved, behind these steps of the PID's counter
abbrev pub moved_packets : ℕ → ℕ → List Step → AdvertUnit → List (List ℕ)
moved_packets pid delta steps u = unit_packets pid u.random_access (next_number steps) (restamped u.payload delta)

-- and of units, one after another
abbrev pub slice_packets : ℕ → ℕ → List Step → List AdvertUnit → List (List ℕ)
slice_packets pid delta steps [] = []
slice_packets pid delta steps (u ∷ us) = moved_packets pid delta steps u ++ slice_packets pid delta (put_in (moved_packets pid delta steps u) steps) us

-- of what is left of a slice that is played from this time on, the packets of the units that are due
abbrev pub due_packets : ℕ → ℕ → Option ℕ → List Step → Slice → List (List ℕ)
due_packets pid start reached steps slice = slice_packets pid (delta_of start slice.zero) steps (due_units reached (left slice))
