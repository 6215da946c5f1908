-- What the advertisements of a library say of the events of a network.
use Rattle.std.specs.Prelude.{ℕ, ◌==◌, List, [], ◌∷◌, ◌++◌, map, if◌then◌else◌, ℤ, ◌+ℤ◌, Option, None, Some}
use Rattle.psi_tables.specs.declared.stream.Stream.{Stream}
use Rattle.psi_tables.specs.declared.config.Config.{Config}
use Rattle.unit_packing.specs.Packing.{unit_packets}
use Rattle.ad_library.specs.Advertisements.{AdvertUnit, AdvertStream, Advertisement, stream_at, count_of_kind, played_bytes}
use Rattle.ad_library.specs.Library.{fits_held}
use Rattle.splice_laws.specs.Splicing.{SliceUnit}
use Rattle.output_laws.specs.Output.{Packing}
use Rattle.splice_plans.specs.Playing.{Adverts}
use Rattle.splice_plans.specs.Switching.{Setting}
use Rattle.splice_plans.specs.Histories.{AreSteady}

-- a unit as it is played from this time on
abbrev pub slice_unit : ℤ → Advertisement → AdvertUnit → SliceUnit
slice_unit start ad u = record { time = start +ℤ u.offset; payload = played_bytes start ad u; random_access = u.random_access }

abbrev pub slice_units : ℤ → Advertisement → Option AdvertStream → List SliceUnit
slice_units start ad None = []
slice_units start ad (Some s) = map (slice_unit start ad) s.units

-- the type of the stream of this PID, and how many of that type come before it
abbrev pub kind_and_place : ℕ → List Stream → List Stream → Option (ℕ × ℕ)
kind_and_place pid before [] = None
kind_and_place pid before (s ∷ ss) = if s.pid == pid then Some (s.kind, count_of_kind s.kind before) else kind_and_place pid (before ++ s ∷ []) ss

abbrev pub units_at : ℤ → Option Advertisement → Option (ℕ × ℕ) → List SliceUnit
units_at start None which = []
units_at start (Some ad) None = []
units_at start (Some ad) (Some which) = slice_units start ad (stream_at ad which.0 which.1)

-- what is filed under each number, for these streams: an event's program is the number of its advertisement
abbrev pub adverts_of : (ℕ → Option Advertisement) → List Stream → Adverts
adverts_of filed streams = record {
  fits = λ e. fits_held (filed e.program) streams e.asked;
  units = λ e pid. units_at e.start (filed e.program) (kind_and_place pid [] streams);
}

-- as many bytes of a unit as fit in each packet
abbrev pub packed_units : Packing
packed_units pid u n = unit_packets pid u.random_access n u.payload

-- what a switch is told by its configuration and its library
abbrev pub setting_of : Config → (ℕ → Option Advertisement) → Setting
setting_of c filed = record { program = c.program; cue_pid = c.cue_pid; adverts = adverts_of filed; packed = packed_units }

-- THE LAW OF LIBRARIES: what they say of an event does not change with what becomes of it
abbrev pub LibrariesAreSteady : Type 0
LibrariesAreSteady = (filed : ℕ → Option Advertisement) (streams : List Stream) → AreSteady (adverts_of filed streams)
