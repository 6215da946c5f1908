-- ADVERTISEMENTS: what is kept of the first program of a stream. Its switched streams with their units, each by how far it lies past the
-- least time of all (ISO/IEC 13818-1, 2.4.3.6 and 2.4.3.7: a unit is one PES packet, its time is its PTS, in ticks of 90 kHz). Times are
-- integers, so that an advertisement may wrap the 33-bit clock, and its least time may be that of a later unit.
use Rattle.std.specs.Prelude.{ℕ, ◌+◌, ℤ, pos, ◌+ℤ◌, ◌-ℤ◌, List, [], ◌∷◌, ◌++◌, map, filter, reverse, slice_get, Bool, true, false, ◌&&◌, ◌==◌, if◌then◌else◌, Option, None, Some, option_map}
use Rattle.std.specs.Int.{int_min}
use Rattle.std.specs.List.{list_any}
use lib.Signed.{le_z, lt_z}
use Rattle.pes_time.specs.Line.{ring_of}
use Rattle.pes_time.specs.Stamps.{restamped}
use Rattle.psi_tables.specs.declared.stream.Stream.{Stream}
use Rattle.unit_stream.specs.Units.{TimedUnit, units}
use Rattle.program_follower.specs.Program.{program_of, behind_head, pids_of}
use Rattle.program_follower.specs.Following.{streams_of_program}

-- ---- the units that are kept, on the line

-- a unit with its time, its bytes, and the random_access_indicator of its first packet
pub record KeptUnit : Type 0 where
  pub time : ℤ
  pub payload : List ℕ
  pub random_access : Bool

-- a unit before its stream's first timed one has no time, and is left out
abbrev pub with_unit : Option ℤ → TimedUnit → List KeptUnit → List KeptUnit
with_unit None u us = us
with_unit (Some t) u us = record { time = t; payload = u.payload; random_access = u.random_access } ∷ us

abbrev pub kept : List TimedUnit → List KeptUnit
kept [] = []
kept (u ∷ us) = with_unit u.time u (kept us)

pub record KeptStream : Type 0 where
  pub kind : ℕ
  pub units : List KeptUnit

-- the switched streams of some packets, in the order of the PMT; none before the head's end
abbrev pub kept_stream : List ℕ → List (List ℕ) → Stream → KeptStream
kept_stream pids behind s = record { kind = s.kind; units = kept (units pids s.pid behind) }

abbrev pub kept_streams : List (List ℕ) → List KeptStream
kept_streams ps =
    let program = program_of None (reverse ps) in
    map (kept_stream (pids_of program) (reverse (behind_head None (reverse ps)))) (streams_of_program program)

-- ---- the least time

abbrev pub lower : Option ℤ → ℤ → Option ℤ
lower None t = Some t
lower (Some least) t = Some (int_min least t)

abbrev pub lower_of : Option ℤ → Option ℤ → Option ℤ
lower_of a None = a
lower_of a (Some t) = lower a t

abbrev pub least_of : List KeptUnit → Option ℤ
least_of [] = None
least_of (u ∷ us) = lower (least_of us) u.time

-- of all streams
abbrev pub zero_of : List KeptStream → Option ℤ
zero_of [] = None
zero_of (s ∷ ss) = lower_of (zero_of ss) (least_of s.units)

-- ---- the advertisement

-- a unit and how many ticks it lies past the zero
pub record AdvertUnit : Type 0 where
  pub offset : ℤ
  pub payload : List ℕ
  pub random_access : Bool

pub record AdvertStream : Type 0 where
  pub kind : ℕ
  pub units : List AdvertUnit

pub record Advertisement : Type 0 where
  pub zero : ℤ
  pub streams : List AdvertStream

abbrev pub unit_from : ℤ → KeptUnit → AdvertUnit
unit_from zero u = record { offset = u.time -ℤ zero; payload = u.payload; random_access = u.random_access }

abbrev pub stream_from : ℤ → KeptStream → AdvertStream
stream_from zero s = record { kind = s.kind; units = map (unit_from zero) s.units }

abbrev pub advertisement_from : List KeptStream → Option ℤ → Option Advertisement
advertisement_from ss None = None
advertisement_from ss (Some zero) = Some (record { zero = zero; streams = map (stream_from zero) ss })

-- THE ADVERTISEMENT of a stream's packets; none where no unit has a time
abbrev pub advertisement : List (List ℕ) → Option Advertisement
advertisement ps = advertisement_from (kept_streams ps) (zero_of (kept_streams ps))

-- ---- what is played of it

-- its stream of this stream_type and place among those of the type, counted from 0
abbrev pub is_of_kind : ℕ → AdvertStream → Bool
is_of_kind kind s = s.kind == kind

abbrev pub stream_at : Advertisement → ℕ → ℕ → Option AdvertStream
stream_at ad kind k = slice_get (filter (is_of_kind kind) ad.streams) k

-- THE SLICE for a length: the units of lower offset, in order
abbrev pub is_below : ℕ → AdvertUnit → Bool
is_below length u = lt_z u.offset (pos length)

abbrev pub slice_of : ℕ → List AdvertUnit → List AdvertUnit
slice_of length us = filter (is_below length) us

abbrev pub slice : Advertisement → ℕ → ℕ → ℕ → Option (List AdvertUnit)
slice ad kind k length = option_map (λ (s : AdvertStream). slice_of length s.units) (stream_at ad kind k)

-- a unit's bytes as they go out where the slice is played from this time on: its stamps moved by the start minus the zero, modulo 2^33
abbrev pub played_bytes : ℤ → Advertisement → AdvertUnit → List ℕ
played_bytes start ad u = restamped u.payload (ring_of (start -ℤ ad.zero))

-- ---- whether it fits

-- a unit begins at most 45,000 ticks (half a second) before the end
abbrev pub reaches_end : ℕ → AdvertUnit → Bool
reaches_end length u = le_z (pos length) (u.offset +ℤ pos 45000)

abbrev pub reaches : ℕ → Option AdvertStream → Bool
reaches length None = false
reaches length (Some s) = list_any (reaches_end length) s.units

-- how many streams of this type there are
abbrev pub one_of_kind : ℕ → ℕ → ℕ
one_of_kind a b = if a == b then 1 else 0

abbrev pub count_of_kind : ℕ → List Stream → ℕ
count_of_kind kind [] = 0
count_of_kind kind (s ∷ ss) = one_of_kind s.kind kind + count_of_kind kind ss

-- each of these streams, behind those before it, has its stream in the advertisement, which reaches the end
abbrev pub fits_behind : Advertisement → ℕ → List Stream → List Stream → Bool
fits_behind ad length before [] = true
fits_behind ad length before (s ∷ ss) = reaches length (stream_at ad s.kind (count_of_kind s.kind before)) && fits_behind ad length (before ++ s ∷ []) ss

-- THE RULE OF FITTING: the k-th of these streams of each type has a k-th stream of that type
abbrev pub fits : Advertisement → List Stream → ℕ → Bool
fits ad streams length = fits_behind ad length [] streams
