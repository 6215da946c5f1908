-- What a gathering stands for after the packets that it has taken, newest first.
use Rattle.std.specs.Option.{option_or}
use Rattle.std.specs.Prelude.{◌≡◌, ◌==◌, ◌%◌, ℕ, ◌+◌, ◌*◌, ◌^◌, ◌≤◌, ◌<◌, ℤ, List, [], ◌∷◌, map, length, Bool, true, false, Option, None, Some, option_map, IfSome, Vec}
use Rattle.pes_time.specs.Line.{place}
use Rattle.pes_time.specs.Stamps.{is_split}
use Rattle.ts_packet.specs.Fields.{number, on, is_among}
use Rattle.ts_packet.specs.Duplicates.{last_of}
use Rattle.ts_packet.specs.declared.follower.Last.{Last}
use Rattle.unit_stream.specs.Clocks.{IsNear, Tells}
use Rattle.unit_stream.specs.Times.{begins, high, stamp, unit_time}
use Rattle.unit_stream.specs.Units.{units_back}
use Rattle.psi_tables.specs.declared.stream.Stream.{Stream}
use Rattle.program_follower.specs.declared.streams.StreamPacket.{StreamPacket}
use Rattle.program_follower.specs.declared.streams.StreamPacket.TheVariants.{Start, More, Repeat, Lead, NoPayload}
use Rattle.program_follower.specs.declared.follower.Place.{Place}
use Rattle.program_follower.specs.declared.follower.Place.TheVariants as places
use Rattle.program_follower.specs.Program.{Program, program_of, behind_head, pids_of}
use Rattle.program_follower.specs.Faults.{first_fault, pids_in}
use Rattle.program_follower.specs.Streaming.{IsStreamPacket, first_on}
use Rattle.program_follower.specs.Following.{FollowerStandsFor}
use Rattle.ad_library.specs.declared.gathered.Gathered.{Gathered}
use Rattle.ad_library.specs.declared.gathering.Gathering.{Gathering}
use Rattle.ad_library.specs.Advertisements.{kept}
use Rattle.ad_library.specs.Storing.{StoredUnit, Stores, kept_unit, on_line, last_time, longer_stored}
use Rattle.program_follower.specs.Purposes.{reading_advertisement}

-- ---- one stream

-- a unit begins; without a time it is left out
abbrev pub begun_stored : Option ℕ → Bool → List ℕ → List StoredUnit → List StoredUnit
begun_stored None access bs us = us
begun_stored (Some t) access bs us = record { time = t; payload = bs; random_access = access } ∷ us

-- the stored units, newest first, with a packet more, by what it is to its stream: without a time of its own a unit has that of the one before
abbrev pub added : StreamPacket → Option ℕ → Bool → List ℕ → List StoredUnit → List StoredUnit
added (Start begun) time access bs us = begun_stored (option_or time (last_time us)) access bs us
added More time access bs us = longer_stored us bs
added Lead time access bs us = longer_stored us bs
added Repeat time access bs us = us
added NoPayload time access bs us = us

-- the stamps of a unit that begins stand in these bytes
abbrev pub IsWholeStart : StreamPacket → List ℕ → Type 0
IsWholeStart (Start begun) bs = is_split bs ≡ false
IsWholeStart More bs = Unit {0}
IsWholeStart Repeat bs = Unit {0}
IsWholeStart Lead bs = Unit {0}
IsWholeStart NoPayload bs = Unit {0}

-- its time lies at most 900,000 ticks from the greatest
abbrev pub IsNearStart : StreamPacket → Type 0
IsNearStart (Start begun) = IsNear begun
IsNearStart More = Unit {0}
IsNearStart Repeat = Unit {0}
IsNearStart Lead = Unit {0}
IsNearStart NoPayload = Unit {0}

-- the counter of a packet is one past the last one, where there is one
abbrev pub is_next : Option ℕ → ℕ → Bool
is_next None n = true
is_next (Some last) n = n == (last + 1) % 16

-- a duplicate is no packet of its own
abbrev pub is_repeat : StreamPacket → Bool
is_repeat (Start begun) = false
is_repeat More = false
is_repeat Repeat = true
is_repeat Lead = false
is_repeat NoPayload = false

-- this packet of the stream, behind this past; a unit that begins has this time of its own
pub record IsGathered (part : StreamPacket) (time : Option ℕ) (pids : List ℕ) (pid : ℕ) (p : List ℕ) (past : List (List ℕ)) : Type 0 where
  pub is_on : on pid p ≡ true
  pub is : IsStreamPacket part pids pid p past
  pub own : begins pid p past ≡ true → option_map on_line time ≡ option_map (place (high pids past)) (stamp p)

-- the stored units are the kept ones of the stream, by the packets behind the head, and the newest has the time of its unit that has begun last
pub record KeepsUnits (us : List StoredUnit) (pids : List ℕ) (pid : ℕ) (past : List (List ℕ)) : Type 0 where
  pub kept_are : map kept_unit us ≡ kept (units_back pids pid past)
  pub newest : option_map on_line (last_time us) ≡ unit_time pids pid past

-- the continuity_counter of the stream's last payload packet
abbrev pub last_counter : ℕ → List (List ℕ) → Option ℕ
last_counter pid past = option_map (λ (l : Last). number l.packet) (last_of pid past)

-- THE STREAM, by the packets behind the head
pub record GathersStream {A : Type 0} (g : Gathered A) (pids : List ℕ) (pid : ℕ) (past : List (List ℕ)) : Type 0 where
  pub units : List StoredUnit
  pub stored : Stores g.store units
  pub keeps : KeepsUnits units pids pid past
  pub counter : g.counter ≡ last_counter pid past

-- ---- all streams

-- each of the streams, in their order
abbrev pub AllGathered : {A : Type 0} → List (Gathered A) → List Stream → List ℕ → List (List ℕ) → Type 0
AllGathered [] [] pids past = Unit {0}
AllGathered (g ∷ gs) (s ∷ ss) pids past = (g.kind ≡ s.kind) × GathersStream g pids s.pid past × AllGathered gs ss pids past
AllGathered [] (s ∷ ss) pids past = ⊥
AllGathered (g ∷ gs) [] pids past = ⊥

-- the streams of the program, from the end of the head on
abbrev pub StreamsGathered : {A : Type 0} → Option (List (Gathered A)) → Option Program → List (List ℕ) → Type 0
StreamsGathered None None past = Unit {0}
StreamsGathered (Some gs) (Some r) past = AllGathered gs r.streams (pids_in r.streams) past
StreamsGathered None (Some r) past = ⊥
StreamsGathered (Some gs) None past = ⊥

-- ---- the greatest time

-- so far it may lie from 2^48 after so many packets: the first stamp, and 900,000 ticks for each packet
pub record IsHeld (count t : ℕ) : Type 0 where
  pub low : 2 ^ 48 ≤ t + 900000 * count
  pub high : t < 2 ^ 48 + 2 ^ 33 + 900000 * count

-- it may go 900,000 ticks either way
pub record HasWay (t : ℕ) : Type 0 where
  pub low : 900000 ≤ t
  pub high : t + 900000 < 2 ^ 63

-- a unit begins so
abbrev pub IsTold : StreamPacket → Option ℤ → Option ℕ → Type 0
IsTold (Start begun) latest stamp = Tells begun latest stamp
IsTold More latest stamp = ⊥
IsTold Repeat latest stamp = ⊥
IsTold Lead latest stamp = ⊥
IsTold NoPayload latest stamp = ⊥

abbrev pub IsUnitStart : StreamPacket → Bool
IsUnitStart (Start begun) = true
IsUnitStart More = false
IsUnitStart Repeat = false
IsUnitStart Lead = false
IsUnitStart NoPayload = false

-- THE STREAMS, with the greatest time, by the packets behind the head
pub record StreamsStand {A Z : Type 0} (streams : Option (Vec (Gathered A) Z)) (high' : Option ℕ) (ss : List Stream) (past : List (List ℕ)) : Type 0 where
  pub streams_are : StreamsGathered (option_map (λ v. v.items) streams) (Some (record { streams = ss; pcr_pid = 0 })) past
  pub high_is : option_map on_line high' ≡ high (pids_in ss) past

-- no PID stands twice
abbrev pub AreDistinct : List ℕ → Type 0
AreDistinct [] = Unit {0}
AreDistinct (pid ∷ pids) = (is_among pid pids ≡ false) × AreDistinct pids

-- the packet is of this one of them
pub record IsOfOne {A Z : Type 0} (streams : Option (Vec (Gathered A) Z)) (high' : Option ℕ) (part : StreamPacket) (index : ℕ) (one : ℕ × ℕ) (ss : List Stream) (p : List ℕ) (past : List (List ℕ)) : Type 0 where
  pub stand : StreamsStand streams high' ss past
  pub apart : AreDistinct (pids_in ss)
  pub place_is : one.0 ≡ index
  pub first_is : first_on (pids_in ss) p ≡ Some one
  pub is : IsStreamPacket part (pids_in ss) one.1 p past

-- of which stream a packet is, where it is of one
abbrev pub stream_in : Place → Option (ℕ × StreamPacket)
stream_in places.Marked = None
stream_in places.Cue = None
stream_in places.Map = None
stream_in (places.Stream index part) = Some (index, part)
stream_in places.Other = None

-- THE GATHERING has taken these packets, and the network has no fault in them
pub record Gathers {A : Type 0} (g : Gathering A) (past : List (List ℕ)) : Type 0 where
  pub follower : FollowerStandsFor g.follower reading_advertisement past
  pub sound : first_fault reading_advertisement past ≡ None
  pub packets : g.packets ≡ length past
  pub few : 188 * g.packets ≤ 67108864
  pub streams : StreamsGathered (option_map (λ v. v.items) g.streams) (program_of None past) (behind_head None past)
  pub high_is : option_map on_line g.high ≡ high (pids_of (program_of None past)) (behind_head None past)
  pub held : IfSome g.high (IsHeld g.packets)
