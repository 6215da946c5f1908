-- What a follower stands for after the packets that it has seen, newest first, and what a packet is to it.
use Rattle.std.specs.Prelude.{◌≡◌, ℕ, ℤ, List, [], ◌∷◌, Bool, true, false, Option, Some, None, is_some, ◌||◌, ◌==◌}
use Rattle.ts_packet.specs.Fields.{in_error, on, is_among}
use Rattle.unit_stream.specs.Times.{high, begins_one}
use Rattle.psi_tables.specs.declared.network.NetworkFault.{NetworkFault}
use Rattle.psi_tables.specs.declared.stream.Stream.{Stream}
use Rattle.program_follower.specs.declared.purpose.Purpose.{Purpose}
use Rattle.program_follower.specs.declared.purpose.Listed.{Listed}
use Rattle.program_follower.specs.declared.table_reader.OnTables.{OnTables}
use Rattle.program_follower.specs.declared.table_reader.OnTables.TheVariants as on_tables
use Rattle.program_follower.specs.declared.streams.Streams.{Streams}
use Rattle.program_follower.specs.declared.starts.Starts.{Starts}
use Rattle.program_follower.specs.declared.streams.StreamPacket.{StreamPacket}
use Rattle.program_follower.specs.declared.starts.StartPacket.{StartPacket}
use Rattle.program_follower.specs.declared.starts.StreamPart.{StreamPart}
use Rattle.program_follower.specs.declared.follower.ProgramFollower.{ProgramFollower}
use Rattle.program_follower.specs.declared.start_follower.StartFollower.{StartFollower}
use Rattle.program_follower.specs.declared.follower.FollowFault.{FollowFault}
use Rattle.program_follower.specs.declared.follower.FollowFault.TheVariants.{Network, Failed}
use Rattle.program_follower.specs.declared.follower.Place.{Place}
use Rattle.program_follower.specs.declared.follower.Place.TheVariants as places
use Rattle.program_follower.specs.declared.start_follower.StartPlace.{StartPlace}
use Rattle.program_follower.specs.declared.start_follower.StartPlace.TheVariants as start_places
use Rattle.program_follower.specs.Program.{listed, Program, program_of, behind_head, pids_of, known_pids}
use Rattle.program_follower.specs.Faults.{is_pid, on_cue, network_fault}
use Rattle.program_follower.specs.Standing.{TablesRead, TablesShow}
use Rattle.program_follower.specs.PidUses.{HasUses}
use Rattle.program_follower.specs.Streaming.{is_clear, first_on, place_in, StreamsRead, StartsRead, IsOfStream, IsOfStarts}

-- the streams are followed from the end of the head on
abbrev pub Since : {S : Type 0} → (S → List ℕ → List (List ℕ) → Type 0) → Option S → Option Program → List (List ℕ) → Type 0
Since reads None None past = Unit {0}
Since reads (Some s) (Some r) past = reads s (pids_of (Some r)) past
Since reads None (Some r) past = ⊥
Since reads (Some s) None past = ⊥

abbrev pub StreamsSince : Option Streams → Option Program → List (List ℕ) → Type 0
StreamsSince s known past = Since StreamsRead s known past

abbrev pub StartsSince : Option Starts → Option Program → List (List ℕ) → Type 0
StartsSince s known past = Since StartsRead s known past

-- what is known stays
abbrev pub GoesTo : Option Program → Option Program → Type 0
GoesTo before known = (r : Program) → before ≡ Some r → known ≡ Some r

-- the packets behind the head, after one packet more
abbrev pub grown : Option Program → List ℕ → List (List ℕ) → List (List ℕ)
grown None p past = []
grown (Some r) p past = p ∷ past

-- It follows for this purpose, was fed this past, and answered no fault.
pub record FollowerStandsFor (f : ProgramFollower) (c : Purpose) (past : List (List ℕ)) : Type 0 where
  pub tables : TablesRead f.tables c past
  pub shows : TablesShow f.tables c past
  pub streams : StreamsSince f.streams (program_of c.program past) (behind_head c.program past)
  pub whole : f.is_spent ≡ false

-- the same of one that reads the begins of units alone
pub record StartsStandFor (f : StartFollower) (c : Purpose) (past : List (List ℕ)) : Type 0 where
  pub tables : TablesRead f.tables c past
  pub streams : StartsSince f.streams (program_of c.program past) (behind_head c.program past)
  pub uses : HasUses f.uses c past

-- it shows the sections that the newest packet finishes on the PID of the map
abbrev pub StartsShow : StartFollower → Purpose → List (List ℕ) → Type 0
StartsShow f c past = TablesShow f.tables c past

-- what holds of the packets that it was fed, for its purpose
abbrev pub OfPast : ProgramFollower → (Purpose → List (List ℕ) → Type 0) → Type 0
OfPast f holds = (c : Purpose) (past : List (List ℕ)) → FollowerStandsFor f c past → holds c past

abbrev pub OfStartPast : StartFollower → (Purpose → List (List ℕ) → Type 0) → Type 0
OfStartPast f holds = (c : Purpose) (past : List (List ℕ)) → StartsStandFor f c past → holds c past

-- what holds of the packets behind the head, where the streams were followed for what was known before
abbrev pub OfStreams : Option Streams → Option Program → (Option Program → List (List ℕ) → Type 0) → Type 0
OfStreams s known holds = (r : Option Program) (past : List (List ℕ)) → GoesTo r known → StreamsSince s r past → holds r past

abbrev pub OfBegins : Option Starts → Option Program → (Option Program → List (List ℕ) → Type 0) → Type 0
OfBegins s known holds = (r : Option Program) (past : List (List ℕ)) → GoesTo r known → StartsSince s r past → holds r past

-- the greatest time of the units that have begun behind the head
abbrev pub high_of : Option ℕ → List (List ℕ) → Option ℤ
high_of wanted past = high (pids_of (program_of wanted past)) (behind_head wanted past)

-- the packet is on the PID of the map, behind the PAT
abbrev pub on_map : Option Listed → List ℕ → Bool
on_map None p = false
on_map (Some l) p = on l.pid p

-- which of the PIDs of the map and of the cues it is on
abbrev pub IsOnTables : OnTables → Purpose → List ℕ → List (List ℕ) → Type 0
IsOnTables on_tables.Map c p past = on_map (listed c.program past) p ≡ true
IsOnTables on_tables.Cue c p past = (on_map (listed c.program past) p ≡ false) × (on_cue c.cue_pid p ≡ true)
IsOnTables on_tables.Neither c p past = (on_cue c.cue_pid p ≡ false) × (on_map (listed c.program past) p ≡ false)

-- it is on none of them
pub record IsElsewhere (c : Purpose) (p : List ℕ) (past : List (List ℕ)) : Type 0 where
  pub pat : on 0 p ≡ false
  pub cue : on_cue c.cue_pid p ≡ false
  pub map : on_map (listed c.program past) p ≡ false

-- A PID on which nothing of a program is, behind its PAT: it is not that of the PAT, not that of the cues, and none of those that are known of
-- the program.
pub record IsUnfollowed (wanted cue_pid : Option ℕ) (pid : ℕ) (past : List (List ℕ)) : Type 0 where
  pub listed : is_some (listed wanted past) ≡ true
  pub pat : (pid == 0) ≡ false
  pub cue : is_pid cue_pid pid ≡ false
  pub known : is_among pid (known_pids wanted past) ≡ false

-- what holds where the next packet is on no PID of tables or cues, and of this switched stream if it is not marked in error
abbrev pub OfStreamPast : StartFollower → ℕ → List ℕ → (Purpose → List (List ℕ) → Type 0) → Type 0
OfStreamPast f place p holds = (c : Purpose) (past : List (List ℕ)) → StartsStandFor f c past → IsElsewhere c p past
    → (in_error p ≡ false → Some place ≡ place_in (pids_of (program_of c.program past)) p) → holds c past

-- of which switched stream a packet is, behind this past
abbrev pub IsSwitched : Option (ℕ × StreamPacket) → Purpose → List ℕ → List (List ℕ) → Type 0
IsSwitched x c p past = IsOfStream x (pids_of (program_of c.program past)) p (behind_head c.program past)

-- what a packet is behind this past
abbrev pub IsPlace : Place → Purpose → List ℕ → List (List ℕ) → Type 0
IsPlace places.Marked c p past = in_error p ≡ true
IsPlace places.Map c p past = on_map (listed c.program past) p ≡ true
IsPlace places.Cue c p past = (on_map (listed c.program past) p ≡ false) × (on_cue c.cue_pid p ≡ true)
IsPlace (places.Stream i x) c p past = (on_cue c.cue_pid p ≡ false) × (on_map (listed c.program past) p ≡ false)
    × IsSwitched (Some (i, x)) c p past
IsPlace places.Other c p past = (in_error p ≡ false) × (on_cue c.cue_pid p ≡ false) × (on_map (listed c.program past) p ≡ false)
    × (first_on (pids_of (program_of c.program past)) p ≡ None)

-- of which switched stream a packet is to one that reads the begins of units alone, behind this past
abbrev pub IsOfStartsAt : Option (ℕ × StartPacket) → Purpose → List ℕ → List (List ℕ) → Type 0
IsOfStartsAt x c p past = IsOfStarts x (pids_of (program_of c.program past)) p (behind_head c.program past)

-- what a packet is to it behind this past
abbrev pub IsStartPlace : StartPlace → Purpose → List ℕ → List (List ℕ) → Type 0
IsStartPlace start_places.Map c p past = on_map (listed c.program past) p ≡ true
IsStartPlace start_places.Cue c p past = (on_map (listed c.program past) p ≡ false) × (on_cue c.cue_pid p ≡ true)
IsStartPlace (start_places.Stream i x) c p past = (on_cue c.cue_pid p ≡ false) × (on_map (listed c.program past) p ≡ false)
    × IsOfStartsAt (Some (i, x)) c p past
IsStartPlace start_places.Other c p past = (on_cue c.cue_pid p ≡ false) × (on_map (listed c.program past) p ≡ false)
    × (first_on (pids_of (program_of c.program past)) p ≡ None)

-- A packet of a switched stream that has a payload and with which nothing is wrong, of no table and no cue: this is what it is to its stream.
pub record IsPartOf (c : Purpose) (x : StreamPart) (p : List ℕ) (past : List (List ℕ)) : Type 0 where
  pub listed : is_some (listed c.program past) ≡ true
  pub elsewhere : IsElsewhere c p past
  pub sound : network_fault c p past ≡ None
  pub clear : is_clear p ≡ true
  pub here : Some x.stream ≡ place_in (pids_of (program_of c.program past)) p
  pub place : IsOfStartsAt (Some (x.stream, x.part)) c p past

-- a unit of a switched stream begins with the packet, or it is on the PID of the map or on that of the cues: with no other the greatest
-- time rises
abbrev pub may_rise : Purpose → List ℕ → List (List ℕ) → Bool
may_rise c p past = begins_one (pids_of (program_of c.program past)) p (behind_head c.program past)
    || (on_map (listed c.program past) p || on_cue c.cue_pid p)

-- the fault is this one of the network
abbrev pub IsNetwork : FollowFault → Option NetworkFault → Type 0
IsNetwork (Network fault) wrong = wrong ≡ Some fault
IsNetwork Failed wrong = ⊥

-- the switched streams, none in the head
abbrev pub streams_of_program : Option Program → List Stream
streams_of_program None = []
streams_of_program (Some r) = r.streams
