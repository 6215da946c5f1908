-- What the followers of the switched streams stand for, and what a packet is to them.
use Rattle.std.specs.Prelude.{◌≡◌, ◌<◌, ℕ, ◌+◌, List, [], ◌∷◌, Bool, true, false, not, ◌&&◌, is_some, if◌then◌else◌, slice_index_or, Option, Some, None, option_map}
use Rattle.ts_packet.specs.Fields.{in_error, pid_of, on, payload, payload_on, scrambled, unit_start}
use Rattle.ts_packet.specs.Duplicates.{original, repeats}
use Rattle.unit_stream.specs.declared.reader.UnitReader.{UnitReader}
use Rattle.unit_stream.specs.Times.{begins, begins_one, in_unit, high, stamp, splits}
use Rattle.unit_stream.specs.Faults.{start_fault}
use Rattle.unit_stream.specs.declared.fault.UnitFault.{UnitFault}
use Rattle.unit_stream.specs.Clocks.{ClockAt, Tells}
use Rattle.unit_stream.specs.Pieces.{Reads}
use Rattle.unit_stream.specs.Starts.{ReadsStarts}
use Rattle.unit_stream.specs.declared.starts.StartReader.{StartReader}
use Rattle.program_follower.specs.declared.streams.Streams.{Streams}
use Rattle.program_follower.specs.declared.starts.Starts.{Starts}
use Rattle.program_follower.specs.declared.streams.StreamPacket.{StreamPacket}
use Rattle.program_follower.specs.declared.streams.StreamPacket.TheVariants.{Start, More, Repeat, Lead, NoPayload}
use Rattle.program_follower.specs.declared.starts.UnitStart.{UnitStart}
use Rattle.program_follower.specs.declared.starts.StartPacket.{StartPacket}
use Rattle.program_follower.specs.declared.starts.StartPacket.TheVariants as starts

-- one place farther
abbrev pub next_place : ℕ × ℕ → ℕ × ℕ
next_place x = (x.0 + 1, x.1)

-- the first of these PIDs on which the packet is, behind its number
abbrev pub first_on : List ℕ → List ℕ → Option (ℕ × ℕ)
first_on [] p = None
first_on (pid ∷ pids) p = if on pid p then Some (0, pid) else option_map next_place (first_on pids p)

-- the place of that one
abbrev pub place_in : List ℕ → List ℕ → Option ℕ
place_in pids p = option_map (λ (x : ℕ × ℕ). x.0) (first_on pids p)

-- a place as the table of places has it: its number and 1, or 0 for none
abbrev pub numbered : Option ℕ → ℕ
numbered None = 0
numbered (Some place) = place + 1

-- under each PID (ISO/IEC 13818-1, 2.4.3.3: 13 bits) the table has the place of each packet on it that is not marked in error
abbrev pub HasPlaces : List ℕ → List ℕ → Type 0
HasPlaces numbers pids = (p : List ℕ) → in_error p ≡ false → pid_of p < 8192
    → slice_index_or numbers (pid_of p) 0 ≡ numbered (place_in pids p)

-- each PID's first reader is so
abbrev pub AllFirst : {R : Type 0} → (R → ℕ → Type 0) → List R → List ℕ → Type 0
AllFirst {R} is readers pids = (q : List ℕ) (x : ℕ × ℕ) (d : R) → first_on pids q ≡ Some x → is (slice_index_or readers x.0 d) x.1

-- each PID's first reader has read this past
abbrev pub AllRead : List UnitReader → List ℕ → List (List ℕ) → Type 0
AllRead readers pids past = AllFirst (λ r pid. Reads r pid past) readers pids

pub record StreamsRead (s : Streams) (pids : List ℕ) (past : List (List ℕ)) : Type 0 where
  pub places : HasPlaces s.places pids
  pub clock : ClockAt s.clock (high pids past)
  pub readers : AllRead s.readers pids past

-- the same of those that read the begins of units alone
abbrev pub AllStartsRead : List StartReader → List ℕ → List (List ℕ) → Type 0
AllStartsRead readers pids past = AllFirst (λ r pid. ReadsStarts r pid past) readers pids

pub record StartsRead (s : Starts) (pids : List ℕ) (past : List (List ℕ)) : Type 0 where
  pub places : HasPlaces s.places pids
  pub clock : ClockAt s.clock (high pids past)
  pub readers : AllStartsRead s.readers pids past

-- the packet is of this one of the PIDs
pub record IsOne (pids : List ℕ) (pid : ℕ) (p : List ℕ) (past : List (List ℕ)) : Type 0 where
  pub good : in_error p ≡ false
  pub begins_it : begins_one pids p past ≡ begins pid p past

-- what is wrong with the begin of a unit, if the packet is one
abbrev pub begin_fault : List ℕ → ℕ → List ℕ → List (List ℕ) → Option UnitFault
begin_fault pids pid p past = if begins pid p past then start_fault (high pids past) (splits p) (stamp p) else None

-- what a packet of the PID is
abbrev pub IsStreamPacket : StreamPacket → List ℕ → ℕ → List ℕ → List (List ℕ) → Type 0
IsStreamPacket (Start begun) pids pid p past = (begins pid p past ≡ true) × Tells begun (high pids past) (stamp p)
IsStreamPacket More pids pid p past = (original pid p past ≡ true) × (unit_start p ≡ false) × (in_unit pid past ≡ true)
IsStreamPacket Repeat pids pid p past = (payload_on pid p ≡ true) × (repeats pid p past ≡ true)
IsStreamPacket Lead pids pid p past = (original pid p past ≡ true) × (unit_start p ≡ false) × (in_unit pid past ≡ false)
IsStreamPacket NoPayload pids pid p past = payload_on pid p ≡ false

-- of which stream it is, and what it is there
abbrev pub IsOfStream : Option (ℕ × StreamPacket) → List ℕ → List ℕ → List (List ℕ) → Type 0
IsOfStream None pids p past = first_on pids p ≡ None
IsOfStream (Some x) pids p past = (pid : ℕ) × ((first_on pids p ≡ Some (x.0, pid)) × IsStreamPacket x.1 pids pid p past)

-- what a packet of the PID is to a reader of the begins of units alone
abbrev pub IsStartPacket : StartPacket → List ℕ → ℕ → List ℕ → List (List ℕ) → Type 0
IsStartPacket (starts.Start begun) pids pid p past = (begins pid p past ≡ true) × Tells begun (high pids past) (stamp p)
IsStartPacket starts.NoStart pids pid p past = begins pid p past ≡ false

-- a packet has a payload, which is not scrambled (ISO/IEC 13818-1, 2.4.3.3)
abbrev pub is_clear : List ℕ → Bool
is_clear p = not (scrambled p) && is_some (payload p)

-- of which stream it is, and what it is there to such a reader
abbrev pub IsOfStarts : Option (ℕ × StartPacket) → List ℕ → List ℕ → List (List ℕ) → Type 0
IsOfStarts None pids p past = first_on pids p ≡ None
IsOfStarts (Some x) pids p past = (pid : ℕ) × ((first_on pids p ≡ Some (x.0, pid)) × IsStartPacket x.1 pids pid p past)

-- the unit that a packet would begin, on the first of these PIDs that it is on
abbrev pub start_on : Option (ℕ × ℕ) → List ℕ → List (List ℕ) → Option UnitStart
start_on None p past = None
start_on (Some x) p past = if begins x.1 p past then Some (record { pts = stamp p }) else None

abbrev pub start_in : List ℕ → List ℕ → List (List ℕ) → Option UnitStart
start_in pids p past = start_on (first_on pids p) p past
