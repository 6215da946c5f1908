-- What is told of a stream, over its packets, newest first.
use Rattle.std.specs.Prelude.{◌≡◌, ℕ, ◌-◌, ◌^◌, ◌≤◌, ◌<◌, List, Bool, true, false, ◌||◌, ◌==◌, Option, None, Some, length, min, reverse, count_by, All}
use Rattle.std.specs.List.{list_any}
use Rattle.psi_tables.specs.Streams.{is_switched}
use Rattle.program_follower.specs.declared.purpose.Purpose.{Purpose}
use Rattle.random_access.specs.Marks.{coding_of}
use Rattle.random_access.specs.Points.{begins_of, first_stamp, last_stamp, points}
use Rattle.stream_facts.specs.declared.facts.Damage.{Damage}
use Rattle.stream_facts.specs.declared.facts.Facts.{Facts}
use Rattle.stream_facts.specs.declared.facts.ProgramFacts.{ProgramFacts}
use Rattle.stream_facts.specs.declared.facts.StreamFacts.{StreamFacts}
use Rattle.stream_facts.specs.declared.inspection.Inspection.{Inspection}
use Rattle.stream_facts.specs.declared.packet_size.PacketSize.{PacketSize}
use Rattle.stream_facts.specs.Counting.{Counts, is_null}
use Rattle.stream_facts.specs.Judging.{Fed, Judged, packets_in, profile_of}
use Rattle.stream_facts.specs.Pids.{KnowsPids, is_used}

-- ---- a stream that a map lists

-- The units, time stamps and random access points that are told of a stream are those of its own PID in the whole run, and it is switched
-- by its own stream_type.
pub record IsStreamOf (past : List (List ℕ)) (s : StreamFacts) : Type 0 where
  pub switched : s.switched ≡ is_switched s.stream_type
  pub units : s.units ≡ min (length (begins_of s.pid (reverse past))) (2 ^ 64 - 1)
  pub first : s.first_pts ≡ first_stamp (begins_of s.pid (reverse past))
  pub last : s.last_pts ≡ last_stamp (begins_of s.pid (reverse past))
  pub points_are : s.points.items ≡ points (coding_of s.stream_type) s.pid (reverse past)

abbrev pub AreStreamsOf : List (List ℕ) → ProgramFacts → Type 0
AreStreamsOf past r = All (IsStreamOf past) r.streams.items

-- ---- the programs that are told

-- the program of this number, or any where there is none
abbrev pub is_told_by : Option ℕ → ℕ → Bool
is_told_by None number = true
is_told_by (Some wanted) number = number == wanted

abbrev pub is_told_program : Option ℕ → ProgramFacts → Bool
is_told_program wanted r = is_told_by wanted r.number

-- ---- free PIDs

abbrev pub is_its_pid : ℕ → StreamFacts → Bool
is_its_pid pid s = s.pid == pid

abbrev pub is_that : ℕ → Option ℕ → Bool
is_that pid None = false
is_that pid (Some other) = other == pid

-- a program has a PID: that of its map, of its clock references or of one of its streams
abbrev pub has_pid : ℕ → ProgramFacts → Bool
has_pid pid r = (r.pmt_pid == pid) || (is_that pid r.pcr_pid || list_any (is_its_pid pid) r.streams.items)

-- No packet that is not marked in error is on it, no program has it, and it is neither reserved (ISO/IEC 13818-1, 2.4.3.3 and EN 300 468,
-- 5.1.3: below 0x20) nor that of null packets. PIDs below 0x100 are left to tables.
pub record IsFree (past : List (List ℕ)) (programs : List ProgramFacts) (pid : ℕ) : Type 0 where
  pub least : 0x100 ≤ pid
  pub most : pid < 0x1FFF
  pub unused : is_used pid past ≡ false
  pub unlisted : list_any (has_pid pid) programs ≡ false

-- ---- an inspection

-- it was fed this past, and judges for this purpose
pub record Inspects (i : Inspection) (c : Purpose) (past : List Fed) : Type 0 where
  pub counts : Counts i.counts (packets_in past)
  pub judge : Judged i.judge c past
  pub pids : KnowsPids i.pids (packets_in past)

abbrev pub OfInspected : Inspection → (Purpose → List Fed → Type 0) → Type 0
OfInspected i says = (c : Purpose) (past : List Fed) → Inspects i c past → says c past

-- WHAT IS TOLD of a run of packets in the end
pub record Tells (facts : Facts) (c : Purpose) (size : PacketSize) (damage : Damage) (past : List Fed) : Type 0 where
  pub packet_size : facts.packet_size ≡ size
  pub damage_is : facts.damage ≡ damage
  pub packets : facts.packets ≡ length past
  pub nulls : facts.null_packets ≡ count_by is_null (packets_in past)
  pub streams : All (AreStreamsOf (packets_in past)) facts.programs.items
  pub free : All (IsFree (packets_in past) facts.programs.items) facts.free_pids.items
  pub profile : facts.profile ≡ profile_of c size damage past
