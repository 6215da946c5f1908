-- What a network's tables may not say, and which packets may not come, by the packets that came before, newest first.
use Rattle.std.specs.Option.{option_or}
use Rattle.std.specs.Prelude.{ℕ, List, [], ◌∷◌, map, length, Bool, true, false, not, ◌&&◌, ◌||◌, ◌==◌, nat_lt, if◌then◌else◌, Option, Some, None, option_map, Result, Ok, Err}
use Rattle.std.specs.List.{list_any}
use Rattle.ts_packet.specs.Fields.{on, is_among}
use Rattle.psi_section.specs.Sections.{given}
use Rattle.psi_tables.specs.declared.fault.TableFault.{TableFault}
use Rattle.psi_tables.specs.declared.fault.TableFault.TheVariants as table_faults
use Rattle.psi_tables.specs.declared.network.NetworkFault.{NetworkFault}
use Rattle.psi_tables.specs.declared.network.NetworkFault.TheVariants.{TimeJump, HeaderSplit, Scrambled, ProgramChanged, TooManyStreams, BadPids, PmtTooLong, CuePidUsed, Sections}
use Rattle.psi_tables.specs.declared.stream.Stream.{Stream}
use Rattle.psi_tables.specs.Sections.{is_current}
use Rattle.psi_tables.specs.Streams.{pid_in, switched_of}
use Rattle.psi_tables.specs.Association.{Association, Pair, pat, pid_of_program}
use Rattle.psi_tables.specs.ProgramMap.{ProgramMap, streams_of, map_length, descriptors_bytes, entries_bytes}
use Rattle.psi_tables.specs.Cue.{with_cue_entry}
use Rattle.unit_stream.specs.declared.fault.UnitFault.{UnitFault}
use Rattle.unit_stream.specs.declared.fault.UnitFault.TheVariants as unit_faults
use Rattle.unit_stream.specs.Faults.{unit_fault}
use Rattle.program_follower.specs.declared.purpose.Purpose.{Purpose}
use Rattle.program_follower.specs.declared.purpose.Listed.{Listed}
use Rattle.program_follower.specs.Program.{lists, listed, listed_in, Table, tables, known_map, Program, program_in, program_of, behind_head, pids_of}

-- it is this PID, where there is one
abbrev pub is_pid : Option ℕ → ℕ → Bool
is_pid None pid = false
is_pid (Some cue) pid = pid == cue

abbrev pub if_bad : Bool → NetworkFault → Option NetworkFault
if_bad b f = if b then Some f else None

-- ---- a packet on the cue PID

abbrev pub on_cue : Option ℕ → List ℕ → Bool
on_cue None p = false
on_cue (Some cue) p = on cue p

abbrev pub cue_fault : Purpose → List ℕ → Option NetworkFault
cue_fault c p = if_bad (c.writes_cues && on_cue c.cue_pid p) CuePidUsed

-- ---- a PAT

-- what is wrong with the PID of the PMT alone
abbrev pub pmt_pid_fault : Purpose → Option Listed → Option NetworkFault
pmt_pid_fault c None = None
pmt_pid_fault c (Some l) = option_or (if_bad ((l.pid == 0) || (l.pid == 8191)) BadPids) (if_bad (is_pid c.cue_pid l.pid) CuePidUsed)

abbrev pub differs : ℕ → Option ℕ → Bool
differs pid None = true
differs pid (Some other) = not (pid == other)

-- what is wrong with a PAT, by what is listed so far
abbrev pub pairs_fault : Purpose → Option Listed → List Pair → Option NetworkFault
pairs_fault c None pairs = pmt_pid_fault c (listed_in c.program pairs)
pairs_fault c (Some l) pairs = if_bad (differs l.pid (pid_of_program l.program pairs)) ProgramChanged

abbrev pub pat_fault : Purpose → Option Listed → Result Association TableFault → Option NetworkFault
pat_fault c known (Ok a) = if is_current a.version then pairs_fault c known a.pairs else None
pat_fault c known (Err table_faults.Sections) = Some Sections
pat_fault c known (Err table_faults.WrongTable) = None
pat_fault c known (Err table_faults.BadLength) = None

-- the first fault of the sections that one packet finishes on PID 0
abbrev pub pats_fault : Purpose → Option Listed → List (List ℕ) → Option NetworkFault
pats_fault c known [] = None
pats_fault c known (s ∷ ss) = option_or (pat_fault c known (pat s)) (pats_fault c (option_or known (lists c.program s)) ss)

-- ---- a PMT of the program

abbrev pub pids_in : List Stream → List ℕ
pids_in streams = map (λ (s : Stream). s.pid) streams

-- a number stands in a list more than once
abbrev pub is_twice : ℕ → List ℕ → Bool
is_twice x [] = false
is_twice x (y ∷ ys) = if y == x then is_among x ys else is_twice x ys

-- a PID that no entry and no clock may have, and one that no switched stream may have
abbrev pub bad_pid : ℕ → ℕ → Bool
bad_pid pmt_pid pid = (pid == 0) || (pid == pmt_pid)

abbrev pub bad_switched : List ℕ → ℕ → Bool
bad_switched pids pid = (pid == 8191) || is_twice pid pids

abbrev pub switches_bad_pid : List Stream → Bool
switches_bad_pid streams = list_any (bad_switched (pids_in streams)) (pids_in (switched_of streams))

abbrev pub bad_pids : ℕ → List Stream → ℕ → Bool
bad_pids pmt_pid streams pcr_pid = list_any (bad_pid pmt_pid) (pcr_pid ∷ pids_in streams) || switches_bad_pid streams

abbrev pub has_bad_pids : ℕ → ProgramMap → Bool
has_bad_pids pmt_pid m = bad_pids pmt_pid (streams_of m) (pid_in m.pcr_field)

-- the PIDs on which no cue may stand
abbrev pub cue_used : Purpose → List Stream → ℕ → Bool
cue_used c streams pcr_pid = list_any (is_pid c.cue_pid) (pcr_pid ∷ pids_in (if c.writes_cues then streams else switched_of streams))

abbrev pub same_streams : List Stream → List Stream → Bool
same_streams [] [] = true
same_streams [] (t ∷ ts) = false
same_streams (s ∷ ss) [] = false
same_streams (s ∷ ss) (t ∷ ts) = ((s.kind == t.kind) && (s.pid == t.pid)) && same_streams ss ts

abbrev pub uses_cue_pid : Purpose → ProgramMap → Bool
uses_cue_pid c m = cue_used c (streams_of m) (pid_in m.pcr_field)

-- another list of switched streams than the program's, or another PCR PID
abbrev pub changed_by : Option Program → List Stream → ℕ → Bool
changed_by None streams pcr_pid = false
changed_by (Some r) streams pcr_pid = not (same_streams streams r.streams && (pcr_pid == r.pcr_pid))

abbrev pub changed_from : Option Program → ProgramMap → Bool
changed_from known m = changed_by known (switched_of (streams_of m)) (pid_in m.pcr_field)

-- than the first map's
abbrev pub changed : Option ProgramMap → ProgramMap → Bool
changed first m = changed_from (option_map program_in first) m

-- the entry for cues has no room
abbrev pub too_long : Option ℕ → ProgramMap → Bool
too_long None m = false
too_long (Some cue) m = nat_lt 1021 (map_length (descriptors_bytes (with_cue_entry cue m).descriptors) (entries_bytes (with_cue_entry cue m).entries))

-- what is wrong with a map, by the PMT's PID and what is known of the program, where this is a later map
abbrev pub map_fault_from : Purpose → ℕ → Option Program → ProgramMap → Option NetworkFault
map_fault_from c pmt_pid known m =
    option_or (if_bad (nat_lt 8 (length (switched_of (streams_of m)))) TooManyStreams)
    (option_or (if_bad (has_bad_pids pmt_pid m) BadPids)
    (option_or (if_bad (uses_cue_pid c m) CuePidUsed)
    (option_or (if_bad (changed_from known m) ProgramChanged)
    (if_bad (c.writes_cues && too_long c.cue_pid m) PmtTooLong))))

-- by the program's first map
abbrev pub map_fault : Purpose → ℕ → Option ProgramMap → ProgramMap → Option NetworkFault
map_fault c pmt_pid first m = map_fault_from c pmt_pid (option_map program_in first) m

abbrev pub table_fault : Purpose → ℕ → Option ProgramMap → Option ProgramMap → Option NetworkFault
table_fault c pmt_pid first None = None
table_fault c pmt_pid first (Some m) = map_fault c pmt_pid first m

-- the first fault of the sections that one packet finishes on the PMT's PID
abbrev pub tables_fault : Purpose → ℕ → Option ProgramMap → List Table → Option NetworkFault
tables_fault c pmt_pid first [] = None
tables_fault c pmt_pid first (t ∷ ts) = option_or (table_fault c pmt_pid first t.program_map) (tables_fault c pmt_pid (option_or first t.program_map) ts)

abbrev pub maps_fault : Purpose → Option Listed → Option ProgramMap → List Table → Option NetworkFault
maps_fault c None first ts = None
maps_fault c (Some l) first ts = tables_fault c l.pid first ts

-- ---- a packet

abbrev pub as_network : Option UnitFault → Option NetworkFault
as_network None = None
as_network (Some unit_faults.Scrambled) = Some Scrambled
as_network (Some unit_faults.HeaderSplit) = Some HeaderSplit
as_network (Some unit_faults.TimeJump) = Some TimeJump

-- of the PATs that a packet finishes, of the maps of the program that it finishes, and of the unit that it is of
abbrev pub pats_fault_at : Purpose → List ℕ → List (List ℕ) → Option NetworkFault
pats_fault_at c p past = pats_fault c (listed c.program past) (given 0 p past)

abbrev pub maps_fault_at : Purpose → List ℕ → List (List ℕ) → Option NetworkFault
maps_fault_at c p past = maps_fault c (listed c.program past) (known_map c.program past) (tables c.program p past)

abbrev pub unit_fault_at : Purpose → List ℕ → List (List ℕ) → Option NetworkFault
unit_fault_at c p past = as_network (unit_fault (pids_of (program_of c.program past)) p (behind_head c.program past))

-- What is wrong with a packet, by the packets before it. It is of one PID, so that at most one of these speaks of it where the PIDs
-- of the program are good.
abbrev pub network_fault : Purpose → List ℕ → List (List ℕ) → Option NetworkFault
network_fault c p past = option_or (cue_fault c p) (option_or (pats_fault_at c p past) (option_or (maps_fault_at c p past) (unit_fault_at c p past)))

-- the first fault of a whole run, newest packet first
abbrev pub first_fault : Purpose → List (List ℕ) → Option NetworkFault
first_fault c [] = None
first_fault c (p ∷ past) = option_or (first_fault c past) (network_fault c p past)
