-- Streams that are written from a network: packets are put in, packets are left out or changed, and on the PID of the PMT the
-- sections go out in packets of their own, the program's maps changed.
use Rattle.std.specs.Prelude.{◌≡◌, ℕ, List, [], ◌∷◌, ◌++◌, map, true, false, if◌then◌else◌, Option, Some, None, option_map}
use Rattle.std.specs.List.{AllByRecursion}
use Rattle.ts_packet.specs.Fields.{on, number}
use Rattle.ts_packet.specs.Numbering.{one_past}
use Rattle.ts_packet.specs.Runs.{onto}
use Rattle.psi_section.specs.Packetising.{packets_in_turn}
use Rattle.psi_section.specs.Laws.{CanBeGiven}
use Rattle.psi_tables.specs.ProgramMap.{ProgramMap, pmt, pmt_section}
use Rattle.program_follower.specs.declared.purpose.Listed.{Listed}
use Rattle.program_follower.specs.Program.{listed, Table, tables, all_tables, map_read, known_map}

-- each packet of a past, with the packets before it, is so
abbrev pub Along : (List ℕ → List (List ℕ) → Type 0) → List (List ℕ) → Type 0
Along P [] = Unit {0}
Along P (p ∷ past) = P p past × Along P past

-- the counter of the last packet of a PID that is not marked in error, with payload or without
abbrev pub number_on : ℕ → List (List ℕ) → Option ℕ
number_on pid [] = None
number_on pid (p ∷ past) = if on pid p then Some (number p) else number_on pid past

-- What is written: the change of the program's maps, the packets put in front of a packet, and those in its place where it is not
-- on the PID of the PMT behind the PAT.
pub record Writing : Type 0 where
  pub change : ProgramMap → ProgramMap
  pub front : List ℕ → List (List ℕ) → List (List ℕ)
  pub place : List ℕ → List (List ℕ) → List (List ℕ)

abbrev pub section_by : (ProgramMap → ProgramMap) → List ℕ → Option ProgramMap → List ℕ
section_by change s None = s
section_by change s (Some m) = pmt_section (change m)

-- a section as it goes out, and that with its map
abbrev pub section_out : (ProgramMap → ProgramMap) → Table → List ℕ
section_out change t = section_by change t.section t.program_map

abbrev pub table_out : (ProgramMap → ProgramMap) → Table → Table
table_out change t = record { section = section_out change t; program_map = option_map change t.program_map }

-- sections in packets, whose counters go on from the last packet on the PID
abbrev pub packets_out : ℕ → List (List ℕ) → List (List ℕ) → List (List ℕ)
packets_out pid out ss = packets_in_turn pid (one_past (number_on pid out)) ss

-- what goes out in the place of a packet, behind what is out
abbrev pub body : Writing → Option Listed → List ℕ → List (List ℕ) → List Table → List (List ℕ) → List (List ℕ)
body w None p past ts out = w.place p past
body w (Some l) p past ts out = if on l.pid p then packets_out l.pid out (map (section_out w.change) ts) else w.place p past

abbrev pub block : Writing → Option ℕ → List ℕ → List (List ℕ) → List (List ℕ) → List (List ℕ)
block w wanted p past out = w.front p past ++ body w (listed wanted past) p past (tables wanted p past) out

-- THE WRITTEN STREAM, newest packet first
abbrev pub written : Writing → Option ℕ → List (List ℕ) → List (List ℕ)
written w wanted [] = []
written w wanted (p ∷ past) = onto (written w wanted past) (block w wanted p past (written w wanted past))

-- ---- what a writing may do

-- the packet is of another PID, or marked in error
abbrev pub Off : ℕ → List ℕ → Type 0
Off pid p = on pid p ≡ false

-- the changed map is read back from its section, and can be given
pub record IsReadable (program : ℕ) (m : ProgramMap) : Type 0 where
  pub reads : map_read program (pmt (pmt_section m)) ≡ Some m
  pub given : CanBeGiven (pmt_section m)

abbrev pub MapGoesOut : (ProgramMap → ProgramMap) → ℕ → Option ProgramMap → Type 0
MapGoesOut change program None = Unit {0}
MapGoesOut change program (Some m) = IsReadable program (change m)

abbrev pub ChangedGoesOut : (ProgramMap → ProgramMap) → ℕ → Table → Type 0
ChangedGoesOut change program t = MapGoesOut change program t.program_map

-- Behind the PAT: the PID of the PMT is not that of the PAT, nothing else is put on it, and its changed maps can be read.
pub record IsClearBehind (w : Writing) (wanted : Option ℕ) (p : List ℕ) (past : List (List ℕ)) (l : Listed) : Type 0 where
  pub pid : l.pid ≡ 0 → ⊥
  pub front : AllByRecursion (Off l.pid) (w.front p past)
  pub place : on l.pid p ≡ false → AllByRecursion (Off l.pid) (w.place p past)
  pub maps : AllByRecursion (ChangedGoesOut w.change l.program) (tables wanted p past)

-- Nothing is put on PID 0, whose packets pass.
pub record IsClear (w : Writing) (wanted : Option ℕ) (p : List ℕ) (past : List (List ℕ)) : Type 0 where
  pub front : AllByRecursion (Off 0) (w.front p past)
  pub keeps : on 0 p ≡ true → w.place p past ≡ p ∷ []
  pub place : on 0 p ≡ false → AllByRecursion (Off 0) (w.place p past)
  pub behind : (l : Listed) → listed wanted past ≡ Some l → IsClearBehind w wanted p past l

-- ---- the law

-- what is written, read again
pub record ReadsAgain (w : Writing) (wanted : Option ℕ) (past : List (List ℕ)) : Type 0 where
  pub same_pat : listed wanted (written w wanted past) ≡ listed wanted past
  pub tables : all_tables wanted (written w wanted past) ≡ map (table_out w.change) (all_tables wanted past)
  pub head : known_map wanted (written w wanted past) ≡ option_map w.change (known_map wanted past)

-- THE LAW OF WRITING. The stream finishes the same sections in the places of the same packets of the network (it is so for each
-- front of it), changed; so it has the same PAT, and its head ends in the place of the same packet.
abbrev pub WrittenReadsAgain : Type 0
WrittenReadsAgain = (w : Writing) (wanted : Option ℕ) (past : List (List ℕ)) → Along (IsClear w wanted) past → ReadsAgain w wanted past
