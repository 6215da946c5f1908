-- A network without fault, with cues put in, and the same stripped again.
use Rattle.std.specs.Prelude.{◌≡◌, ℕ, ◌<◌, List, [], ◌∷◌, true, false, filter, map, if◌then◌else◌, Option, Some, None, option_map}
use Rattle.std.specs.List.{AllByRecursion}
use Rattle.ts_packet.specs.Fields.{on, on_one}
use Rattle.psi_section.specs.Sections.{given}
use Rattle.wire_fields.specs.Numbers.{AreBytes}
use Rattle.psi_tables.specs.Association.{Pair, pat, pid_of_program}
use Rattle.psi_tables.specs.ProgramMap.{ProgramMap}
use Rattle.psi_tables.specs.Cue.{with_cue_entry, without_cue_entry}
use Rattle.program_follower.specs.declared.purpose.Purpose.{Purpose}
use Rattle.program_follower.specs.declared.purpose.Listed.{Listed}
use Rattle.program_follower.specs.Program.{listed, pairs_of, Table, all_tables, known_map, program_in, program_of, behind_head, pids_of}
use Rattle.program_follower.specs.Faults.{first_fault}
use Rattle.program_laws.specs.Writing.{Along, Writing, written, table_out}
use Rattle.program_laws.specs.Behind.{SameUnits}

-- ---- a run without fault

-- a PAT that applies says the same
abbrev pub PairsAgree : Listed → Option (List Pair) → Type 0
PairsAgree l None = Unit {0}
PairsAgree l (Some pairs) = pid_of_program l.program pairs ≡ Some l.pid

abbrev pub PatsAgree : Option ℕ → List ℕ → List (List ℕ) → Type 0
PatsAgree wanted p past = (l : Listed) → listed wanted past ≡ Some l → AllByRecursion (λ s. PairsAgree l (pairs_of (pat s))) (given 0 p past)

-- a map of the program says the same
abbrev pub MapAgrees : Option ProgramMap → Option ProgramMap → Type 0
MapAgrees known None = Unit {0}
MapAgrees known (Some m) = option_map program_in known ≡ Some (program_in m)

-- THE LAW OF STABILITY: without fault every later PAT gives the program the same PID, and every later map of it has the same
-- switched streams and PCR PID.
pub record Agrees (c : Purpose) (past : List (List ℕ)) : Type 0 where
  pub pats : Along (PatsAgree c.program) past
  pub maps : AllByRecursion (λ (t : Table). MapAgrees (known_map c.program past) t.program_map) (all_tables c.program past)

abbrev pub LaterTablesAgree : Type 0
LaterTablesAgree = (c : Purpose) (past : List (List ℕ)) → first_fault c past ≡ None → Agrees c past

-- without fault no packet of a network to which cues are written is on their PID
abbrev pub NoCuePackets : Type 0
NoCuePackets = (c : Purpose) (cue : ℕ) (past : List (List ℕ)) → c.cue_pid ≡ Some cue → c.writes_cues ≡ true → first_fault c past ≡ None → Along (λ p past. on cue p ≡ false) past

-- ---- cues put in, and taken out

abbrev pub On : ℕ → List ℕ → Type 0
On pid q = on pid q ≡ true

-- packets are put in front of packets, and each map of the program lists the PID of the cues
abbrev pub cueing : ℕ → (List ℕ → List (List ℕ) → List (List ℕ)) → Writing
cueing cue cues = record { change = with_cue_entry cue; front = cues; place = λ p past. p ∷ [] }

-- the packets of a PID are left out, and no map lists it
abbrev pub stripping : ℕ → Writing
stripping cue = record { change = without_cue_entry cue; front = λ p past. []; place = λ p past. if on cue p then [] else p ∷ [] }

abbrev pub cued : Option ℕ → ℕ → (List ℕ → List (List ℕ) → List (List ℕ)) → List (List ℕ) → List (List ℕ)
cued wanted cue cues past = written (cueing cue cues) wanted past

-- the cued stream, read as the network is, beside the network
pub record CuedReads (wanted : Option ℕ) (cue : ℕ) (out past : List (List ℕ)) (pids : List ℕ) : Type 0 where
  pub same_pat : listed wanted out ≡ listed wanted past
  pub program : program_of wanted out ≡ program_of wanted past
  pub tables : all_tables wanted out ≡ map (table_out (with_cue_entry cue)) (all_tables wanted past)
  pub packets : filter (on_one pids) (behind_head wanted out) ≡ filter (on_one pids) (behind_head wanted past)
  pub units : AllByRecursion (SameUnits pids (behind_head wanted out) (behind_head wanted past)) pids
  pub stripped_pat : listed wanted (written (stripping cue) wanted out) ≡ listed wanted past
  pub stripped : all_tables wanted (written (stripping cue) wanted out) ≡ all_tables wanted past

-- THE LAW OF THE CUED STREAM. A network without fault, whatever packets of the cue PID are put in front of its packets, has its PAT,
-- program and units, and stripped again its sections.
abbrev pub CuedStreamReads : Type 0
CuedStreamReads = (c : Purpose) (cue : ℕ) (cues : List ℕ → List (List ℕ) → List (List ℕ)) (past : List (List ℕ)) →
    c.cue_pid ≡ Some cue → c.writes_cues ≡ true → (cue ≡ 0 → ⊥) → cue < 8192 → first_fault c past ≡ None →
    Along (λ p past. AreBytes p) past → Along (λ p past. AllByRecursion (On cue) (cues p past)) past →
    CuedReads c.program cue (cued c.program cue cues past) past (pids_of (program_of c.program past))
