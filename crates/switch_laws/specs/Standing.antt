-- What stands in the output for each packet of a network, and the packets of all PIDs that a switch does not touch.
use Rattle.std.specs.Prelude.{◌≡◌, ℕ, ◌++◌, ◌∷◌, List, [], Bool, true, false, None, Some, map, filter, reverse}
use Rattle.ts_packet.specs.Fields.{on, in_error, pid_of, pcr, with_number, on_one, is_among}
use Rattle.ts_packet.specs.Numbering.{Step, number_out}
use Rattle.unit_stream.specs.Fates.{is_left_out}
use Rattle.psi_tables.specs.Cue.{without_cue_entry}
use Rattle.program_follower.specs.declared.purpose.Listed.{Listed}
use Rattle.program_follower.specs.Program.{listed, tables, behind_head}
use Rattle.program_follower.specs.Faults.{first_fault}
use Rattle.splice_laws.specs.Streams.{IsOnce}
use Rattle.program_laws.specs.Writing.{section_out, packets_out}
use Rattle.output_laws.specs.Output.{Move, Leave, counter_steps, clock_alone}
use Rattle.output_laws.specs.Others.{is_off}
use Rattle.splice_plans.specs.Playing.{is_inside}
use Rattle.splice_plans.specs.Switching.{Setting, switched_at, history_at, switched_past, spliced_network, moves, puts_before}
use Rattle.splice_plans.specs.Known.{adverts_at}
use Rattle.switch_laws.specs.Whole.{stands_for, table_pids, ArePacked, HavePids, TablesAreApart}
use Rattle.program_follower.specs.Purposes.{cues_read_on}

-- it is not on the PID of the PMT, behind the PAT
abbrev pub IsNoTable : Setting → List ℕ → List (List ℕ) → Type 0
IsNoTable k p past = (l : Listed) → listed (Some k.program) past ≡ Some l → on l.pid p ≡ false

-- its unit lies in an event that is played
abbrev pub is_left : Setting → List ℕ → List (List ℕ) → Bool
is_left k p past = is_left_out (λ pid time. is_inside (adverts_at k past) (history_at k past (p ∷ behind_head (Some k.program) past)) time)
    (switched_at k past) p (behind_head (Some k.program) past) (switched_at k past)

-- all that was done before the packet, newest first
abbrev pub done_before : Setting → List ℕ → List (List ℕ) → List Move
done_before k p past =
    reverse (puts_before (switched_at k past) (adverts_at k past) (history_at k past) p (behind_head (Some k.program) past))
    ++ moves (switched_at k past) (adverts_at k past) (history_at k past) (behind_head (Some k.program) past)

-- what the counter of the packet's PID has counted then
abbrev pub steps_before : Setting → List ℕ → List (List ℕ) → List Step
steps_before k p past = counter_steps k.packed (pid_of p) (done_before k p past)

-- and with the packet, where it is left out
abbrev pub steps_left : Setting → List ℕ → List (List ℕ) → List Step
steps_left k p past = counter_steps k.packed (pid_of p) (Leave p ∷ done_before k p past)

-- For a packet marked in error, or of a PID that is not touched, stands itself; for one on the PID of the PMT the sections that it finishes,
-- the program's maps without the entry for the cues; for a cue nothing; for one of a switched stream itself, with the counter of the rule
-- (ISO/IEC 13818-1, 2.4.3.3), or, where its unit lies in a played event, its clock reference alone, or nothing.
pub record StandsAs (k : Setting) (p : List ℕ) (past : List (List ℕ)) : Type 0 where
  pub marked : in_error p ≡ true → stands_for k p past ≡ p ∷ []
  pub sections : (l : Listed) → listed (Some k.program) past ≡ Some l → on l.pid p ≡ true →
      stands_for k p past ≡ packets_out l.pid (switched_past k past) (map (section_out (without_cue_entry k.cue_pid)) (tables (Some k.program) p past))
  pub cue : IsNoTable k p past → on k.cue_pid p ≡ true → stands_for k p past ≡ []
  pub other : IsNoTable k p past → on k.cue_pid p ≡ false → on_one (switched_at k past) p ≡ false → stands_for k p past ≡ p ∷ []
  pub kept : IsNoTable k p past → on k.cue_pid p ≡ false → on_one (switched_at k past) p ≡ true → is_left k p past ≡ false →
      stands_for k p past ≡ with_number (number_out p (steps_before k p past)) p ∷ []
  pub left : IsNoTable k p past → on k.cue_pid p ≡ false → on_one (switched_at k past) p ≡ true → is_left k p past ≡ true →
      stands_for k p past ≡ clock_alone (pid_of p) (number_out p (steps_left k p past)) (pcr p)

-- THE LAW OF EACH PACKET
abbrev pub PacketsStandAs : Type 0
PacketsStandAs = (k : Setting) (p : List ℕ) (past : List (List ℕ)) → StandsAs k p past

-- the PIDs that a switch touches: of the cues, of the PMT, and of the switched streams
abbrev pub touched : Setting → List (List ℕ) → List ℕ
touched k past = table_pids k past ++ switched_at k past

-- THE LAW OF OTHER PACKETS: the packets of all other PIDs, and those marked in error, are one list, byte for byte, in their order
abbrev pub OthersStay : Type 0
OthersStay = (k : Setting) (network : List (List ℕ)) → ArePacked k.packed (adverts_at k (reverse network)) → HavePids network →
    filter (is_off (touched k (reverse network))) (spliced_network k network) ≡ filter (is_off (touched k (reverse network))) network

-- THE LAW OF FAULTLESS NETWORKS: where those who read the cues of a network find no fault in it, its switched streams are apart, and each is
-- listed once
pub record IsSwitchable (k : Setting) (past : List (List ℕ)) : Type 0 where
  pub apart : TablesAreApart k past
  pub once : (pid : ℕ) → is_among pid (switched_at k past) ≡ true → IsOnce pid (switched_at k past)

abbrev pub FaultlessIsSound : Type 0
FaultlessIsSound = (k : Setting) (past : List (List ℕ)) → first_fault (cues_read_on (Some k.program) k.cue_pid) past ≡ None → IsSwitchable k past
