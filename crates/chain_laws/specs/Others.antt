-- What the output leaves as it was.
use Rattle.std.specs.Prelude.{◌≡◌, ℕ, ◌∷◌, ◌++◌, List, [], None, Some, filter, reverse, Option}
use Rattle.psi_tables.specs.declared.config.Config.{Config}
use Rattle.program_follower.specs.Program.{listed, all_tables}
use Rattle.ad_library.specs.Advertisements.{Advertisement}
use Rattle.injector.specs.Steps.{Step, packets_in}
use Rattle.output_laws.specs.Others.{is_off}
use Rattle.switch_laws.specs.Whole.{pmt_pids}
use Rattle.chain_laws.specs.Runs.{network_of, switched_by, played_by, output_by, IsWholeRun}

-- the PID of the cues, and that of the PMT where the PAT lists the program
abbrev pub table_pids_by : Config → List Step → List ℕ
table_pids_by c steps = c.cue_pid ∷ pmt_pids (listed (Some c.program) (packets_in steps))

-- these, and the PIDs of the switched streams
abbrev pub touched_by : Config → List Step → List ℕ
touched_by c steps = table_pids_by c steps ++ switched_by c steps

-- THE LAW OF OTHER PACKETS: those marked in error, and those of all PIDs but the switched ones, the PMT's and that of the cues, are one list,
-- byte for byte, in their order
abbrev pub OthersAreUnchanged : Type 0
OthersAreUnchanged = (c : Config) (filed : ℕ → Option Advertisement) (steps : List Step) → IsWholeRun c filed steps →
    filter (is_off (touched_by c steps)) (output_by c filed steps) ≡ filter (is_off (touched_by c steps)) (network_of steps)

-- THE LAW OF NO PROGRAM: where no PAT lists the program, the output is the network
abbrev pub NoProgramIsNoChange : Type 0
NoProgramIsNoChange = (c : Config) (filed : ℕ → Option Advertisement) (steps : List Step) → IsWholeRun c filed steps →
    listed (Some c.program) (packets_in steps) ≡ None → output_by c filed steps ≡ network_of steps

-- what is left as it was where no break is played: every packet, byte for byte, in their order across all PIDs, but on the PID of the PMT;
-- there, and of the PAT, a reader finds the network's sections
pub record IsUnplayed (c : Config) (filed : ℕ → Option Advertisement) (steps : List Step) : Type 0 where
  pub packets : filter (is_off (table_pids_by c steps)) (output_by c filed steps) ≡ filter (is_off (table_pids_by c steps)) (network_of steps)
  pub pat : listed (Some c.program) (reverse (output_by c filed steps)) ≡ listed (Some c.program) (packets_in steps)
  pub tables : all_tables (Some c.program) (reverse (output_by c filed steps)) ≡ all_tables (Some c.program) (packets_in steps)

-- THE LAW OF NO PLAYED BREAK
abbrev pub NoBreakIsNoChange : Type 0
NoBreakIsNoChange = (c : Config) (filed : ℕ → Option Advertisement) (steps : List Step) → IsWholeRun c filed steps → played_by c filed steps ≡ [] → IsUnplayed c filed steps
