-- What a reader of the output finds in its tables, and on the PID of the cues.
use Rattle.std.specs.Prelude.{◌≡◌, ℕ, ◌++◌, List, [], Option, Some, length, drop, map, filter, reverse}
use Rattle.ts_packet.specs.Fields.{on}
use Rattle.psi_tables.specs.declared.config.Config.{Config}
use Rattle.program_follower.specs.declared.purpose.Listed.{Listed}
use Rattle.program_follower.specs.Program.{listed, since_pat, Table, all_tables}
use Rattle.program_laws.specs.Writing.{packets_out}
use Rattle.ad_library.specs.Advertisements.{Advertisement}
use Rattle.injector.specs.Steps.{Step, packets_in}
use Rattle.chain_laws.specs.Runs.{output_by, IsWholeRun}

-- the PAT gives the program the same PID for its PMT; behind it stand on that PID the network's sections, all of them, in their order, byte for
-- byte; and no packet is of the cue PID, but those that are marked in error
pub record HasTables (c : Config) (filed : ℕ → Option Advertisement) (steps : List Step) : Type 0 where
  pub pat : listed (Some c.program) (reverse (output_by c filed steps)) ≡ listed (Some c.program) (packets_in steps)
  pub tables : all_tables (Some c.program) (reverse (output_by c filed steps)) ≡ all_tables (Some c.program) (packets_in steps)
  pub no_cues : filter (on c.cue_pid) (output_by c filed steps) ≡ []

-- THE LAW OF TABLES, on any network without a fault: the entry for the cues is gone again, and they are
abbrev pub TablesAreTheNetworks : Type 0
TablesAreTheNetworks = (c : Config) (filed : ℕ → Option Advertisement) (steps : List Step) → IsWholeRun c filed steps → HasTables c filed steps

-- ---- the PID of the PMT

-- the packets up to the PAT that lists the program, the last of which finishes it, newest first
abbrev pub up_to_pat : Option ℕ → List (List ℕ) → List (List ℕ)
up_to_pat wanted past = drop (length (since_pat wanted past)) past

-- the network's packets of the PID up to the PAT, byte for byte, and then all sections behind it, in their order, each in packets of its own
-- (ISO/IEC 13818-1, 2.4.4.1), whose counters go on from the last of these
abbrev pub pmt_packets : Config → List Step → ℕ → List (List ℕ)
pmt_packets c steps pid =
    filter (on pid) (reverse (up_to_pat (Some c.program) (packets_in steps)))
    ++ packets_out pid (up_to_pat (Some c.program) (packets_in steps)) (map (λ (t : Table). t.section) (all_tables (Some c.program) (packets_in steps)))

-- THE LAW OF THE PMT'S PID: these are the output's packets there, but those that are marked in error
abbrev pub PmtIsSections : Type 0
PmtIsSections = (c : Config) (filed : ℕ → Option Advertisement) (steps : List Step) → IsWholeRun c filed steps →
    (l : Listed) → listed (Some c.program) (packets_in steps) ≡ Some l → filter (on l.pid) (output_by c filed steps) ≡ pmt_packets c steps l.pid
