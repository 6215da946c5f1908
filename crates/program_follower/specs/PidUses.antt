-- What a follower keeps of each PID, and what that says of the packets on it.
use Rattle.std.specs.Prelude.{◌≡◌, ◌≢◌, ◌<◌, ◌≤◌, ℕ, ◌+◌, List, false, slice_index_or}
use Rattle.ts_packet.specs.Fields.{in_error, pid_of}
use Rattle.program_follower.specs.declared.pid_uses.PidUse.{PidUse}
use Rattle.program_follower.specs.declared.pid_uses.PidUse.TheVariants.{Table, Stream, Other}
use Rattle.program_follower.specs.declared.purpose.Purpose.{Purpose}
use Rattle.program_follower.specs.Program.{pmt_pid_of, program_of, pids_of}
use Rattle.program_follower.specs.Standing.{or_zero}
use Rattle.program_follower.specs.Streaming.{place_in, numbered}

-- a number above those of the places of eight streams stands for a PID of tables or cues
abbrev pub IsTablePid : ℕ → Type 0
IsTablePid number = 8 < number

-- what a PID is under which this number stands
abbrev pub IsUse : PidUse → ℕ → Type 0
IsUse Table number = IsTablePid number
IsUse (Stream place) number = (number ≡ place + 1) × (number ≤ 8)
IsUse Other number = number ≡ 0

-- under each PID (ISO/IEC 13818-1, 2.4.3.3: 13 bits) that is none of tables or cues the table has the place of each packet on it that is not
-- marked in error
abbrev pub HasPlacesElsewhere : List ℕ → List ℕ → Type 0
HasPlacesElsewhere numbers pids = (p : List ℕ) → in_error p ≡ false → pid_of p < 8192 → slice_index_or numbers (pid_of p) 0 ≤ 8
    → slice_index_or numbers (pid_of p) 0 ≡ numbered (place_in pids p)

-- The table tells the PIDs of the PAT (ISO/IEC 13818-1, 2.4.4.3: 0), of the cues and of the map, and no other as such, and those of the switched
-- streams.
pub record HasUses (numbers : List ℕ) (c : Purpose) (past : List (List ℕ)) : Type 0 where
  pub pat : IsTablePid (slice_index_or numbers 0 0)
  pub cue : IsTablePid (slice_index_or numbers (or_zero c.cue_pid) 0)
  pub map : IsTablePid (slice_index_or numbers (or_zero (pmt_pid_of c.program past)) 0)
  pub rest : (pid : ℕ) → pid < 8192 → pid ≢ 0 → pid ≢ or_zero c.cue_pid → pid ≢ or_zero (pmt_pid_of c.program past) → slice_index_or numbers pid 0 ≤ 8
  pub places : HasPlacesElsewhere numbers (pids_of (program_of c.program past))
