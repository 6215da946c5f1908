-- What is known of the PIDs of a run of packets, newest first: of each that has a packet its units, and nothing of the others.
use Rattle.std.specs.Prelude.{◌≡◌, ℕ, ◌<◌, List, [], ◌∷◌, Bool, true, false, ◌||◌, Option, None, Some, length, slice_index_or}
use Rattle.std.specs.Borrow.{Bor}
use Rattle.ts_packet.specs.Fields.{on}
use Rattle.random_access.specs.Points.{ReadsPoints}
use Rattle.stream_facts.specs.declared.pid_facts.PidFacts.{PidFacts}
use Rattle.stream_facts.specs.declared.pid_facts.PidTable.{PidTable}

-- a PID has a packet that is not marked in error
abbrev pub is_used : ℕ → List (List ℕ) → Bool
is_used pid [] = false
is_used pid (p ∷ past) = on pid p || is_used pid past

-- what is known of a PID, where it has a packet
abbrev pub IsPidKnown : Option PidFacts → ℕ → List (List ℕ) → Type 0
IsPidKnown None pid past = is_used pid past ≡ false
IsPidKnown (Some facts) pid past = (is_used pid past ≡ true) × ReadsPoints facts.points pid past

-- the same of what is lent
abbrev pub IsPidShown : Option (Bor PidFacts) → ℕ → List (List ℕ) → Type 0
IsPidShown None pid past = is_used pid past ≡ false
IsPidShown (Some facts) pid past = (is_used pid past ≡ true) × ReadsPoints facts.now.points pid past

-- of each PID it is known so
pub record KnowsPids (table : PidTable) (past : List (List ℕ)) : Type 0 where
  pub size : length table.slots.items ≡ 8192
  pub each : (pid : ℕ) (slot : Option PidFacts) → pid < 8192 → IsPidKnown (slice_index_or table.slots.items pid slot) pid past

abbrev pub OfPidsKnown : PidTable → (List (List ℕ) → Type 0) → Type 0
OfPidsKnown table says = (past : List (List ℕ)) → KnowsPids table past → says past
