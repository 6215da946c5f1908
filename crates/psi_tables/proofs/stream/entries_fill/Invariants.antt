use Rattle.std.proofs.Common.{◌≡◌, is_some, length}
use Rattle.psi_tables.specs.Runs.{run_of}
use Rattle.psi_tables.specs.Streams.{entry_at}
use Rattle.psi_tables.proofs.stream.entries_fill.Given as goal

-- what is left fills its bytes where all does
abbrev pub invariant-loop-rest : goal.invariant-loop-rest
invariant-loop-rest l = is_some (run_of entry_at l.rest) ≡ is_some (run_of entry_at l.bytes)

abbrev pub decreases-loop-rest : goal.decreases-loop-rest
decreases-loop-rest l = length l.rest
