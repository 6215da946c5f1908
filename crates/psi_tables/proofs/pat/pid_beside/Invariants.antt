use Rattle.std.proofs.Common.{◌≡◌, length}
use Rattle.psi_tables.specs.Runs.{things_of}
use Rattle.psi_tables.specs.Association.{pair_at, pid_of_program}
use Rattle.psi_tables.proofs.pat.pid_beside.Given as goal

-- what is found in what is left is what is found in all
abbrev pub invariant-loop-found : goal.invariant-loop-found
invariant-loop-found l = pid_of_program l.number (things_of pair_at l.rest) ≡ pid_of_program l.number (things_of pair_at l.pairs)

abbrev pub decreases-loop-found : goal.decreases-loop-found
decreases-loop-found l = length l.rest
