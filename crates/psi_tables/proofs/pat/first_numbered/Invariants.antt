use Rattle.std.proofs.Common.{◌≡◌, length}
use Rattle.psi_tables.specs.Runs.{things_of}
use Rattle.psi_tables.specs.Association.{pair_at, first_program_of}
use Rattle.psi_tables.proofs.pat.first_numbered.Given as goal

-- what is found in what is left is what is found in all
abbrev pub invariant-loop-number : goal.invariant-loop-number
invariant-loop-number l = first_program_of (things_of pair_at l.rest) ≡ first_program_of (things_of pair_at l.pairs)

abbrev pub decreases-loop-number : goal.decreases-loop-number
decreases-loop-number l = length l.rest
