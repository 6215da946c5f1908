use Rattle.std.proofs.Common.{◌≡◌, ◌+◌, ◌≤◌, ◌++◌, length, is_some, true}
use Rattle.psi_tables.specs.Runs.{run_of, things_of}
use Rattle.psi_tables.specs.Descriptors.{descriptor_at, without_registration}
use Rattle.psi_tables.specs.ProgramMap.{descriptors_bytes}
use Rattle.psi_tables.proofs.descriptors.before_registration.Given as goal

-- what is kept, and then what is to be kept of the rest, is what is to be kept of all
abbrev pub invariant-loop-front : goal.invariant-loop-front
invariant-loop-front l = record {
  sound : is_some (run_of descriptor_at l.rest) ≡ true;
  so_far : l.kept.items ++ descriptors_bytes (without_registration (things_of descriptor_at l.rest)) ≡ descriptors_bytes (without_registration (things_of descriptor_at l.bytes));
  room : length l.kept.items + length l.rest ≤ length l.bytes;
}

abbrev pub decreases-loop-front : goal.decreases-loop-front
decreases-loop-front l = length l.rest
