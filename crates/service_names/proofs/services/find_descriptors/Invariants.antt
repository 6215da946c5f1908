use Rattle.std.proofs.Common.{◌≡◌, length}
use Rattle.psi_tables.specs.Runs.{things_of}
use Rattle.service_names.specs.Services.{service_at, descriptors_of}
use Rattle.service_names.proofs.services.find_descriptors.Given as goal

-- what is found in what is left is what is found in all
abbrev pub invariant-loop-found : goal.invariant-loop-found
invariant-loop-found l = descriptors_of l.number (things_of service_at l.rest) ≡ descriptors_of l.number (things_of service_at l.services)

abbrev pub decreases-loop-found : goal.decreases-loop-found
decreases-loop-found l = length l.rest
