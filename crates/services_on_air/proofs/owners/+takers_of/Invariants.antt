use Rattle.std.proofs.Common.{length}
use Rattle.services_on_air.proofs.owners.+takers_of.Given as goal

abbrev pub decreases-takers_of : goal.decreases-takers_of
decreases-takers_of l = length l.services.now
