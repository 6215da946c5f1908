use Rattle.std.proofs.Common.{length}
use Rattle.chain_services.proofs.owners.+waiting_in.Given as goal

abbrev pub decreases-waiting_in : goal.decreases-waiting_in
decreases-waiting_in l = length l.services.now
