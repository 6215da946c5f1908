use Rattle.std.proofs.Common.{length}
use Rattle.chain_services.proofs.owners.+tell_all.Given as goal

abbrev pub decreases-tell_all : goal.decreases-tell_all
decreases-tell_all l = length l.some.now
