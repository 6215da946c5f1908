use Rattle.std.proofs.Common.{length}
use Rattle.services_on_air.proofs.services.+lost_of.Given as goal

-- proposed from what the function passes where it calls itself
abbrev pub decreases-lost_of : goal.decreases-lost_of
decreases-lost_of l = length l.services.now
