use Rattle.std.proofs.Common.{length}
use Rattle.services_on_air.proofs.services.+begun_of.Given as goal

-- proposed from what the function passes where it calls itself
abbrev pub decreases-begun_of : goal.decreases-begun_of
decreases-begun_of l = length l.services.now
