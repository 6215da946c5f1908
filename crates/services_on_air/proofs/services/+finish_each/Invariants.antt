use Rattle.std.proofs.Common.{length}
use Rattle.services_on_air.proofs.services.+finish_each.Given as goal

-- proposed from what the function passes where it calls itself
abbrev pub decreases-finish_each : goal.decreases-finish_each
decreases-finish_each g l = length l.services.now
