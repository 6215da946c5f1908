use Rattle.std.proofs.Common.{length}
use Rattle.services_on_air.proofs.settling.+settle_each.Given as goal

-- proposed from what the function passes where it calls itself
abbrev pub decreases-settle_each : goal.decreases-settle_each
decreases-settle_each g l = length l.services.now
