use Rattle.std.proofs.Common.{length}
use Rattle.services_on_air.proofs.sharing.+part_each.Given as goal

-- proposed from what the function passes where it calls itself
abbrev pub decreases-part_each : goal.decreases-part_each
decreases-part_each g l = length l.services.now
