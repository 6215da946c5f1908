use Rattle.std.proofs.Common.{length}
use Rattle.services_on_air.proofs.passing.+pass_each.Given as goal

-- proposed from what the function passes where it calls itself
abbrev pub decreases-pass_each : goal.decreases-pass_each
decreases-pass_each g l = length l.services.now
