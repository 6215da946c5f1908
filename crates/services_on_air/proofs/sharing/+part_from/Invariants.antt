use Rattle.std.proofs.Common.{length}
use Rattle.services_on_air.proofs.sharing.+part_from.Given as goal

-- proposed from what the function passes where it calls itself
abbrev pub decreases-part_from : goal.decreases-part_from
decreases-part_from g l = length l.others.now
