use Rattle.std.proofs.Common.{length}
use Rattle.services_on_air.proofs.desk.+ask_own.Given as goal

-- proposed from what the function passes where it calls itself
abbrev pub decreases-ask_own : goal.decreases-ask_own
decreases-ask_own l = length l.services.now
