use Rattle.std.proofs.Common.{length}
use Rattle.services_on_air.proofs.services.+add_services.Given as goal

-- proposed from what the function passes where it calls itself
abbrev pub decreases-add_services : goal.decreases-add_services
decreases-add_services g l = length l.configs.now
