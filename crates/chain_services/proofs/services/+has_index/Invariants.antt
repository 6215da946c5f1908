use Rattle.std.proofs.Common.{length}
use Rattle.chain_services.proofs.services.+has_index.Given as goal

-- proposed from what the function passes where it calls itself
abbrev pub decreases-has_index : goal.decreases-has_index
decreases-has_index l = length l.configs.now
