use Rattle.std.proofs.Common.{length}
use Rattle.chain_services.proofs.services.+share_an_index.Given as goal

-- proposed from what the function passes where it calls itself
abbrev pub decreases-share_an_index : goal.decreases-share_an_index
decreases-share_an_index l = length l.configs.now
