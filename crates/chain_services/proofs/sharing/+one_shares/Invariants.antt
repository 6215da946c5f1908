use Rattle.std.proofs.Common.{length}
use Rattle.chain_services.proofs.sharing.+one_shares.Given as goal

-- proposed from what the function passes where it calls itself
abbrev pub decreases-one_shares : goal.decreases-one_shares
decreases-one_shares l = length l.others.now
