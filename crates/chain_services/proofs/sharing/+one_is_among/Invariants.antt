use Rattle.std.proofs.Common.{length}
use Rattle.chain_services.proofs.sharing.+one_is_among.Given as goal

-- proposed from what the function passes where it calls itself
abbrev pub decreases-one_is_among : goal.decreases-one_is_among
decreases-one_is_among l = length l.ours.now
