use Rattle.std.proofs.Common.{length}
use Rattle.chain_services.proofs.sharing.+is_among.Given as goal

-- proposed from what the function passes where it calls itself
abbrev pub decreases-is_among : goal.decreases-is_among
decreases-is_among l = length l.pids.now
