use Rattle.std.proofs.Common.{length}
use Rattle.chain_services.proofs.sharing.+share_a_pid.Given as goal

-- proposed from what the function passes where it calls itself
abbrev pub decreases-share_a_pid : goal.decreases-share_a_pid
decreases-share_a_pid l = length l.services.now
