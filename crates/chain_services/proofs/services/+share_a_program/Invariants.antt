use Rattle.std.proofs.Common.{length}
use Rattle.chain_services.proofs.services.+share_a_program.Given as goal

-- proposed from what the function passes where it calls itself
abbrev pub decreases-share_a_program : goal.decreases-share_a_program
decreases-share_a_program l = length l.configs.now
