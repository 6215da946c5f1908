use Rattle.std.proofs.Common.{length}
use Rattle.chain_services.proofs.services.+has_program.Given as goal

-- proposed from what the function passes where it calls itself
abbrev pub decreases-has_program : goal.decreases-has_program
decreases-has_program l = length l.configs.now
