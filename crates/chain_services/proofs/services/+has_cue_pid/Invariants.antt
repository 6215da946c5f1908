use Rattle.std.proofs.Common.{length}
use Rattle.chain_services.proofs.services.+has_cue_pid.Given as goal

-- proposed from what the function passes where it calls itself
abbrev pub decreases-has_cue_pid : goal.decreases-has_cue_pid
decreases-has_cue_pid l = length l.configs.now
