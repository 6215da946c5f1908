use Rattle.program_follower.proofs.UseLemmas.{all_tables}
use Rattle.program_follower.proofs.pid_uses.PidUses.watch_all.Goals as goal

pub returns : goal.returns
returns c = all_tables
