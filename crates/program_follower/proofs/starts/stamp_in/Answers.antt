use Rattle.std.proofs.Common.{sym}
use Rattle.program_follower.proofs.PieceLemmas.{split_none}
use Rattle.program_follower.proofs.starts.stamp_in.Goals as goal

pub returns-in-Err : goal.returns-in-Err
returns-in-Err c = sym (split_none c.args.payload.now c.in-Err.ensures.split)
