use Rattle.std.proofs.Common.{sym}
use Rattle.random_access.proofs.PointLemmas.{split_unstamped}
use Rattle.random_access.proofs.reader.stamp.Goals as goal

pub returns-in-Err : goal.returns-in-Err
returns-in-Err c = sym (split_unstamped c.args.payload.now c.in-Err.ensures.split)
