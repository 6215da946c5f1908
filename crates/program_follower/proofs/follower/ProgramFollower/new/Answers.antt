use Rattle.std.proofs.Common.{refl}
use Rattle.program_follower.proofs.follower.ProgramFollower.new.Goals as goal

pub returns : goal.returns
returns c = record { tables = c.new.ensures.reads; shows = c.new.ensures.shows; streams = tt; whole = refl }
