use Rattle.program_follower.specs.Program.{program_of, behind_head}
use Rattle.program_follower.specs.Streaming.{StartsRead}
use Rattle.program_follower.proofs.FollowLemmas.{high_none}
use Rattle.program_follower.proofs.start_follower.StartFollower.high.Goals as goal

pub returns-in-None : goal.returns-in-None
returns-in-None c = λ k past h. high_none StartsRead c.args.self.now.streams (program_of k.program past) (behind_head k.program past) c.in-None.is h.streams
