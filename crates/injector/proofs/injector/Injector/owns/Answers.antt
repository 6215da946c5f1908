use Rattle.program_follower.specs.Purposes.{writing_cues}
use Rattle.injector.specs.Steps.{packets_in}
use Rattle.injector.proofs.injector.Injector.owns.Goals as goal

-- the follower says so
pub returns : goal.returns
returns c = λ k past h. c.owns.ensures (writing_cues k) (packets_in past) h.follower
