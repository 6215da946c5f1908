use Rattle.injector.specs.Steps.{packets_in}
use Rattle.program_follower.specs.Purposes.{writing_cues}
use Rattle.injector.proofs.injector.Injector.look.Goals as goal

pub returns : goal.returns
returns c = λ d past h. c.look.ensures (writing_cues d) (packets_in past) h.follower
