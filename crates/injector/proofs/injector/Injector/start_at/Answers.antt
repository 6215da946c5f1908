use Rattle.injector.specs.Steps.{packets_in}
use Rattle.program_follower.specs.Purposes.{writing_cues}
use Rattle.injector.proofs.injector.Injector.start_at.Goals as goal

pub returns : goal.returns
returns c = λ d past h at. c.start_at.ensures (writing_cues d) (packets_in past) h.follower at
