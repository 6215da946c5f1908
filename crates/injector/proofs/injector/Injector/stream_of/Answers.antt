use Rattle.injector.specs.Steps.{packets_in}
use Rattle.program_follower.specs.Purposes.{writing_cues}
use Rattle.injector.proofs.injector.Injector.stream_of.Goals as goal

pub returns-clause-place : goal.returns-clause-place
returns-clause-place c = λ d past h. c.stream_of.ensures.place (writing_cues d) (packets_in past) h.follower
