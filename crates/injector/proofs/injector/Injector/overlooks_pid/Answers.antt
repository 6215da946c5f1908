use Rattle.injector.specs.Steps.{packets_in}
use Rattle.program_follower.specs.Purposes.{writing_cues}
use Rattle.injector.proofs.injector.Injector.overlooks_pid.Goals as goal

pub returns : goal.returns
returns c = λ cfg past h none. c.overlooks.ensures (writing_cues cfg) (packets_in past) h.follower none
