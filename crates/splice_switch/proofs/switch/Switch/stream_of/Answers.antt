use Rattle.program_follower.specs.Purposes.{reading_cues}
use Rattle.splice_switch.proofs.switch.Switch.stream_of.Goals as goal

pub returns-clause-place : goal.returns-clause-place
returns-clause-place c = λ d filed past h. c.stream_of.ensures.place (reading_cues d) past h.follower
