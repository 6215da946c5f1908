use Rattle.program_follower.specs.Purposes.{reading_cues}
use Rattle.splice_switch.proofs.switch.Switch.start_at.Goals as goal

pub returns-clause-stands : goal.returns-clause-stands
returns-clause-stands c = λ d filed past h at. c.start_at.ensures (reading_cues d) past h.follower at
