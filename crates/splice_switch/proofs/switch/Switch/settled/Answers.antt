use Rattle.splice_plans.specs.Adverts.{setting_of}
use Rattle.splice_plans.specs.Stepping.{steps_at}
use Rattle.splice_switch.proofs.switch.Switch.settled.Goals as goal

pub returns : goal.returns
returns c = λ d filed past h. c.settled.ensures (setting_of d filed) past (steps_at (setting_of d filed) past) h.playing
