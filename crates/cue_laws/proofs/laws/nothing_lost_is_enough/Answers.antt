use Rattle.cue_laws.proofs.Enough.{nothing_lost_is_enough}
use Rattle.cue_laws.proofs.laws.nothing_lost_is_enough.Goals as goal

pub returns : goal.returns
returns c = nothing_lost_is_enough
