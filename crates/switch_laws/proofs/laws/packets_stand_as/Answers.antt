use Rattle.switch_laws.proofs.StandingLemmas.{packets_stand_as}
use Rattle.switch_laws.proofs.laws.packets_stand_as.Goals as goal

pub returns : goal.returns
returns c = packets_stand_as
