use Rattle.switch_laws.proofs.FaultlessLemmas.{faultless_is_sound}
use Rattle.switch_laws.proofs.laws.faultless_is_sound.Goals as goal

pub returns : goal.returns
returns c = faultless_is_sound
