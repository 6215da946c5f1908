use Rattle.switch_laws.proofs.OtherLemmas.{others_stay}
use Rattle.switch_laws.proofs.laws.others_stay.Goals as goal

pub returns : goal.returns
returns c = others_stay
