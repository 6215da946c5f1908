use Rattle.switch_laws.proofs.StreamLemmas.{placed_is_carried}
use Rattle.switch_laws.proofs.laws.placed_is_carried.Goals as goal

pub returns : goal.returns
returns c = placed_is_carried
