use Rattle.unit_cut.proofs.InOrder.{cut_grows}
use Rattle.unit_cut.proofs.laws.cut_grows.Goals as goal

pub returns : goal.returns
returns c = cut_grows
