use Rattle.unit_cut.proofs.CutCarries.{cut_carries_units}
use Rattle.unit_cut.proofs.laws.cut_carries_units.Goals as goal

pub returns : goal.returns
returns c = cut_carries_units
