use Rattle.unit_cut.proofs.CutUnits.{cut_leaves_units}
use Rattle.unit_cut.proofs.laws.cut_leaves_units.Goals as goal

pub returns : goal.returns
returns c = cut_leaves_units
