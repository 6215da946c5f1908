use Rattle.unit_cut.proofs.CutOthers.{cut_leaves_others}
use Rattle.unit_cut.proofs.laws.cut_leaves_others.Goals as goal

pub returns : goal.returns
returns c = cut_leaves_others
