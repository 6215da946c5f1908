use Rattle.unit_cut.proofs.CutGapless.{cut_stays_gapless}
use Rattle.unit_cut.proofs.laws.cut_stays_gapless.Goals as goal

pub returns : goal.returns
returns c = cut_stays_gapless
