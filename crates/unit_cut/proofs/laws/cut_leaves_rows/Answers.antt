use Rattle.unit_cut.proofs.CutRows.{cut_leaves_rows}
use Rattle.unit_cut.proofs.laws.cut_leaves_rows.Goals as goal

pub returns : goal.returns
returns c = cut_leaves_rows
