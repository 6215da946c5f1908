use Rattle.break_scripts.proofs.LineLemmas.{rise}
use Rattle.break_scripts.proofs.laws.lines_rise.Goals as goal

pub returns : goal.returns
returns c = rise
