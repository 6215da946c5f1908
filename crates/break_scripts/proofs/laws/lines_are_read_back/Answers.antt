use Rattle.break_scripts.proofs.LineLemmas.{read_back}
use Rattle.break_scripts.proofs.laws.lines_are_read_back.Goals as goal

pub returns : goal.returns
returns c = read_back
