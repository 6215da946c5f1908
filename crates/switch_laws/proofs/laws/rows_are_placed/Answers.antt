use Rattle.switch_laws.proofs.RunLemmas.{rows_are_placed}
use Rattle.switch_laws.proofs.laws.rows_are_placed.Goals as goal

pub returns : goal.returns
returns c = rows_are_placed
