use Rattle.switch_laws.proofs.RunLemmas.{rows_are_spliced}
use Rattle.switch_laws.proofs.laws.rows_are_spliced.Goals as goal

pub returns : goal.returns
returns c = rows_are_spliced
