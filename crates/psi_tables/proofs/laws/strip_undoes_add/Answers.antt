use Rattle.psi_tables.proofs.UndoLemmas.{undone}
use Rattle.psi_tables.proofs.laws.strip_undoes_add.Goals as goal

pub returns : goal.returns
returns c = undone
