use Rattle.psi_tables.proofs.UndoLemmas.{checks}
use Rattle.psi_tables.proofs.laws.written_maps_check.Goals as goal

pub returns : goal.returns
returns c = checks
