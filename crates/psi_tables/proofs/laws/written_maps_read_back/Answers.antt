use Rattle.psi_tables.proofs.laws.written_maps_read_back.Goals as goal
use Rattle.psi_tables.proofs.ReadBackLemmas.{maps_read_back}

pub returns : goal.returns
returns c = maps_read_back
