use Rattle.unit_packing.proofs.ReadBackLemmas.{read_back}
use Rattle.unit_packing.proofs.laws.packed_read_back.Goals as goal

pub returns : goal.returns
returns c = read_back
