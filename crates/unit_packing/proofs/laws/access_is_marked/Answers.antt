use Rattle.unit_packing.proofs.UnitPacketLemmas.{access_marked}
use Rattle.unit_packing.proofs.laws.access_is_marked.Goals as goal

pub returns : goal.returns
returns c = access_marked
