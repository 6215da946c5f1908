use Rattle.unit_packing.proofs.UnitPacketLemmas.{packed}
use Rattle.unit_packing.proofs.laws.units_are_packed.Goals as goal

pub returns : goal.returns
returns c = packed
