use Rattle.unit_packing.proofs.UnitPacketLemmas.{all_plain}
use Rattle.unit_packing.proofs.laws.packets_are_plain.Goals as goal

pub returns : goal.returns
returns c = all_plain
