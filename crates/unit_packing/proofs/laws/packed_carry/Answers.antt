use Rattle.unit_packing.proofs.ReadBackLemmas.{carry_one}
use Rattle.unit_packing.proofs.laws.packed_carry.Goals as goal

pub returns : goal.returns
returns c = carry_one
