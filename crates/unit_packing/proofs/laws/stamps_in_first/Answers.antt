use Rattle.unit_packing.proofs.StampLemmas.{stamps_in_first}
use Rattle.unit_packing.proofs.laws.stamps_in_first.Goals as goal

pub returns : goal.returns
returns c = stamps_in_first
