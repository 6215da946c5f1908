use Rattle.chain_laws.proofs.UnitSpliceLemmas.{placed_is_unit_splice}
use Rattle.chain_laws.proofs.laws.placed_is_unit_splice.Goals as goal

pub returns : goal.returns
returns c = placed_is_unit_splice
