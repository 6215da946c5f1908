use Rattle.splice_laws.proofs.PlacedLemmas.{carried_is_placed}
use Rattle.splice_laws.proofs.laws.carried_is_placed.Goals as goal

pub returns : goal.returns
returns c = carried_is_placed
