use Rattle.splice_laws.proofs.PlacedLemmas.{counted_is_placed}
use Rattle.splice_laws.proofs.laws.counted_is_placed.Goals as goal

pub returns : goal.returns
returns c = counted_is_placed
