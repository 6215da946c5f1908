use Rattle.splice_laws.proofs.SpliceLemmas.{placed_is_splice}
use Rattle.splice_laws.proofs.laws.placed_is_splice.Goals as goal

pub returns : goal.returns
returns c = placed_is_splice
