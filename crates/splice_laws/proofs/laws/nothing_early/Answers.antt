use Rattle.splice_laws.proofs.TableLemmas.{nothing_early}
use Rattle.splice_laws.proofs.laws.nothing_early.Goals as goal

pub returns : goal.returns
returns c = nothing_early
