use Rattle.splice_laws.proofs.TableLemmas.{nothing_late}
use Rattle.splice_laws.proofs.laws.nothing_late.Goals as goal

pub returns : goal.returns
returns c = nothing_late
