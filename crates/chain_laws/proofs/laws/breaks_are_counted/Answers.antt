use Rattle.chain_laws.proofs.UnchangedLemmas.{breaks_are_counted}
use Rattle.chain_laws.proofs.laws.breaks_are_counted.Goals as goal

pub returns : goal.returns
returns c = breaks_are_counted
