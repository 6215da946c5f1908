use Rattle.chain_laws.proofs.UnchangedLemmas.{others_are_unchanged}
use Rattle.chain_laws.proofs.laws.others_are_unchanged.Goals as goal

pub returns : goal.returns
returns c = others_are_unchanged
