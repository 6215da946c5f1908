use Rattle.chain_laws.proofs.BreakLemmas.{breaks_are_armed}
use Rattle.chain_laws.proofs.laws.breaks_are_armed.Goals as goal

pub returns : goal.returns
returns c = breaks_are_armed
