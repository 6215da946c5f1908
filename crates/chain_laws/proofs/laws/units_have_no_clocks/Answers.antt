use Rattle.chain_laws.proofs.ClockLemmas.{units_have_no_clocks}
use Rattle.chain_laws.proofs.laws.units_have_no_clocks.Goals as goal

pub returns : goal.returns
returns c = units_have_no_clocks
