use Rattle.switch_laws.proofs.ClockLemmas.{clocks_stay}
use Rattle.switch_laws.proofs.laws.clocks_stay.Goals as goal

pub returns : goal.returns
returns c = clocks_stay
