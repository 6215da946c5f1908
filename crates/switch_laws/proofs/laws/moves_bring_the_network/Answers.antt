use Rattle.switch_laws.proofs.BringLemmas.{moves_bring_the_network}
use Rattle.switch_laws.proofs.laws.moves_bring_the_network.Goals as goal

pub returns : goal.returns
returns c = moves_bring_the_network
