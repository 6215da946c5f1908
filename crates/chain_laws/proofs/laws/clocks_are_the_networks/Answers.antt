use Rattle.chain_laws.proofs.ClockLemmas.{clocks_are_the_networks}
use Rattle.chain_laws.proofs.laws.clocks_are_the_networks.Goals as goal

pub returns : goal.returns
returns c = clocks_are_the_networks
