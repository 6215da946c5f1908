use Rattle.chain_laws.proofs.UnchangedLemmas.{order_is_the_networks}
use Rattle.chain_laws.proofs.laws.order_is_the_networks.Goals as goal

pub returns : goal.returns
returns c = order_is_the_networks
