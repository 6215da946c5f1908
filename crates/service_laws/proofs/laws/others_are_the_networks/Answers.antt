use Rattle.service_laws.proofs.IsolationLemmas.{others_are_the_networks}
use Rattle.service_laws.proofs.laws.others_are_the_networks.Goals as goal

pub returns : goal.returns
returns c = others_are_the_networks
