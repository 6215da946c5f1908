use Rattle.chain_laws.proofs.TableLemmas.{tables_are_the_networks}
use Rattle.chain_laws.proofs.laws.tables_are_the_networks.Goals as goal

pub returns : goal.returns
returns c = tables_are_the_networks
