use Rattle.known_laws.proofs.PassLemmas.{packets_pass}
use Rattle.known_laws.proofs.laws.packets_pass.Goals as goal

pub returns : goal.returns
returns c = packets_pass
