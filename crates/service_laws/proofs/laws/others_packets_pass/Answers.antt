use Rattle.service_laws.proofs.PassLemmas.{others_packets_pass}
use Rattle.service_laws.proofs.laws.others_packets_pass.Goals as goal

pub returns : goal.returns
returns c = others_packets_pass
