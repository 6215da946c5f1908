use Rattle.service_laws.proofs.OwnLemmas.{own_packets_stay}
use Rattle.service_laws.proofs.laws.own_packets_stay.Goals as goal

pub returns : goal.returns
returns c = own_packets_stay
