use Rattle.service_laws.proofs.OwnLemmas.{own_rest_stays}
use Rattle.service_laws.proofs.laws.own_rest_stays.Goals as goal

pub returns : goal.returns
returns c = own_rest_stays
