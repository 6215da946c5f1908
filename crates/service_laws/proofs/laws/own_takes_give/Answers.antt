use Rattle.service_laws.proofs.TakeLemmas.{own_takes_give}
use Rattle.service_laws.proofs.laws.own_takes_give.Goals as goal

pub returns : goal.returns
returns c = own_takes_give
