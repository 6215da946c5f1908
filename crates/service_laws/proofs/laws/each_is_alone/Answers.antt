use Rattle.service_laws.proofs.IsolationLemmas.{each_is_alone}
use Rattle.service_laws.proofs.laws.each_is_alone.Goals as goal

pub returns : goal.returns
returns c = each_is_alone
