use Rattle.plan_laws.proofs.JoinedLemmas.{plans_go_on}
use Rattle.plan_laws.proofs.laws.plans_go_on.Goals as goal

pub returns : goal.returns
returns c = plans_go_on
