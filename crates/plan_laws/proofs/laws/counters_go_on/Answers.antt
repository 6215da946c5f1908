use Rattle.plan_laws.proofs.JoinedLemmas.{counters_go_on}
use Rattle.plan_laws.proofs.laws.counters_go_on.Goals as goal

pub returns : goal.returns
returns c = counters_go_on
