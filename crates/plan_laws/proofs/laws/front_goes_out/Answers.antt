use Rattle.plan_laws.proofs.JoinedLemmas.{front_goes_out}
use Rattle.plan_laws.proofs.laws.front_goes_out.Goals as goal

pub returns : goal.returns
returns c = front_goes_out
