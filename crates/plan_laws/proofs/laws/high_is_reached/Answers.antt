use Rattle.plan_laws.proofs.TimeLemmas.{high_is_reached}
use Rattle.plan_laws.proofs.laws.high_is_reached.Goals as goal

pub returns : goal.returns
returns c = high_is_reached
