use Rattle.plan_laws.proofs.TimeLemmas.{others_lie_as_before}
use Rattle.plan_laws.proofs.laws.others_lie_as_before.Goals as goal

pub returns : goal.returns
returns c = others_lie_as_before
