use Rattle.plan_laws.proofs.LyingLemmas.{units_lie_as_left}
use Rattle.plan_laws.proofs.laws.units_lie_as_left.Goals as goal

pub returns : goal.returns
returns c = units_lie_as_left
