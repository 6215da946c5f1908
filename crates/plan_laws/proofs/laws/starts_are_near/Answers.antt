use Rattle.plan_laws.proofs.TimeLemmas.{starts_are_near}
use Rattle.plan_laws.proofs.laws.starts_are_near.Goals as goal

pub returns : goal.returns
returns c = starts_are_near
