use Rattle.plan_laws.proofs.NothingLemmas.{nothing_stands}
use Rattle.plan_laws.proofs.laws.nothing_stands.Goals as goal

pub returns : goal.returns
returns c = nothing_stands
