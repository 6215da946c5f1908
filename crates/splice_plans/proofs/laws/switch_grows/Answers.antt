use Rattle.splice_plans.proofs.GrowLemmas.{switch_grows}
use Rattle.splice_plans.proofs.laws.switch_grows.Goals as goal

pub returns : goal.returns
returns c = switch_grows
