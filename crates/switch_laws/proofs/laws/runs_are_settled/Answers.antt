use Rattle.switch_laws.proofs.RunLemmas.{runs_are_settled}
use Rattle.switch_laws.proofs.laws.runs_are_settled.Goals as goal

pub returns : goal.returns
returns c = runs_are_settled
