use Rattle.switch_laws.proofs.RunLemmas.{runs_carry}
use Rattle.switch_laws.proofs.laws.runs_carry.Goals as goal

pub returns : goal.returns
returns c = runs_carry
