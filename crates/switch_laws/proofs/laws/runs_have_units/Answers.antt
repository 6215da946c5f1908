use Rattle.switch_laws.proofs.RunLemmas.{runs_have_units}
use Rattle.switch_laws.proofs.laws.runs_have_units.Goals as goal

pub returns : goal.returns
returns c = runs_have_units
