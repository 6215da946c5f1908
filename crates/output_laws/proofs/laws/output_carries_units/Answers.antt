use Rattle.output_laws.proofs.CarryLemmas.{output_carries_units}
use Rattle.output_laws.proofs.laws.output_carries_units.Goals as goal

pub returns : goal.returns
returns c = output_carries_units
