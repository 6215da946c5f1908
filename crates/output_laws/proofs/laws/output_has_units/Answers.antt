use Rattle.output_laws.proofs.UnitLemmas.{output_has_units}
use Rattle.output_laws.proofs.laws.output_has_units.Goals as goal

pub returns : goal.returns
returns c = output_has_units
