use Rattle.output_laws.proofs.SplicedLemmas.{spliced_has_units}
use Rattle.output_laws.proofs.laws.spliced_has_units.Goals as goal

pub returns : goal.returns
returns c = spliced_has_units
