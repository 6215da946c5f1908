use Rattle.program_laws.proofs.UnitLemmas.{others_are_no_units}
use Rattle.program_laws.proofs.laws.others_are_no_units.Goals as goal

pub returns : goal.returns
returns c = others_are_no_units
