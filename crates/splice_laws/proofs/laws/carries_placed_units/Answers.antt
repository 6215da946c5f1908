use Rattle.splice_laws.proofs.PidLaws.{carries_placed_units}
use Rattle.splice_laws.proofs.laws.carries_placed_units.Goals as goal

pub returns : goal.returns
returns c = carries_placed_units
