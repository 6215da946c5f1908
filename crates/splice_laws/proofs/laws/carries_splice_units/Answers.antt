use Rattle.splice_laws.proofs.PidLaws.{carries_splice_units}
use Rattle.splice_laws.proofs.laws.carries_splice_units.Goals as goal

pub returns : goal.returns
returns c = carries_splice_units
