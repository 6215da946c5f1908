use Rattle.unit_stream.proofs.UnitLemmas.{units_grow}
use Rattle.unit_stream.proofs.laws.units_grow.Goals as goal

pub returns : goal.returns
returns c = units_grow
