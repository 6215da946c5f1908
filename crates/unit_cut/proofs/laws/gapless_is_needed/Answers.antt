use Rattle.unit_cut.proofs.GaplessNeeded.{gapless_is_needed}
use Rattle.unit_cut.proofs.laws.gapless_is_needed.Goals as goal

pub returns : goal.returns
returns c = gapless_is_needed
