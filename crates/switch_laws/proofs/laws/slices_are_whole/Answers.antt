use Rattle.switch_laws.proofs.SliceLemmas.{slices_are_whole}
use Rattle.switch_laws.proofs.laws.slices_are_whole.Goals as goal

pub returns : goal.returns
returns c = slices_are_whole
