use Rattle.switch_laws.proofs.SliceLemmas.{slices_go_to_an_end}
use Rattle.switch_laws.proofs.laws.slices_go_to_an_end.Goals as goal

pub returns : goal.returns
returns c = slices_go_to_an_end
