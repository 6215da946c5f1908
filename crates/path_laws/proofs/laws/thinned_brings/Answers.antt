use Rattle.path_laws.proofs.Thinned.{thinned_brings}
use Rattle.path_laws.proofs.laws.thinned_brings.Goals as goal

pub returns : goal.returns
returns c = thinned_brings
