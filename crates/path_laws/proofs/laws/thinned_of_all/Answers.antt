use Rattle.path_laws.proofs.Thinned.{thinned_of_all}
use Rattle.path_laws.proofs.laws.thinned_of_all.Goals as goal

pub returns : goal.returns
returns c = thinned_of_all
