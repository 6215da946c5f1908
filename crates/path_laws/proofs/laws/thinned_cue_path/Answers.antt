use Rattle.path_laws.proofs.Thinned.{thinned_cue_path}
use Rattle.path_laws.proofs.laws.thinned_cue_path.Goals as goal

pub returns : goal.returns
returns c = thinned_cue_path
