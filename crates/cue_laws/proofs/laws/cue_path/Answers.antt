use Rattle.cue_laws.proofs.Path.{cue_path}
use Rattle.cue_laws.proofs.laws.cue_path.Goals as goal

pub returns : goal.returns
returns c = cue_path
