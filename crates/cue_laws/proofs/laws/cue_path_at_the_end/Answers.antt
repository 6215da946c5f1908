use Rattle.cue_laws.proofs.Path.{cue_path_at_the_end}
use Rattle.cue_laws.proofs.laws.cue_path_at_the_end.Goals as goal

pub returns : goal.returns
returns c = cue_path_at_the_end
