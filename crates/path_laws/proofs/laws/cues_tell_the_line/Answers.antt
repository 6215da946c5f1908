use Rattle.path_laws.proofs.Proofs.{cues_tell_the_line}
use Rattle.path_laws.proofs.laws.cues_tell_the_line.Goals as goal

pub returns : goal.returns
returns c = cues_tell_the_line
