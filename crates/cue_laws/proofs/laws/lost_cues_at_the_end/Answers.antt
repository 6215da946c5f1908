use Rattle.cue_laws.proofs.Lost.{lost_cues_at_the_end}
use Rattle.cue_laws.proofs.laws.lost_cues_at_the_end.Goals as goal

pub returns : goal.returns
returns c = lost_cues_at_the_end
