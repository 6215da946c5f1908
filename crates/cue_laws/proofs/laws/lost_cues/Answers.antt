use Rattle.cue_laws.proofs.Lost.{lost_cues}
use Rattle.cue_laws.proofs.laws.lost_cues.Goals as goal

pub returns : goal.returns
returns c = lost_cues
