use Rattle.cue_laws.proofs.Enough.{cue_path_holders}
use Rattle.cue_laws.proofs.laws.cue_path_holders.Goals as goal

pub returns : goal.returns
returns c = cue_path_holders
