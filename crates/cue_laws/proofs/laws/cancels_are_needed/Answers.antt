use Rattle.cue_laws.proofs.Needed.{cancels_are_needed}
use Rattle.cue_laws.proofs.laws.cancels_are_needed.Goals as goal

pub returns : goal.returns
returns c = cancels_are_needed
