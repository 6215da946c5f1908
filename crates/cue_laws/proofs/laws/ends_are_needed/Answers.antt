use Rattle.cue_laws.proofs.Needed.{ends_are_needed}
use Rattle.cue_laws.proofs.laws.ends_are_needed.Goals as goal

pub returns : goal.returns
returns c = ends_are_needed
