use Rattle.cue_laws.proofs.Chosen.{cued_grows}
use Rattle.cue_laws.proofs.laws.cued_grows.Goals as goal

pub returns : goal.returns
returns c = cued_grows
