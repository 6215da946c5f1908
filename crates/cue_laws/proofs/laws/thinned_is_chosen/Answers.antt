use Rattle.cue_laws.proofs.Chosen.{thinned_is_chosen}
use Rattle.cue_laws.proofs.laws.thinned_is_chosen.Goals as goal

pub returns : goal.returns
returns c = thinned_is_chosen
