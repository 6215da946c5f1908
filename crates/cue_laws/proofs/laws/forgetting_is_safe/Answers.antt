use Rattle.cue_laws.proofs.Forgetting.{forgetting_is_safe}
use Rattle.cue_laws.proofs.laws.forgetting_is_safe.Goals as goal

pub returns : goal.returns
returns c = forgetting_is_safe
