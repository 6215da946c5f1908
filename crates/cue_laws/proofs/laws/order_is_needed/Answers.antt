use Rattle.cue_laws.proofs.Needed.{order_is_needed}
use Rattle.cue_laws.proofs.laws.order_is_needed.Goals as goal

pub returns : goal.returns
returns c = order_is_needed
