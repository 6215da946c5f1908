use Rattle.cue_laws.proofs.Settling.{settlement}
use Rattle.cue_laws.proofs.laws.settlement.Goals as goal

pub returns : goal.returns
returns c = settlement
