use Rattle.cue_laws.proofs.Enough.{no_start_refused}
use Rattle.cue_laws.proofs.laws.no_start_refused.Goals as goal

pub returns : goal.returns
returns c = no_start_refused
