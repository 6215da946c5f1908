use Rattle.cue_laws.proofs.Uncancelled.{uncancelled_events_agree}
use Rattle.cue_laws.proofs.laws.uncancelled_events_agree.Goals as goal

pub returns : goal.returns
returns c = uncancelled_events_agree
