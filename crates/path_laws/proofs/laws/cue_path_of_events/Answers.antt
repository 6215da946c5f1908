use Rattle.path_laws.proofs.Proofs.{cue_path_of_events}
use Rattle.path_laws.proofs.laws.cue_path_of_events.Goals as goal

pub returns : goal.returns
returns c = cue_path_of_events
