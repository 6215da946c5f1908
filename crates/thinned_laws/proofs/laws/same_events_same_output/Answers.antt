use Rattle.thinned_laws.proofs.Runs.{same_events_same_output}
use Rattle.thinned_laws.proofs.laws.same_events_same_output.Goals as goal

pub returns : goal.returns
returns c = same_events_same_output
