use Rattle.thinned_laws.proofs.Reports.{same_events_same_network}
use Rattle.thinned_laws.proofs.laws.same_events_same_network.Goals as goal

pub returns : goal.returns
returns c = same_events_same_network
