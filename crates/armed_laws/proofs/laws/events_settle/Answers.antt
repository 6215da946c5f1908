use Rattle.armed_laws.proofs.Proofs.{events_settle}
use Rattle.armed_laws.proofs.laws.events_settle.Goals as goal

pub returns : goal.returns
returns c = events_settle
