use Rattle.armed_laws.proofs.Proofs.{events_grow}
use Rattle.armed_laws.proofs.laws.events_grow.Goals as goal

pub returns : goal.returns
returns c = events_grow
