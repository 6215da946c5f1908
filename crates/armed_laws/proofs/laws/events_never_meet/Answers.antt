use Rattle.armed_laws.proofs.Proofs.{events_never_meet}
use Rattle.armed_laws.proofs.laws.events_never_meet.Goals as goal

pub returns : goal.returns
returns c = events_never_meet
