use Rattle.known_laws.proofs.ReportLemmas.{plans_tell_crossings}
use Rattle.known_laws.proofs.laws.plans_tell_crossings.Goals as goal

pub returns : goal.returns
returns c = plans_tell_crossings
