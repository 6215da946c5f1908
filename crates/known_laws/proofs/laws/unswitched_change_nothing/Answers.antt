use Rattle.known_laws.proofs.OtherLemmas.{unswitched_change_nothing}
use Rattle.known_laws.proofs.laws.unswitched_change_nothing.Goals as goal

pub returns : goal.returns
returns c = unswitched_change_nothing
