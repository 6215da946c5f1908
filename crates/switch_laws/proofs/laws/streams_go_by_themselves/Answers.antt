use Rattle.switch_laws.proofs.SplitLemmas.{streams_go_by_themselves}
use Rattle.switch_laws.proofs.laws.streams_go_by_themselves.Goals as goal

pub returns : goal.returns
returns c = streams_go_by_themselves
