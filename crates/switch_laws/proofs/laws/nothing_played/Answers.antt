use Rattle.switch_laws.proofs.RunLemmas.{nothing_played}
use Rattle.switch_laws.proofs.laws.nothing_played.Goals as goal

pub returns : goal.returns
returns c = nothing_played
