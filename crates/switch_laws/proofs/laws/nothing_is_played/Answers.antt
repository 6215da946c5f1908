use Rattle.switch_laws.proofs.NoneLemmas.{nothing_is_played}
use Rattle.switch_laws.proofs.laws.nothing_is_played.Goals as goal

pub returns : goal.returns
returns c = nothing_is_played
