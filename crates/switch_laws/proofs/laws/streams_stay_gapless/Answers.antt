use Rattle.switch_laws.proofs.StreamLemmas.{streams_stay_gapless}
use Rattle.switch_laws.proofs.laws.streams_stay_gapless.Goals as goal

pub returns : goal.returns
returns c = streams_stay_gapless
