use Rattle.output_laws.proofs.GaplessLemmas.{output_stays_gapless}
use Rattle.output_laws.proofs.laws.output_stays_gapless.Goals as goal

pub returns : goal.returns
returns c = output_stays_gapless
