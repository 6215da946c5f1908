use Rattle.output_laws.proofs.SplicedLemmas.{moves_are_spliced}
use Rattle.output_laws.proofs.laws.moves_are_spliced.Goals as goal

pub returns : goal.returns
returns c = moves_are_spliced
