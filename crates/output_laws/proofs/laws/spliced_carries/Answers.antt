use Rattle.output_laws.proofs.SplicedLemmas.{spliced_carries}
use Rattle.output_laws.proofs.laws.spliced_carries.Goals as goal

pub returns : goal.returns
returns c = spliced_carries
