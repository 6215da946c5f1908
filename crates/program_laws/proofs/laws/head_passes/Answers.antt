use Rattle.program_laws.proofs.HeadLemmas.{head_passes}
use Rattle.program_laws.proofs.laws.head_passes.Goals as goal

pub returns : goal.returns
returns c = head_passes
