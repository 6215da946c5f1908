use Rattle.program_laws.proofs.StepLemmas.{stays}
use Rattle.program_laws.proofs.laws.stays.Goals as goal

pub returns : goal.returns
returns c = stays
