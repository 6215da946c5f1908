use Rattle.program_laws.proofs.StepLemmas.{tables_grow}
use Rattle.program_laws.proofs.laws.tables_grow.Goals as goal

pub returns : goal.returns
returns c = tables_grow
