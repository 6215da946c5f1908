use Rattle.program_laws.proofs.FaultLemmas.{later_tables_agree}
use Rattle.program_laws.proofs.laws.later_tables_agree.Goals as goal

pub returns : goal.returns
returns c = later_tables_agree
