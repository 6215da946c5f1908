use Rattle.program_laws.proofs.SplicedLemmas.{entry_is_no_fault}
use Rattle.program_laws.proofs.laws.entry_is_no_fault.Goals as goal

pub returns : goal.returns
returns c = entry_is_no_fault
