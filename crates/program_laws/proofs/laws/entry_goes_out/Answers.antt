use Rattle.program_laws.proofs.EntryOutLemmas.{entry_goes_out}
use Rattle.program_laws.proofs.laws.entry_goes_out.Goals as goal

pub returns : goal.returns
returns c = entry_goes_out
