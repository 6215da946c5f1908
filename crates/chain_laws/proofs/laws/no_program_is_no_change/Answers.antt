use Rattle.chain_laws.proofs.UnchangedLemmas.{no_program_is_no_change}
use Rattle.chain_laws.proofs.laws.no_program_is_no_change.Goals as goal

pub returns : goal.returns
returns c = no_program_is_no_change
