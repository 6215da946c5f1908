use Rattle.switch_laws.proofs.NoneLemmas.{no_program}
use Rattle.switch_laws.proofs.laws.no_program.Goals as goal

pub returns : goal.returns
returns c = no_program
