use Rattle.psi_section.proofs.RunLemmas.{sections_of}
use Rattle.psi_section.proofs.laws.sections_of_pid.Goals as goal

pub returns : goal.returns
returns c = sections_of
