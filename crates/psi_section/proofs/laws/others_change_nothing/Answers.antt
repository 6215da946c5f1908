use Rattle.psi_section.proofs.laws.others_change_nothing.Goals as goal
use Rattle.psi_section.proofs.RunLemmas.{others_change_nothing}

pub returns : goal.returns
returns c = others_change_nothing
