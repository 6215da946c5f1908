use Rattle.psi_section.proofs.laws.others_give_nothing.Goals as goal
use Rattle.psi_section.proofs.RunLemmas.{given_off}

pub returns : goal.returns
returns c = given_off
