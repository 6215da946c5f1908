use Rattle.psi_section.proofs.laws.given_can_be_given.Goals as goal
use Rattle.psi_section.proofs.GivenLemmas.{given_can}

pub returns : goal.returns
returns c = given_can
