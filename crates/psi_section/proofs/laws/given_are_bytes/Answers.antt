use Rattle.psi_section.proofs.laws.given_are_bytes.Goals as goal
use Rattle.psi_section.proofs.ByteLemmas.{given_bytes}

pub returns : goal.returns
returns c = given_bytes
