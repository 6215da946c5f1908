use Rattle.psi_section.proofs.laws.read_back_in_turn.Goals as goal
use Rattle.psi_section.proofs.ReadBackLemmas.{read_back_in_turn}

pub returns : goal.returns
returns c = read_back_in_turn
