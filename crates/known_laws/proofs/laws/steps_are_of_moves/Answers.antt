use Rattle.known_laws.proofs.SteppingLemmas.{steps_are_of_moves}
use Rattle.known_laws.proofs.laws.steps_are_of_moves.Goals as goal

pub returns : goal.returns
returns c = steps_are_of_moves
