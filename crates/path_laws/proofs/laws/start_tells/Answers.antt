use Rattle.path_laws.proofs.Reading.{start_tells}
use Rattle.path_laws.proofs.laws.start_tells.Goals as goal

pub returns : goal.returns
returns c = start_tells
