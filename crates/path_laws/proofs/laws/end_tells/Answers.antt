use Rattle.path_laws.proofs.Reading.{end_tells}
use Rattle.path_laws.proofs.laws.end_tells.Goals as goal

pub returns : goal.returns
returns c = end_tells
