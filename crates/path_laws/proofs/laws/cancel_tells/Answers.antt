use Rattle.path_laws.proofs.Reading.{cancel_tells}
use Rattle.path_laws.proofs.laws.cancel_tells.Goals as goal

pub returns : goal.returns
returns c = cancel_tells
