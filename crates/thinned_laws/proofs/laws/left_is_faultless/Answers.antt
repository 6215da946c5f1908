use Rattle.thinned_laws.proofs.Traces.{left_is_faultless}
use Rattle.thinned_laws.proofs.laws.left_is_faultless.Goals as goal

pub returns : goal.returns
returns c = left_is_faultless
