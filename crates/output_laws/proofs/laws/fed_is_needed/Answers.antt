use Rattle.output_laws.proofs.FedNeeded.{fed_is_needed}
use Rattle.output_laws.proofs.laws.fed_is_needed.Goals as goal

pub returns : goal.returns
returns c = fed_is_needed
