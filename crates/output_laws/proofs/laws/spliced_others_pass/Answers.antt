use Rattle.output_laws.proofs.SplicedOthers.{spliced_others_pass}
use Rattle.output_laws.proofs.laws.spliced_others_pass.Goals as goal

pub returns : goal.returns
returns c = spliced_others_pass
