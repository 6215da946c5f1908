use Rattle.output_laws.proofs.OtherLemmas.{others_pass}
use Rattle.output_laws.proofs.laws.others_pass.Goals as goal

pub returns : goal.returns
returns c = others_pass
