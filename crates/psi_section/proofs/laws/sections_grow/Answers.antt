use Rattle.psi_section.proofs.RunLemmas.{grow}
use Rattle.psi_section.proofs.laws.sections_grow.Goals as goal

pub returns : goal.returns
returns c = grow
