use Rattle.switch_laws.proofs.SectionLemmas.{sections_stay}
use Rattle.switch_laws.proofs.laws.sections_stay.Goals as goal

pub returns : goal.returns
returns c = sections_stay
