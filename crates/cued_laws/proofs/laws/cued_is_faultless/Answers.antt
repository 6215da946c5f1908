use Rattle.cued_laws.proofs.CuedLemmas.{cued_is_faultless}
use Rattle.cued_laws.proofs.laws.cued_is_faultless.Goals as goal

pub returns : goal.returns
returns c = cued_is_faultless
