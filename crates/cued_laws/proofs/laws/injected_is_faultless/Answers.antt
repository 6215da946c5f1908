use Rattle.cued_laws.proofs.CuedLemmas.{injected_is_faultless}
use Rattle.cued_laws.proofs.laws.injected_is_faultless.Goals as goal

pub returns : goal.returns
returns c = injected_is_faultless
