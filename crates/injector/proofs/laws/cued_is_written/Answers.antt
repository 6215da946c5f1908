use Rattle.injector.proofs.CuedLemmas.{cued-is-written}
use Rattle.injector.proofs.laws.cued_is_written.Goals as goal

pub returns : goal.returns
returns c = cued-is-written
