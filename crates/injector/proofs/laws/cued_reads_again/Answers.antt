use Rattle.injector.proofs.CuedLemmas.{cued-reads-again}
use Rattle.injector.proofs.laws.cued_reads_again.Goals as goal

pub returns : goal.returns
returns c = cued-reads-again
