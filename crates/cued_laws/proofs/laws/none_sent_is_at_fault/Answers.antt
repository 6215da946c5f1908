use Rattle.cued_laws.proofs.CuedLemmas.{none_sent_is_at_fault}
use Rattle.cued_laws.proofs.laws.none_sent_is_at_fault.Goals as goal

pub returns : goal.returns
returns c = none_sent_is_at_fault
