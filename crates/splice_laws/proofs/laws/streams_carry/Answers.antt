use Rattle.splice_laws.proofs.StreamLemmas.{streams_carry}
use Rattle.splice_laws.proofs.laws.streams_carry.Goals as goal

pub returns : goal.returns
returns c = streams_carry
