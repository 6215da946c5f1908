use Rattle.splice_laws.proofs.StreamLemmas.{streams_carry_by_count}
use Rattle.splice_laws.proofs.laws.streams_carry_by_count.Goals as goal

pub returns : goal.returns
returns c = streams_carry_by_count
