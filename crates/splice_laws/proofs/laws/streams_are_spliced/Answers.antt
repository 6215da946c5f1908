use Rattle.splice_laws.proofs.StreamLemmas.{streams_are_spliced}
use Rattle.splice_laws.proofs.laws.streams_are_spliced.Goals as goal

pub returns : goal.returns
returns c = streams_are_spliced
