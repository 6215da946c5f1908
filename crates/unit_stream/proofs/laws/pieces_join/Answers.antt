use Rattle.unit_stream.proofs.PieceLemmas as lemmas
use Rattle.unit_stream.proofs.laws.pieces_join.Goals as goal

pub returns : goal.returns
returns c = lemmas.pieces_join
