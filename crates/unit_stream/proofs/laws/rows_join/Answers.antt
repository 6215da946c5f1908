use Rattle.unit_stream.proofs.RowLemmas as lemmas
use Rattle.unit_stream.proofs.laws.rows_join.Goals as goal

pub returns : goal.returns
returns c = lemmas.rows_join
