use Rattle.splice_laws.proofs.HistoryLemmas.{out_grows}
use Rattle.splice_laws.proofs.laws.out_grows.Goals as goal

pub returns : goal.returns
returns c = out_grows
