use Rattle.pes_time.proofs.UndecidedLemmas.{split_is_undecided}
use Rattle.pes_time.proofs.laws.split_is_undecided.Goals as goal

pub returns : goal.returns
returns c = split_is_undecided
