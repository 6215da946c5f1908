use Rattle.as_session.proofs.SplitLemmas.{the_split, only_split}
use Rattle.as_session.proofs.laws.messages_are_the_only_ones.Goals as goal

pub returns : goal.returns
returns c = record { splits = the_split; only = only_split }
