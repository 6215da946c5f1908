use Rattle.splice_laws.proofs.SettledLemmas.{switched_pids_are_within}
use Rattle.splice_laws.proofs.laws.switched_pids_are_within.Goals as goal

pub returns : goal.returns
returns c = switched_pids_are_within
