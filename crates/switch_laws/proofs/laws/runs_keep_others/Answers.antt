use Rattle.switch_laws.proofs.RunLemmas.{runs_keep_others}
use Rattle.switch_laws.proofs.laws.runs_keep_others.Goals as goal

pub returns : goal.returns
returns c = runs_keep_others
