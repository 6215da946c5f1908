use Rattle.cue_laws.proofs.Judging.{table_is_judged}
use Rattle.cue_laws.proofs.laws.table_is_judged.Goals as goal

pub returns : goal.returns
returns c = table_is_judged
