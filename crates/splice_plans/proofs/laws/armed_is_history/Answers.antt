use Rattle.splice_plans.proofs.HistoryLemmas.{armed_is_history}
use Rattle.splice_plans.proofs.laws.armed_is_history.Goals as goal

pub returns : goal.returns
returns c = armed_is_history
