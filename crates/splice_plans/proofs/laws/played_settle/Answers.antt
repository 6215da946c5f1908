use Rattle.splice_plans.proofs.KnownLemmas.{played_settle}
use Rattle.splice_plans.proofs.laws.played_settle.Goals as goal

pub returns : goal.returns
returns c = played_settle
