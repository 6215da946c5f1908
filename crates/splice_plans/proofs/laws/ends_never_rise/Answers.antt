use Rattle.splice_plans.proofs.KnownLemmas.{ends_never_rise}
use Rattle.splice_plans.proofs.laws.ends_never_rise.Goals as goal

pub returns : goal.returns
returns c = ends_never_rise
