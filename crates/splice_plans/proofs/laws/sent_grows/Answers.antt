use Rattle.splice_plans.proofs.SentLemmas.{sent_grows}
use Rattle.splice_plans.proofs.laws.sent_grows.Goals as goal

pub returns : goal.returns
returns c = sent_grows
