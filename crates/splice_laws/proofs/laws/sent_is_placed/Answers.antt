use Rattle.splice_laws.proofs.EndLemmas.{sent_is_placed}
use Rattle.splice_laws.proofs.laws.sent_is_placed.Goals as goal

pub returns : goal.returns
returns c = sent_is_placed
