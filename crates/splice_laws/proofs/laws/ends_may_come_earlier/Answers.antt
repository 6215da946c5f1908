use Rattle.splice_laws.proofs.LastEndLemmas.{ends_may_come_earlier}
use Rattle.splice_laws.proofs.laws.ends_may_come_earlier.Goals as goal

pub returns : goal.returns
returns c = ends_may_come_earlier
