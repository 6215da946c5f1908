use Rattle.splice_laws.proofs.SettledLemmas.{holds_settle}
use Rattle.splice_laws.proofs.laws.holds_settle.Goals as goal

pub returns : goal.returns
returns c = holds_settle
