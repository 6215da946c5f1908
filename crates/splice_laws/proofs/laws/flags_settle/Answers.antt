use Rattle.splice_laws.proofs.SettledLemmas.{flags_settle}
use Rattle.splice_laws.proofs.laws.flags_settle.Goals as goal

pub returns : goal.returns
returns c = flags_settle
