use Rattle.chain_laws.proofs.HeadlineLemmas.{histories_are_so}
use Rattle.chain_laws.proofs.laws.histories_are_so.Goals as goal

pub returns : goal.returns
returns g c = histories_are_so c.args.library.now
