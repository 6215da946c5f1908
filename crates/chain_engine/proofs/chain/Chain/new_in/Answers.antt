use Rattle.std.proofs.Common.{refl, None}
use Rattle.chain_engine.proofs.chain.Chain.new_in.Goals as goal

pub returns : goal.returns
returns g c = record { talk = c.in-Ok.ensures; service = c.new.ensures; config = (c.new.ensures (λ n. None)).config; whole = refl }
