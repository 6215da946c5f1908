use Rattle.std.proofs.Common.{refl}
use Rattle.chain_engine.proofs.service.Service.new.Goals as goal

pub returns : goal.returns
returns c = λ filed. record { injector = c.new.ensures; switch = c.new-2.ensures filed; network = record { bytes = tt; sound = refl }; config = refl }
