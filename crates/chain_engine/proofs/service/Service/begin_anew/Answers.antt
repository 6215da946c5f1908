use Rattle.std.proofs.Common.{refl}
use Rattle.chain_engine.proofs.service.Service.begin_anew.Goals as goal

pub returns : goal.returns
returns c = λ filed. record { injector = c.begin_anew.ensures; switch = c.begin_anew-2.ensures filed; network = record { bytes = tt; sound = refl }; config = refl }
