use Rattle.std.proofs.Common.{refl}
use Rattle.on_air.proofs.tail.MapTail.new.Goals as goal

pub returns : goal.returns
returns c = λ known. (refl, λ pid. record { waits = c.new.ensures.waits pid; none = refl; brought = refl })
