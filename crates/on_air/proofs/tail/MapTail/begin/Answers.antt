use Rattle.std.proofs.Common.{refl}
use Rattle.on_air.proofs.TailLemmas.{begins-read}
use Rattle.on_air.proofs.tail.MapTail.begin.Goals as goal

pub returns-clause-stands : goal.returns-clause-stands
returns-clause-stands c = λ since h. (refl, begins-read c.args.self.now _ c.args.pid since c.requires refl refl c.new-self.ensures h)
