use Rattle.std.proofs.Common.{[]}
use Rattle.splice_playing.proofs.LeavingLemmas.{begun-takes}
use Rattle.splice_playing.proofs.leaving.LeavingUnit.begin.Goals as goal

pub returns : goal.returns
returns c = λ pid past h.
    begun-takes c.take.new.self pid c.pid.result c.args.packet.now past c.pid.ensures h (c.take.ensures.follows c.pid.result [] (c.new-self.ensures c.args.self.now.last))
