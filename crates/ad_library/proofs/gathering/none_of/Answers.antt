use Rattle.std.proofs.Common.{sym}
use Rattle.ad_library.proofs.StreamsLemmas.{all_more}
use Rattle.ad_library.proofs.gathering.none_of.Goals as goal

pub loop-stream-preserved : goal.loop-stream-preserved
loop-stream-preserved g c = λ pids.
    let s = c.stream-item.result in
    all_more c.loop-stream.streams.items c.push.new.self.items c.args.switched.now c.loop-stream.stream-index s c.new.result pids (c.loop-stream.invariant pids) c.loop-stream-test.true
    (sym c.stream-item.is) c.in_ok-push.ensures.items c.new.ensures.kind (c.new.ensures.stands pids s.pid)
