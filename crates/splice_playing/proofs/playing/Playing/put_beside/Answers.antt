use Rattle.std.proofs.Common.{◌<◌, length, rules}
use Rattle.splice_playing.proofs.BesideLemmas.{counted-at, streams-kept, leaving-kept}
use Rattle.splice_playing.proofs.playing.Playing.put_beside.Goals as goal

pub returns-clause-plays : goal.returns-clause-plays
returns-clause-plays g c = λ k past steps h i.
    let n = c.args.stream in
    let p = c.args.packet.now in
    let playing = c.args.self.now in
    let d = c.index-self-stream.result in
    let y = c.keep-put.new.self in
    let same = c.keep-put.ensures.leaving in
    let r = c.requires in
    let within : n < length playing.streams = search (rules, r) in
    record {
      events = h.events;
      plans = h.plans;
      streams = streams-kept k n p past i playing y d steps within same h (c.keep-put.ensures.counts (steps i.pid) (counted-at k n p past i playing steps d h));
      leaving = leaving-kept k n p past i playing y d steps within same h;
      forgotten = h.forgotten;
      all_out = h.all_out;
    }
