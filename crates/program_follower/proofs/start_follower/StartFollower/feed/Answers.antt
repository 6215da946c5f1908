use Rattle.std.proofs.Common.{arith}
use Rattle.program_follower.proofs.UseLemmas.{uses_passed, streams_off, sound_off, use_elsewhere, use_other, use_stream}
use Rattle.program_follower.proofs.start_follower.StartFollower.feed.Goals as goal

pub returns-in-Other-clause-stands : goal.returns-in-Other-clause-stands
returns-in-Other-clause-stands c = λ k past h.
    let p = c.args.packet.now in
    let numbers = c.args.self.now.uses in
    let e = use_elsewhere numbers k p past h.uses (let z = c.in-Other.ensures.is in omega arith) in
    let off = use_other numbers k p past h.uses c.use_of.ensures.pid c.in-Other.ensures.is in
    record {
      tables = c.pass.ensures.reads k p past e h.tables;
      streams = streams_off k p past e c.args.self.now.streams off h.streams;
      uses = uses_passed numbers k p past h.uses e;
    }

pub returns-in-Other-clause-shows : goal.returns-in-Other-clause-shows
returns-in-Other-clause-shows c = λ k past h.
    c.pass.ensures.shows k c.args.packet.now past (use_elsewhere c.args.self.now.uses k c.args.packet.now past h.uses (let z = c.in-Other.ensures.is in omega arith))

pub returns-in-Other-clause-sound : goal.returns-in-Other-clause-sound
returns-in-Other-clause-sound c = λ k past h.
    let p = c.args.packet.now in
    let numbers = c.args.self.now.uses in
    let e = use_elsewhere numbers k p past h.uses (let z = c.in-Other.ensures.is in omega arith) in
    sound_off k p past e c.args.self.now.tables.maps h.tables.maps (use_other numbers k p past h.uses c.use_of.ensures.pid c.in-Other.ensures.is)

pub returns-in-Other-clause-place : goal.returns-in-Other-clause-place
returns-in-Other-clause-place c = λ k past h.
    let p = c.args.packet.now in
    let numbers = c.args.self.now.uses in
    let e = use_elsewhere numbers k p past h.uses (let z = c.in-Other.ensures.is in omega arith) in
    (e.cue, e.map, use_other numbers k p past h.uses c.use_of.ensures.pid c.in-Other.ensures.is)

pub returns-in-Stream-clause-stands : goal.returns-in-Stream-clause-stands
returns-in-Stream-clause-stands c = λ k past h.
    let p = c.args.packet.now in
    let numbers = c.args.self.now.uses in
    let is = c.in-Stream.ensures.is in
    c.feed_stream.ensures.stands k past h (use_elsewhere numbers k p past h.uses is.1) (use_stream numbers k p past h.uses c.in-Stream.index c.use_of.ensures.pid is.0 is.1)

pub returns-in-Stream-clause-shows : goal.returns-in-Stream-clause-shows
returns-in-Stream-clause-shows c = λ k past h.
    let p = c.args.packet.now in
    let numbers = c.args.self.now.uses in
    let is = c.in-Stream.ensures.is in
    c.feed_stream.ensures.shows k past h (use_elsewhere numbers k p past h.uses is.1) (use_stream numbers k p past h.uses c.in-Stream.index c.use_of.ensures.pid is.0 is.1)

pub returns-in-Stream-clause-sound : goal.returns-in-Stream-clause-sound
returns-in-Stream-clause-sound c = λ k past h.
    let p = c.args.packet.now in
    let numbers = c.args.self.now.uses in
    let is = c.in-Stream.ensures.is in
    c.feed_stream.ensures.sound k past h (use_elsewhere numbers k p past h.uses is.1) (use_stream numbers k p past h.uses c.in-Stream.index c.use_of.ensures.pid is.0 is.1)

pub returns-in-Stream-clause-place : goal.returns-in-Stream-clause-place
returns-in-Stream-clause-place c = λ k past h.
    let p = c.args.packet.now in
    let numbers = c.args.self.now.uses in
    let is = c.in-Stream.ensures.is in
    c.feed_stream.ensures.place k past h (use_elsewhere numbers k p past h.uses is.1) (use_stream numbers k p past h.uses c.in-Stream.index c.use_of.ensures.pid is.0 is.1)

pub returns-in-Stream-clause-err : goal.returns-in-Stream-clause-err
returns-in-Stream-clause-err c = λ k past h.
    let p = c.args.packet.now in
    let numbers = c.args.self.now.uses in
    let is = c.in-Stream.ensures.is in
    c.feed_stream.ensures.err k past h (use_elsewhere numbers k p past h.uses is.1) (use_stream numbers k p past h.uses c.in-Stream.index c.use_of.ensures.pid is.0 is.1)
