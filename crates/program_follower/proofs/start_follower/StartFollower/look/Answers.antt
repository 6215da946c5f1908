use Rattle.std.proofs.Common.{sym, arith}
use Rattle.program_follower.proofs.UseLemmas.{sound_off, use_elsewhere, use_other, use_stream}
use Rattle.program_follower.proofs.start_follower.StartFollower.look.Goals as goal

pub returns-in-Other : goal.returns-in-Other
returns-in-Other c = λ k past h.
    let p = c.args.packet.now in
    let numbers = c.args.self.now.uses in
    let e = use_elsewhere numbers k p past h.uses (let z = c.in-Other.ensures.is in omega arith) in
    sym (sound_off k p past e c.args.self.now.tables.maps h.tables.maps (use_other numbers k p past h.uses c.use_of.ensures.pid c.in-Other.ensures.is))

pub returns-in-Stream : goal.returns-in-Stream
returns-in-Stream c = λ k past h.
    let p = c.args.packet.now in
    let numbers = c.args.self.now.uses in
    let is = c.in-Stream.ensures.is in
    c.look_at_stream.ensures k past h (use_elsewhere numbers k p past h.uses is.1) (use_stream numbers k p past h.uses c.in-Stream.index c.use_of.ensures.pid is.0 is.1)
