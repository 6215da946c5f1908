use Rattle.std.proofs.Common.{◌<◌, length, arith}
use Rattle.conformance.proofs.RunLemmas.{taken}
use Rattle.conformance.proofs.program.take_line.Goals as goal

pub returns : goal.returns
returns g c =
    let some : 0 < length c.read_until.new.buf.items = omega (arith, c.in_ok-read_until.ensures.ok, c.clear.ensures.len, c.if-branch-eq0.false) in
    taken (g.I.Read.remaining c.args.input.now) (g.I.Read.remaining c.read_until.new.self) c.clear.new.self.items c.read_until.new.buf.items c.take_off_feed.new.line.items
    c.clear.ensures.items c.in_ok-read_until.ensures.bytes c.in_ok-read_until.ensures.rest some c.take_off_feed.ensures
