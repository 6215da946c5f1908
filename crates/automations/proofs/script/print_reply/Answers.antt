use Rattle.std.proofs.Common.{◌≡◌, length, rules}
use Rattle.std.specs.Io.KnownBytes.{Appends}
use Rattle.automations.proofs.ReplyLemmas.{piece_written}
use Rattle.automations.proofs.script.print_reply.Goals as goal

pub loop-filled-preserved : goal.loop-filled-preserved
loop-filled-preserved g c =
    let contents = g.W.Write.contents in
    let line = c.loop-filled.line in
    let size : length line ≡ 64 = search rules in
    let written : Appends (contents c.loop-filled.replies.writer) (contents c.write_all.new.self.writer) c.spell.new.line = search rules in
    let way = piece_written _ _ _ line c.spell.new.line c.loop-filled.filled c.loop-filled.rest.now _ _ _ c.loop-filled.invariant.way size c.loop-filled-test.true
    c.split_at.ensures.front c.split_at.ensures.back c.spell.ensures written in
    record { way = way; counts = search rules }
