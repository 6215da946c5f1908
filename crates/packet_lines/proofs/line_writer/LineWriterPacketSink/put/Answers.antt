use Rattle.std.proofs.Common.{refl, ap, Err}
use Rattle.packet_lines.proofs.TextLemmas.{written_more, written_part}
use Rattle.packet_lines.proofs.line_writer.LineWriterPacketSink.put.Goals as goal

pub returns-in-Ok-clause-ok : goal.returns-in-Ok-clause-ok
returns-in-Ok-clause-ok g c = λ start ps h. (refl, written_more _ _ start ps c.args.packet.now h.1 (rw (c.spell_line.ensures.line, c.as_bytes.ensures.value) at c.in-Ok.ensures.ok))

pub returns-in-Err-clause-err : goal.returns-in-Err-clause-err
returns-in-Err-clause-err g c = λ start ps h.
    let e = rw (c.spell_line.ensures.line, c.as_bytes.ensures.value) at c.in-Err.ensures.err in
    (refl, λ f. c.in-Err.ensures.failed (ap Err f), written_part _ _ start ps c.args.packet.now e.0 h.1 e.1)
