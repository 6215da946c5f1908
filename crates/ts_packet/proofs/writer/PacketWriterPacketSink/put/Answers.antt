use Rattle.std.proofs.Common.{refl, ap, Err}
use Rattle.ts_packet.proofs.WritingLemmas.{Written-more, Written-part}
use Rattle.ts_packet.proofs.writer.PacketWriterPacketSink.put.Goals as goal

pub returns-in-Ok-clause-ok : goal.returns-in-Ok-clause-ok
returns-in-Ok-clause-ok g c = λ start ps h. (h.0, Written-more _ _ start ps c.args.packet.now h.1 (rw c.as_bytes.ensures.value at c.in-Ok.ensures.ok))

pub returns-in-Err-clause-err : goal.returns-in-Err-clause-err
returns-in-Err-clause-err g c = λ start ps h.
    let e = rw c.as_bytes.ensures.value at c.in-Err.ensures.err in
    (refl, λ f. c.in-Err.ensures.failed (ap Err f), Written-part _ _ start ps c.args.packet.now e.0 h.1 e.1)
