use Rattle.std.proofs.Common.{◌≡◌, false}
use Rattle.ts_packet.specs.Fields.{payload_on}
use Rattle.unit_stream.proofs.ReadingLemmas.{no_payload_on}
use Rattle.unit_stream.proofs.reader.UnitReader.feed.Goals as goal

pub returns-in-Error-clause-reads : goal.returns-in-Error-clause-reads
returns-in-Error-clause-reads c = λ pid past h.
    let p = c.args.packet.now in
    let y : payload_on pid p ≡ false = no_payload_on c.feed-piece.result pid p past c.in-Error.is (c.feed-piece.ensures.brings pid past h) in
    simp y at (c.feed-piece.ensures.reads pid past h)
