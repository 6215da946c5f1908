use Rattle.ts_packet.proofs.Cases.{on_ok_more}
use Rattle.random_access.specs.Points.{begins_back}
use Rattle.random_access.proofs.PointLemmas.{keeps_begin}
use Rattle.random_access.proofs.reader.PointReader.feed.Goals as goal

pub returns : goal.returns
returns c = λ pid past h at.
    let begun = c.in-Some.ensures.begins pid past h.starts in
    on_ok_more c.add.result
    (λ k. record {
      starts = c.in-Some.ensures.reads pid past h.starts;
      kept = keeps_begin c.add.new.self pid c.args.packet.now c.in-Some.payload.now past c.args.before c.stamp.result c.of.result begun.0 begun.1 at c.stamp.ensures c.of.ensures k;
    })
    (c.add.ensures (begins_back pid past) h.kept)
