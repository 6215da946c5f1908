use Rattle.std.proofs.Common.{[]}
use Rattle.ad_library.specs.Library.{held}
use Rattle.passages.proofs.AirLemmas.{air_splices}
use Rattle.passages.proofs.air_heard.splice_heard_on_air.Goals as goal

pub returns-clause-done : goal.returns-clause-done
returns-clause-done g c = λ start out. air_splices c.splice_told_on_air.result c.args.config (held c.args.library.now) (g.P.PacketSource.left c.args.network.now) (g.K.PacketSink.holds c.splice_told_on_air.new.out start)
    (λ bs e. c.splice_told_on_air.ensures.out start [] bs out e) (λ bs e. c.splice_told_on_air.ensures.stretches start [] bs out e)
