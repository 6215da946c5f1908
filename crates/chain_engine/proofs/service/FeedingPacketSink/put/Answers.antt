use Rattle.ad_library.specs.Library.{held}
use Rattle.psi_tables.specs.declared.network.FeedFault.TheVariants.{Network, Sink}
use Rattle.splice_plans.specs.Adverts.{setting_of}
use Rattle.chain_engine.specs.Airing.{judged}
use Rattle.chain_engine.specs.Switched.{journey_of}
use Rattle.chain_engine.proofs.NestedLemmas.{all_fed, all_sent, feeding_takes, feeding_refuses, never_failed}
use Rattle.chain_engine.proofs.service.FeedingPacketSink.put.Goals as goal

pub returns-in-Ok-clause-ok : goal.returns-in-Ok-clause-ok
returns-in-Ok-clause-ok g c = λ start ps h.
    let d = c.args.self.now.config.now in
    let k = setting_of d (held c.args.self.now.library.now) in
    let fed = all_fed g.K.PacketSink.holds d (held c.args.self.now.library.now) start judged c.args.self.now.switch.now c.args.self.now.out.now ps h in
    let sent = all_sent g.K.PacketSink.holds d (held c.args.self.now.library.now) start judged c.args.self.now.switch.now c.args.self.now.out.now ps h in
    feeding_takes g.K.PacketSink.holds d (held c.args.self.now.library.now) start judged c.args.self.now.switch.now c.feed_with_same.new.self c.args.self.now.out.now c.feed_with_same.new.sink ps c.args.packet.now h
    (c.in-Ok.ensures.goes_on d (journey_of k fed) h.stands) (c.in-Ok.ensures.puts start sent d (journey_of k fed) h.sent h.stands)

pub returns-in-Err-Failed-clause-err : goal.returns-in-Err-Failed-clause-err
returns-in-Err-Failed-clause-err g c = λ start ps h.
    let d = c.args.self.now.config.now in
    absurd (never_failed g.K.PacketSink.holds d (held c.args.self.now.library.now) start g.K.PacketSink.fails c.args.self.now.switch.now c.args.self.now.out.now c.feed_with_same.new.sink ps c.args.packet.now h
    (λ qs x o s. rw c.in-Err-Failed.field-0-is at (c.in-Err-Failed.ensures.stops start qs d x o s)))

pub returns-in-Err-Network-clause-err : goal.returns-in-Err-Network-clause-err
returns-in-Err-Network-clause-err g c = λ start ps h.
    let d = c.args.self.now.config.now in
    feeding_refuses g.K.PacketSink.holds d (held c.args.self.now.library.now) start g.K.PacketSink.fails c.args.self.now.switch.now c.args.self.now.out.now c.feed_with_same.new.sink ps c.args.packet.now h (Network c.in-Err-Network.fault)
    (λ qs x o s. rw c.in-Err-Network.field-0-is at (c.in-Err-Network.ensures.stops start qs d x o s))

pub returns-in-Err-Sink-clause-err : goal.returns-in-Err-Sink-clause-err
returns-in-Err-Sink-clause-err g c = λ start ps h.
    let d = c.args.self.now.config.now in
    feeding_refuses g.K.PacketSink.holds d (held c.args.self.now.library.now) start g.K.PacketSink.fails c.args.self.now.switch.now c.args.self.now.out.now c.feed_with_same.new.sink ps c.args.packet.now h (Sink c.in-Err-Sink.fault)
    (λ qs x o s. rw c.in-Err-Sink.field-0-is at (c.in-Err-Sink.ensures.stops start qs d x o s))
