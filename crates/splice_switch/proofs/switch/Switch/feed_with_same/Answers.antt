use Rattle.std.proofs.Common.{◌++◌, subst}
use Rattle.ad_library.specs.Library.{held}
use Rattle.splice_plans.specs.Adverts.{setting_of}
use Rattle.splice_plans.specs.Stepping.{journey_at}
use Rattle.known_laws.proofs.SteppingLemmas.{steps_are_of_moves}
use Rattle.splice_switch.proofs.JourneyLemmas.{stands-next, fails-next}
use Rattle.splice_switch.proofs.switch.Switch.feed_with_same.Goals as goal

pub returns-in-Ok-clause-ok : goal.returns-in-Ok-clause-ok
returns-in-Ok-clause-ok g c = λ start ps cfg past h b.
    let k = setting_of cfg (held c.args.library.now) in
    subst (λ l. g.S.PacketSink.holds c.take.new.sink start (ps ++ l)) ((steps_are_of_moves k past).puts c.args.packet.now) (c.in-Ok.ensures.ok start ps cfg (journey_at k past) h b)

pub returns-in-Ok-clause-stands : goal.returns-in-Ok-clause-stands
returns-in-Ok-clause-stands g c = λ cfg past b.
    let filed = held c.args.library.now in
    stands-next cfg filed c.args.packet.now past c.take.new.self (c.in-Ok.ensures.stands cfg (journey_at (setting_of cfg filed) past) b)

pub returns-in-Ok-clause-sound : goal.returns-in-Ok-clause-sound
returns-in-Ok-clause-sound g c = λ cfg past b. c.in-Ok.ensures.sound cfg (journey_at (setting_of cfg (held c.args.library.now)) past) b

pub returns-in-Ok-clause-turns : goal.returns-in-Ok-clause-turns
returns-in-Ok-clause-turns g c = λ cfg past b. c.in-Ok.ensures.turns cfg (journey_at (setting_of cfg (held c.args.library.now)) past) b

pub returns-in-Err-clause-err : goal.returns-in-Err-clause-err
returns-in-Err-clause-err g c = λ start ps cfg past h b.
    let filed = held c.args.library.now in
    fails-next cfg filed c.args.packet.now past c.in-Err.fault (λ put q fault. g.S.PacketSink.fails c.take.new.sink start (ps ++ put) q fault)
    (c.in-Err.ensures.err start ps cfg (journey_at (setting_of cfg filed) past) h b)
