use Rattle.std.proofs.Common.{◌++◌, subst}
use Rattle.ad_library.specs.Library.{held}
use Rattle.psi_tables.specs.declared.network.FeedFault.TheVariants.{Sink}
use Rattle.splice_plans.specs.Adverts.{setting_of}
use Rattle.splice_plans.specs.Stepping.{journey_at}
use Rattle.known_laws.proofs.SteppingLemmas.{steps_are_of_moves}
use Rattle.splice_switch.proofs.JourneyLemmas.{stands-next, fails-next}
use Rattle.splice_switch.proofs.switch.Switch.go_on.Goals as goal

pub returns-in-Ok-clause-ok : goal.returns-in-Ok-clause-ok
returns-in-Ok-clause-ok g c = λ start ps cfg past h b part.
    let k = setting_of cfg (held c.args.library.now) in
    subst (λ l. g.S.PacketSink.holds c.put_part.new.sink start (ps ++ l)) ((steps_are_of_moves k past).puts c.args.packet.now)
    (c.in-Ok.ensures.ok start ps cfg (journey_at k past) h (record { stands = b; part = part }))

pub returns-in-Ok-clause-stands : goal.returns-in-Ok-clause-stands
returns-in-Ok-clause-stands g c = λ cfg past b part.
    let filed = held c.args.library.now in
    stands-next cfg filed c.args.packet.now past c.put_part.new.self (c.in-Ok.ensures.stands cfg (journey_at (setting_of cfg filed) past) (record { stands = b; part = part }))

pub returns-in-Ok-clause-puts : goal.returns-in-Ok-clause-puts
returns-in-Ok-clause-puts g c = λ start ps cfg x h b part. c.in-Ok.ensures.ok start ps cfg x h (record { stands = b; part = part })

pub returns-in-Ok-clause-goes_on : goal.returns-in-Ok-clause-goes_on
returns-in-Ok-clause-goes_on g c = λ cfg x b part. c.in-Ok.ensures.stands cfg x (record { stands = b; part = part })

pub returns-in-Err-clause-err : goal.returns-in-Err-clause-err
returns-in-Err-clause-err g c = λ start ps cfg past h b part.
    let filed = held c.args.library.now in
    fails-next cfg filed c.args.packet.now past (Sink c.in-Err.fault) (λ put q fault. g.S.PacketSink.fails c.put_part.new.sink start (ps ++ put) q fault)
    (c.in-Err.ensures.err start ps cfg (journey_at (setting_of cfg filed) past) h (record { stands = b; part = part }))
