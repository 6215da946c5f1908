use Rattle.std.proofs.Common.{◌++◌, subst}
use Rattle.ad_library.specs.Library.{held}
use Rattle.program_follower.specs.Purposes.{reading_cues}
use Rattle.outgoing_packets.specs.Numbers.{FrontFails}
use Rattle.splice_plans.specs.Adverts.{setting_of}
use Rattle.splice_plans.specs.Stepping.{steps_at}
use Rattle.known_laws.proofs.SteppingLemmas.{steps_are_of_moves}
use Rattle.splice_switch.proofs.PremiseLemmas.{ends-with}
use Rattle.splice_switch.proofs.switch.Switch.finish.Goals as goal

pub returns-in-Ok-clause-ok : goal.returns-in-Ok-clause-ok
returns-in-Ok-clause-ok g c = λ start ps cfg past h b.
    let k = setting_of cfg (held c.args.library.now) in
    let e = ends-with cfg (held c.args.library.now) past c.streams-streams.result.now b.clean (c.streams-streams.ensures (reading_cues cfg) past b.follower) in
    subst (λ l. g.S.PacketSink.holds c.finish.new.sink start (ps ++ l)) (steps_are_of_moves k past).rest
    (c.in-Ok.ensures.ok start ps k past (steps_at k past) h b.playing e)

pub returns-in-Ok-clause-report : goal.returns-in-Ok-clause-report
returns-in-Ok-clause-report g c = λ cfg past b.
    let k = setting_of cfg (held c.args.library.now) in
    let e = ends-with cfg (held c.args.library.now) past c.streams-streams.result.now b.clean (c.streams-streams.ensures (reading_cues cfg) past b.follower) in
    c.report.ensures k past (c.in-Ok.ensures.reports k past (steps_at k past) b.playing e) e

pub returns-in-Err-clause-err : goal.returns-in-Err-clause-err
returns-in-Err-clause-err g c = λ start ps cfg past h b.
    let k = setting_of cfg (held c.args.library.now) in
    let e = ends-with cfg (held c.args.library.now) past c.streams-streams.result.now b.clean (c.streams-streams.ensures (reading_cues cfg) past b.follower) in
    subst (λ l. FrontFails l (λ put q. g.S.PacketSink.fails c.finish.new.sink start (ps ++ put) q c.in-Err.fault)) (steps_are_of_moves k past).rest
    (c.in-Err.ensures.err start ps k past (steps_at k past) h b.playing e)

pub returns-in-Ok-clause-puts : goal.returns-in-Ok-clause-puts
returns-in-Ok-clause-puts g c = λ start ps cfg x h b.
    let k = setting_of cfg (held c.args.library.now) in
    let e = ends-with cfg (held c.args.library.now) x.read c.streams-streams.result.now b.clean (c.streams-streams.ensures (reading_cues cfg) x.read b.follower) in
    c.in-Ok.ensures.ok start ps k x.read x.counted h b.playing e

pub returns-in-Ok-clause-counts : goal.returns-in-Ok-clause-counts
returns-in-Ok-clause-counts g c = λ cfg x b.
    let k = setting_of cfg (held c.args.library.now) in
    let e = ends-with cfg (held c.args.library.now) x.read c.streams-streams.result.now b.clean (c.streams-streams.ensures (reading_cues cfg) x.read b.follower) in
    c.report.ensures k x.read (c.in-Ok.ensures.reports k x.read x.counted b.playing e) e
