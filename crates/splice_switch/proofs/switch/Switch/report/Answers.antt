use Rattle.std.proofs.Common.{ap, ◌∙◌}
use Rattle.ad_library.specs.Library.{held}
use Rattle.program_follower.specs.Purposes.{reading_cues}
use Rattle.splice_plans.specs.Adverts.{setting_of}
use Rattle.known_laws.proofs.ReportLemmas.{plans_tell_crossings}
use Rattle.splice_playing.proofs.RestLemmas.{crossings}
use Rattle.splice_switch.proofs.PremiseLemmas.{ends-with}
use Rattle.splice_switch.proofs.switch.Switch.report.Goals as goal

pub returns-clause-stands : goal.returns-clause-stands
returns-clause-stands c = λ cfg past b.
    let k = setting_of cfg (held c.args.library.now) in
    let e = ends-with cfg (held c.args.library.now) past c.streams.result.now b.clean (c.streams.ensures (reading_cues cfg) past b.follower) in
    c.report.ensures k past (record {
      events = b.playing.events;
      crossed = ap crossings b.playing.plans ∙ plans_tell_crossings k past;
      forgotten = b.playing.forgotten;
    }) e

pub returns-clause-counts : goal.returns-clause-counts
returns-clause-counts c = λ cfg x b.
    let past = x.read in
    let k = setting_of cfg (held c.args.library.now) in
    let e = ends-with cfg (held c.args.library.now) past c.streams.result.now b.clean (c.streams.ensures (reading_cues cfg) past b.follower) in
    c.report.ensures k past (record {
      events = b.playing.events;
      crossed = ap crossings b.playing.plans ∙ plans_tell_crossings k past;
      forgotten = b.playing.forgotten;
    }) e
