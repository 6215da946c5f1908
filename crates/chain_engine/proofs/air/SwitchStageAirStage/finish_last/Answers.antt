use Rattle.std.proofs.Common.{◌++◌, reverse, sym, ap, subst, append_assoc}
use Rattle.ad_library.specs.Library.{held}
use Rattle.splice_plans.specs.Adverts.{setting_of}
use Rattle.splice_plans.specs.Switching.{rest_at}
use Rattle.splice_plans.specs.Stepping.{puts_last}
use Rattle.splice_plans.specs.Reporting.{ReportIs, report_of}
use Rattle.splice_switch.specs.Standing.{SwitchStandsAt, SwitchStandsFor}
use Rattle.chain_engine.specs.Switched.{journey_of}
use Rattle.chain_engine.proofs.StageLemmas.{spliced}
use Rattle.chain_engine.proofs.air.SwitchStageAirStage.finish_last.Goals as goal

pub returns-in-Ok-clause-sends : goal.returns-in-Ok-clause-sends
returns-in-Ok-clause-sends g c = λ first ps qs kept start before s is_held.
    let d = first.config in
    let filed = held first.library.now in
    let rest = rest_at (setting_of d filed) (reverse ps) in
    let stands = subst (λ l. SwitchStandsFor c.args.self.now.switch d (held l) (reverse ps)) (sym s.0) s.1.stands in
    let out = subst (λ l. g.K.PacketSink.holds c.finish.new.sink start ((before ++ qs) ++ rest_at (setting_of d (held l)) (reverse ps))) s.0 (c.in-Ok.ensures.ok start (before ++ qs) d (reverse ps) is_held stands) in
    let told = subst (λ l. ReportIs c.in-Ok.report (report_of (setting_of d (held l)) (reverse ps))) s.0 (c.in-Ok.ensures.report d (reverse ps) stands) in
    record {
      sent = qs ++ rest;
      ends_so = spliced d filed ps (qs ++ rest) c.in-Ok.report (ap (λ l. l ++ rest) s.1.sent) told;
      out = subst (g.K.PacketSink.holds c.finish.new.sink start) (append_assoc before qs rest) out;
    }

pub returns-in-Ok-clause-airs : goal.returns-in-Ok-clause-airs
returns-in-Ok-clause-airs g c = λ first ended last told qs start before (is, lib, a) is_held.
    let d = first.config in
    let filed = held first.library.now in
    let x = journey_of (setting_of d filed) last in
    let rest = puts_last (setting_of d filed) x in
    let stands = subst (λ l. SwitchStandsAt c.args.self.now.switch d (held l) x) (sym lib) a.stands in
    let out = subst (λ l. g.K.PacketSink.holds c.finish.new.sink start ((before ++ qs) ++ puts_last (setting_of d (held l)) x)) lib (c.in-Ok.ensures.puts start (before ++ qs) d x is_held stands) in
    record {
      sent = qs ++ rest;
      tells_so = record {
        sent_so = ap (λ l. l ++ rest) a.sent;
        told_so = a.told_so;
        last_so = subst (λ l. ReportIs c.in-Ok.report (report_of (setting_of d (held l)) x.read)) lib (c.in-Ok.ensures.counts d x stands);
      };
      out = subst (g.K.PacketSink.holds c.finish.new.sink start) (append_assoc before qs rest) out;
    }
