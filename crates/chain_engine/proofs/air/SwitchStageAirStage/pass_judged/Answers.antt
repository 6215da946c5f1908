use Rattle.std.proofs.Common.{◌++◌, sym, ap, subst, ◌∙◌, append_assoc}
use Rattle.ad_library.specs.Library.{held}
use Rattle.splice_plans.specs.Adverts.{setting_of}
use Rattle.splice_plans.specs.Stepping.{puts_next, journey_next}
use Rattle.splice_switch.specs.Standing.{SwitchStandsAt}
use Rattle.chain_engine.specs.Switched.{journey_of, switched_by_ended, switched_on_air}
use Rattle.chain_engine.proofs.air.SwitchStageAirStage.pass_judged.Goals as goal

pub returns-in-Ok-clause-airs : goal.returns-in-Ok-clause-airs
returns-in-Ok-clause-airs g c = λ first ended last told qs start before (is, lib, a) is_held.
    let d = first.config in
    let filed = held first.library.now in
    let k = setting_of d filed in
    let p = c.args.packet.now in
    let x = journey_of k last in
    let sent = puts_next k x p in
    let stands = subst (λ l. SwitchStandsAt c.args.self.now.switch d (held l) x) (sym lib) a.stands in
    let now = subst (λ l. SwitchStandsAt c.feed_with_same.new.self d (held l) (journey_next (setting_of d (held l)) x p)) lib (c.in-Ok.ensures.goes_on d x stands) in
    let out = subst (λ l. g.K.PacketSink.holds c.feed_with_same.new.sink start ((before ++ qs) ++ puts_next (setting_of d (held l)) x p)) lib (c.in-Ok.ensures.puts start (before ++ qs) d x is_held stands) in
    record {
      sent = qs ++ sent;
      airs_so = (
        is,
        lib,
        record {
          stands = now;
          sent = sym (append_assoc (switched_by_ended k ended) (switched_on_air k last) sent) ∙ ap (λ l. l ++ sent) a.sent;
          told_so = a.told_so;
        },
      );
      out = subst (g.K.PacketSink.holds c.feed_with_same.new.sink start) (append_assoc before qs sent) out;
    }
