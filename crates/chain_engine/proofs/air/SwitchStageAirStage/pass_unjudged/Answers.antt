use Rattle.std.proofs.Common.{Result, Ok, Err, OnOk, [], ◌∷◌, ◌++◌, sym, ap, subst, ◌∙◌, append_assoc}
use Rattle.std.proofs.lemmas.Result.{on_ok_weaker}
use Rattle.ad_library.specs.Library.{held}
use Rattle.splice_plans.specs.Adverts.{setting_of}
use Rattle.splice_plans.specs.Stepping.{puts_beside, journey_beside}
use Rattle.splice_switch.specs.Standing.{SwitchStandsAt}
use Rattle.chain_engine.specs.Switched.{journey_of, switched_by_ended, switched_on_air}
use Rattle.chain_engine.proofs.air.SwitchStageAirStage.pass_unjudged.Goals as goal

on-both : {T E : Type 0} (P Q : Type 0) (r : Result T E) → OnOk r P → OnOk r Q → OnOk r (P × Q)
on-both P Q (Ok v) p q = (p, q)
on-both P Q (Err e) p q = tt

pub returns-clause-airs : goal.returns-clause-airs
returns-clause-airs g c = λ first ended last told qs start before (is, lib, a) is_held.
    let d = first.config in
    let filed = held first.library.now in
    let k = setting_of d filed in
    let p = c.args.packet.now in
    let x = journey_of k last in
    let sent = puts_beside k x p ∷ [] in
    let stands = subst (λ l. SwitchStandsAt c.args.self.now.switch d (held l) x) (sym lib) a.stands in
    on_ok_weaker c.put_unjudged.result (λ both. record {
      sent = qs ++ sent;
      airs_so = (
        is,
        lib,
        record {
          stands = subst (λ l. SwitchStandsAt c.put_unjudged.new.switch d (held l) (journey_beside (setting_of d (held l)) x p)) lib both.0;
          sent = sym (append_assoc (switched_by_ended k ended) (switched_on_air k last) sent) ∙ ap (λ l. l ++ sent) a.sent;
          told_so = a.told_so;
        },
      );
      out = subst (g.K.PacketSink.holds c.put_unjudged.new.out start) (append_assoc before qs sent)
          (subst (λ l. g.K.PacketSink.holds c.put_unjudged.new.out start ((before ++ qs) ++ puts_beside (setting_of d (held l)) x p ∷ [])) lib both.1);
    }) (on-both _ _ c.put_unjudged.result (c.put_unjudged.ensures.goes_on d x stands) (c.put_unjudged.ensures.puts d x start (before ++ qs) stands is_held))
