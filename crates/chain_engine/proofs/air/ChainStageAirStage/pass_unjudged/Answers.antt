use Rattle.std.proofs.Common.{ℕ, List, ◌++◌, sym, subst, append_assoc}
use Rattle.ad_library.specs.Library.{held}
use Rattle.splice_plans.specs.Adverts.{setting_of}
use Rattle.chain_engine.specs.Judging.{ServiceJudges}
use Rattle.chain_engine.specs.Runs.{reply_in, Exchanged}
use Rattle.chain_engine.specs.Switched.{aired_over}
use Rattle.chain_engine.specs.Chained.{fed_for, ServesOnAir, ServiceAirs, PassedOnAir, ChainedSoFar}
use Rattle.chain_engine.proofs.AiringLemmas.{heard_on_air}
use Rattle.chain_engine.proofs.ChainedLemmas.{serves-on-air-one, chained-stays, service-airs, chain-passes, fed_now, steps_now}
use Rattle.chain_engine.specs.Airing.{unjudged}
use Rattle.std.proofs.lemmas.Result.{on_ok_weaker}
use Rattle.ts_packet.specs.Fields.{marked}
use Rattle.chain_engine.proofs.FollowedLemmas.{heard-followed, packet-followed}
use Rattle.chain_engine.proofs.air.ChainStageAirStage.pass_unjudged.Goals as goal

pub returns-clause-follows : goal.returns-clause-follows
returns-clause-follows g c = λ purpose past (is, f).
    let config = c.args.self.now.config.now in
    let old = c.args.self.now.chain.now in
    let now = c.hear.new.self in
    let (more, rs, talks, replied) = c.hear.ensures.talk f.ts f.n f.k f.talks in
    let heard = heard-followed old now config past f more rs _ _ _ talks replied in
    on_ok_weaker c.pass_unjudged.result (λ stands. (
      is,
      record {
        ts = heard.ts;
        n = heard.n;
        k = heard.k;
        talks = heard.talks;
        followed = packet-followed now.service c.pass_unjudged.new.self config (marked c.args.packet.now) past heard.followed stands;
      },
    )) (c.pass_unjudged.ensures.injector config heard.followed.steps heard.followed.injector)

pub returns-clause-airs : goal.returns-clause-airs
returns-clause-airs g c = λ first ended last told qs start before (is, lib, h) is_held.
    let d = first.chain.now.service.config in
    let filed = held first.library.now in
    let k = setting_of d filed in
    let p = c.args.packet.now in
    let old = c.args.self.now.chain.now in
    let heard_service = c.hear.new.self.service in
    let talk = c.hear.new.self.talk in
    let exchanged = Exchanged g.U.Automation.exchanges g.U.Automation.failures first.automation.now c.hear.new.automation in
    let serves = ServesOnAir d old.service.switch in
    let so_far = ChainedSoFar d filed old.service.switch ended last told qs in
    let heard = heard_on_air g.U.Automation.exchanges g.met.U.Automation.exchanges_refl g.met.U.Automation.exchanges_trans g.U.Automation.failures ServiceJudges serves (reply_in d) (serves-on-air-one d old.service.switch)
    so_far ended last (chained-stays d filed ended last told qs old.service.switch) first.automation.now c.args.self.now.automation.now c.hear.new.automation old.service heard_service old.talk talk h
    c.hear.ensures.talk c.hear.ensures.closed c.hear.ensures.failures in
    let fed = fed_now d filed ended last told qs exchanged old.service.switch heard_service talk heard in
    let steps = steps_now d filed ended last told qs exchanged old.service.switch heard_service talk heard in
    let airs = service-airs d filed ended last told qs exchanged old.service.switch heard_service talk heard in
    let a = unjudged p in
    let here = subst (λ l. ServiceAirs heard_service d (held l) steps fed) (sym lib) airs in
    let is_out = (λ (l : List (List ℕ)). g.K.PacketSink.holds c.pass_unjudged.new.out start ((before ++ qs) ++ l)) in
    let sent = aired_over k fed (fed_for d a steps) in
    on_ok_weaker c.pass_unjudged.result (λ x.
    let by = subst (λ l. PassedOnAir c.pass_unjudged.new.self d (held l) a steps fed is_out) lib x in
    record {
      sent = qs ++ sent;
      airs_so = (is, lib, chain-passes d filed ended last told qs exchanged old.service.switch heard_service talk heard a c.pass_unjudged.new.self is_out by);
      out = subst (g.K.PacketSink.holds c.pass_unjudged.new.out start) (append_assoc before qs sent) by.out;
    }) (c.pass_unjudged.ensures.airs d steps fed start (before ++ qs) here is_held)
