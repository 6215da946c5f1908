use Rattle.std.proofs.Common.{rules, [], ◌∷◌, ◌++◌, map, length, ap, subst, ◌∙◌, append_assoc}
use Rattle.ts_packet.specs.Fields.{marked}
use Rattle.injector.specs.Injecting.{InjectorStandsFor}
use Rattle.injector.specs.Steps.{Packet, sent_at}
use Rattle.chain_engine.specs.Judging.{ServiceJudges}
use Rattle.chain_engine.specs.Runs.{reply_in, Exchanged}
use Rattle.chain_engine.specs.Stages.{InjectsFor}
use Rattle.chain_engine.specs.Unjudged.{restored, put_behind, RestoringHolds}
use Rattle.chain_engine.specs.Airing.{unjudged, packets_through, steps_ahead}
use Rattle.chain_engine.specs.Injected.{InjectedSoFar}
use Rattle.chain_engine.proofs.PassingLemmas.{injects-one}
use Rattle.chain_engine.proofs.AiringLemmas.{heard_on_air, passed_on_air, injected-stays, injected-more}
use Rattle.chain_engine.proofs.RestoringLemmas.{restoring_begins, restoring_ends}
use Rattle.chain_engine.proofs.FollowedLemmas.{heard-followed, packet-followed}
use Rattle.chain_engine.proofs.air.InjectorStageAirStage.pass_unjudged.Goals as goal

pub returns-in-Ok-clause-follows : goal.returns-in-Ok-clause-follows
returns-in-Ok-clause-follows g c = λ purpose past (is, f).
    let config = c.args.self.now.config.now in
    let old = c.args.self.now.chain.now in
    let now = c.hear.new.self in
    let (more, rs, talks, replied) = c.hear.ensures.talk f.ts f.n f.k f.talks in
    let heard = heard-followed old now config past f more rs _ _ _ talks replied in
    let service = record now.service { injector = c.feed.new.self } in
    let stands = c.in-Ok.ensures.stands config heard.followed.steps heard.followed.injector in
    let marks = subst (λ q. InjectorStandsFor c.feed.new.self config (Packet q ∷ heard.followed.steps)) c.marked.ensures stands in (
      is,
      record {
        ts = heard.ts;
        n = heard.n;
        k = heard.k;
        talks = heard.talks;
        followed = packet-followed now.service service config (marked c.args.packet.now) past heard.followed marks;
      },
    )

pub returns-in-Ok-clause-airs : goal.returns-in-Ok-clause-airs
returns-in-Ok-clause-airs g c = λ first ended last told qs start before (is, h) held.
    let d = first.chain.now.service.config in
    let p = c.args.packet.now in
    let old = c.args.self.now.chain.now in
    let heard_service = c.hear.new.self.service in
    let service = record heard_service { injector = c.feed.new.self } in
    let exchanged = Exchanged g.U.Automation.exchanges g.U.Automation.failures first.automation.now c.hear.new.automation in
    let so_far = InjectedSoFar d ended last told qs in
    let heard = heard_on_air g.U.Automation.exchanges g.met.U.Automation.exchanges_refl g.met.U.Automation.exchanges_trans g.U.Automation.failures ServiceJudges (InjectsFor d) (reply_in d) (injects-one d)
    so_far ended last (injected-stays d ended last told qs) first.automation.now c.args.self.now.automation.now c.hear.new.automation old.service heard_service old.talk c.hear.new.self.talk h
    c.hear.ensures.talk c.hear.ensures.closed c.hear.ensures.failures in
    let steps = steps_ahead (length heard.rs) heard.ts (packets_through ended) last in
    let sent = map (restored p) (sent_at d (marked p) steps) in
    let holds = g.K.PacketSink.holds in
    let sink = c.feed.new.sink in
    let leads = c.in-Ok.ensures.leads in
    let begins = restoring_begins holds p start c.args.out.now (before ++ qs) held in
    let put = c.in-Ok.ensures.ok start (put_behind (before ++ qs) []) d steps begins heard.gone in
    let here = subst (λ w. RestoringHolds holds w sink.out.now start (put_behind (before ++ qs) [] ++ sent_at d c.marked.result steps)) leads.1 put in
    let out = restoring_ends holds p start sink.out.now (before ++ qs) (sent_at d c.marked.result steps) here in
    let is_out = subst (holds sink.out.now start) (ap (λ q. (before ++ qs) ++ map (restored p) (sent_at d q steps)) c.marked.ensures ∙ append_assoc before qs sent) out in
    let out_name = leads.0 in
    record {
      sent = qs ++ sent;
      airs_so = (
        is,
        passed_on_air (InjectsFor d) (reply_in d) exchanged ended last heard_service service c.hear.new.self.talk so_far (InjectedSoFar d ended (unjudged p ∷ last) told (qs ++ sent)) (unjudged p) heard
            (λ stands. subst (λ q. InjectorStandsFor c.feed.new.self d (Packet q ∷ steps)) c.marked.ensures (c.in-Ok.ensures.stands d steps stands))
            (injected-more d ended last told qs (unjudged p) (length heard.rs) heard.ts heard.out),
      );
      out = search (rules, is_out, out_name);
    }
