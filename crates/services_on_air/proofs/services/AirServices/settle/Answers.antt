use Rattle.std.proofs.Common.{rules, ◌≡◌, length, sym, ap, subst, ◌∙◌}
use Rattle.std.proofs.lemmas.List.{with_items_is}
use Rattle.ts_packet.specs.Fields.{pid_of}
use Rattle.services_on_air.specs.Airing.{nexts, airings}
use Rattle.services_on_air.specs.Standing.{AllStand, AllSettled}
use Rattle.services_on_air.specs.Owners.{AllJudged, AreLeftOut}
use Rattle.services_on_air.proofs.PassLemmas.{airings-long}
use Rattle.services_on_air.proofs.OwnerLemmas.{may-all, left-told, settled-owners, settled-left, settled-told, moved-gone}
use Rattle.std.proofs.Common.{◌++◌, append_assoc}
use Rattle.service_laws.specs.Services.{configs_of}
use Rattle.chain_engine.specs.Runs.{steps_of}
use Rattle.chain_services.specs.Serving.{CountsReplies}
use Rattle.services_on_air.specs.Outputs.{gones_behind, services_air, ended_before}
use Rattle.services_on_air.specs.Serving.{AllGone, gones_settled}
use Rattle.services_on_air.proofs.HistoryLemmas.{at-packet, gones-settled, puts-settled, replies-at}
use Rattle.services_on_air.proofs.services.AirServices.settle.Goals as goal

pub returns-in-Ok-clause-stands : goal.returns-in-Ok-clause-stands
returns-in-Ok-clause-stands g c = λ cs past h many.
    let desk = c.args.self.now.desk in
    let v = desk.services in
    let kept : length c.settle_some.new.services ≡ v.len = search rules in
    let p = c.args.next.packet.now in
    let xs = airings cs past in
    let ys = nexts p xs in
    let slice = sym c.as_mut_slice-services.ensures.value in
    let items = sym (with_items_is v c.settle_some.new.services kept) in
    let stood = subst (λ l. AllStand l xs) slice h.all in
    let long = many ∙ sym (airings-long cs past) in
    let takers = c.args.takers in
    let all = c.takes_all-all in
    let may = may-all desk.owners takers (pid_of p) desk.asks_all all.result c.as_mut_slice-services.result.now xs c.requires.takers c.requires.pid all.ensures.asked all.ensures.told h.owners
    (λ quiet. subst AllJudged slice (h.judged quiet)) in
    let each = c.in-Ok.ensures in
    let settled = c.settled.ensures in
    record {
      ts = h.ts;
      n = h.n;
      k = h.k;
      talks = h.talks;
      all = subst (λ w. AllSettled w.items p ys) (sym settled.others.0) (subst (λ l. AllSettled l p ys) items (each.stands xs stood long may));
      packets = h.packets;
      unjudged = h.unjudged;
      owners = settled-owners _ c.settled.new.self c.in-Ok.is_anew p xs settled.anew settled.same (each.anew xs stood long may) h.owners;
      left = settled-left _ c.settled.new.self c.in-Ok.is_anew p ys settled.anew settled.same
          (left-told desk.owners takers (pid_of p) desk.asks_all all.result _ ys c.requires.takers all.ensures.by_bits
          (λ none. subst (λ l. AreLeftOut takers l (pid_of p) ys) items (each.left xs stood long may none)));
    }

pub returns-in-Ok-clause-out : goal.returns-in-Ok-clause-out
returns-in-Ok-clause-out g c = λ ts past before takes rs start stood filed h is_held.
    let desk = c.args.self.now.desk in
    let v = desk.services in
    let kept : length c.settle_some.new.services ≡ v.len = search rules in
    let p = c.args.next.packet.now in
    let xs = airings (configs_of ts) past in
    let steps = steps_of (length rs) takes past in
    let at = at-packet (length rs) takes past in
    let gs = gones_behind ts xs steps in
    let air = services_air ts steps in
    let holds = g.K.PacketSink.holds c.settle_some.new.out start in
    let slice = sym c.as_mut_slice-services.ensures.value in
    let takers = c.args.takers in
    let all = c.takes_all-all in
    let may = may-all desk.owners takers (pid_of p) desk.asks_all all.result c.as_mut_slice-services.result.now xs c.requires.takers c.requires.pid all.ensures.asked all.ensures.told stood.owners
    (λ quiet. subst AllJudged slice (stood.judged quiet)) in
    let d = c.in-Ok.ensures.out xs ts gs start (before ++ air) (subst (λ l. AllStand l xs) slice stood.all) may filed (subst (λ l. AllGone l ts gs) slice h.desk.all) is_held in
    let settled = c.settled.ensures in (
      record {
        talks = h.talks;
        replies = h.replies ∙ replies-at ts p steps at;
        counts = subst (λ w. CountsReplies w.messages w.accepted w.refused rs) (sym settled.others.2) h.counts;
        desk = moved-gone c.settled.new.self _ _ ts _ (ap (λ w. w.items) settled.others.0) settled.others.1
            (subst (AllGone _ ts) (sym (gones-settled ts xs p steps at)) (subst (λ l. AllGone l ts (gones_settled ts p xs gs)) (sym (with_items_is v c.settle_some.new.services kept)) d.0))
            h.desk.none;
      },
      subst holds (append_assoc before air (ended_before ts p xs steps)) (subst (λ l. holds ((before ++ air) ++ l)) (puts-settled ts xs p steps) d.1),
    )

pub returns-in-Ok-clause-told : goal.returns-in-Ok-clause-told
returns-in-Ok-clause-told g c = settled-told _ c.settled.new.self c.in-Ok.is_anew c.args.takers c.args.next.packet.now c.settled.ensures.anew c.settled.ensures.same c.requires.takers
