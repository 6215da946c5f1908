use Rattle.std.proofs.Common.{rules, ◌≡◌, length, refl, sym, subst, ◌∙◌}
use Rattle.std.proofs.lemmas.List.{with_items_is}
use Rattle.std.specs.Prelude.{slice_index_or}
use Rattle.ts_packet.specs.Fields.{pid_of}
use Rattle.services_on_air.specs.Owners.{AllJudged, AreLeftOut}
use Rattle.services_on_air.proofs.OwnerLemmas.{left-all, owners-behind}
use Rattle.services_on_air.specs.Airing.{nexts, airings}
use Rattle.services_on_air.specs.Standing.{AllStand, AllSettled}
use Rattle.services_on_air.proofs.PassLemmas.{nexts-long}
use Rattle.std.proofs.Common.{◌++◌, [], ◌∷◌, append_assoc}
use Rattle.service_laws.specs.Services.{configs_of}
use Rattle.chain_engine.specs.Runs.{steps_before}
use Rattle.services_on_air.specs.Outputs.{put_for_all, put_by_each}
use Rattle.services_on_air.specs.Serving.{AllGone, gones_ahead, gones_on, air_ahead}
use Rattle.services_on_air.proofs.HistoryLemmas.{puts-on}
use Rattle.services_on_air.proofs.AllLemmas.{filed-long, own-put, none-put, passed-gone, passed-air}
use Rattle.services_on_air.proofs.services.AirServices.pass_settled.Goals as goal

pub returns-then-passed-clause-stands : goal.returns-then-passed-clause-stands
returns-then-passed-clause-stands g c = λ cs past h many told.
    let v = c.args.self.now.desk.services in
    let kept : length c.pass_some.new.services ≡ v.len = search rules in
    let p = c.args.packet.now in
    let xs = nexts p (airings cs past) in
    let desk = c.args.self.now.desk in
    let slice = sym c.as_mut_slice-services.ensures.value in
    let takers = c.args.takers in
    let all = c.takes_all-all in
    let left = left-all desk.owners takers (pid_of p) desk.asks_all all.result c.as_mut_slice-services.result.now xs told all.ensures.asked all.ensures.told
    (λ quiet below. subst (λ l. AreLeftOut (slice_index_or desk.owners (pid_of p) 0) l (pid_of p) xs) slice (h.left quiet below)) in
    let settled = subst (λ l. AllSettled l p xs) slice h.all in
    let long = many ∙ sym (nexts-long cs p past) in
    let both = c.in-Ok.ensures.stands xs settled long left in
    record {
      ts = h.ts;
      n = h.n;
      k = h.k;
      talks = h.talks;
      all = subst (λ l. AllStand l xs) (sym (with_items_is v c.pass_some.new.services kept)) both.0;
      packets = h.packets;
      unjudged = h.unjudged;
      is = both.1;
      owners = λ still. owners-behind desk.owners xs (sym both.1.learns ∙ still) h.owners;
      judged = λ quiet. subst AllJudged (sym (with_items_is v c.pass_some.new.services kept)) (c.in-Ok.ensures.judged xs settled long left quiet);
    }

pub returns-in-Ok-put-clause-stands : goal.returns-in-Ok-put-clause-stands
returns-in-Ok-put-clause-stands g c = λ cs past h many told.
    let v = c.args.self.now.desk.services in
    let kept : length c.pass_some.new.services ≡ v.len = search rules in
    let p = c.args.packet.now in
    let xs = nexts p (airings cs past) in
    let desk = c.args.self.now.desk in
    let slice = sym c.as_mut_slice-services.ensures.value in
    let takers = c.args.takers in
    let all = c.takes_all-all in
    let left = left-all desk.owners takers (pid_of p) desk.asks_all all.result c.as_mut_slice-services.result.now xs told all.ensures.asked all.ensures.told
    (λ quiet below. subst (λ l. AreLeftOut (slice_index_or desk.owners (pid_of p) 0) l (pid_of p) xs) slice (h.left quiet below)) in
    let settled = subst (λ l. AllSettled l p xs) slice h.all in
    let long = many ∙ sym (nexts-long cs p past) in
    let both = c.in-Ok.ensures.stands xs settled long left in
    record {
      ts = h.ts;
      n = h.n;
      k = h.k;
      talks = h.talks;
      all = subst (λ l. AllStand l xs) (sym (with_items_is v c.pass_some.new.services kept)) both.0;
      packets = h.packets;
      unjudged = h.unjudged;
      is = both.1;
      owners = λ still. owners-behind desk.owners xs (sym both.1.learns ∙ still) h.owners;
      judged = λ quiet. subst AllJudged (sym (with_items_is v c.pass_some.new.services kept)) (c.in-Ok.ensures.judged xs settled long left quiet);
    }

pub returns-then-passed-clause-out : goal.returns-then-passed-clause-out
returns-then-passed-clause-out g c = λ ts past before takes rs start st filed h told is_held.
    let old = c.args.self.now in
    let v = old.desk.services in
    let kept : length c.pass_some.new.services ≡ v.len = search rules in
    let p = c.args.packet.now in
    let cs = configs_of ts in
    let ys = nexts p (airings cs past) in
    let holds = g.K.PacketSink.holds c.pass_some.new.out start in
    let steps = steps_before (length rs) takes past in
    let ended = air_ahead ts p past steps in
    let gs = gones_ahead ts ys steps in
    let slice = sym c.as_mut_slice-services.ensures.value in
    let takers = c.args.takers in
    let settled = subst (λ l. AllSettled l p ys) slice st.all in
    let all = c.takes_all-all in
    let left = left-all old.desk.owners takers (pid_of p) old.desk.asks_all all.result c.as_mut_slice-services.result.now ys told all.ensures.asked all.ensures.told
    (λ quiet below. subst (λ l. AreLeftOut (slice_index_or old.desk.owners (pid_of p) 0) l (pid_of p) ys) slice (st.left quiet below)) in
    let stood = c.in-Ok.ensures.stands ys settled (filed-long c.args.libraries.now ts filed ∙ sym (nexts-long cs p past)) left in
    let both = c.in-Ok.ensures.out ys ts gs start (before ++ ended) settled left filed (subst (λ l. AllGone l ts gs) slice h.desk.all) is_held in
    let sent = subst (λ l. holds ((before ++ ended) ++ l)) (puts-on ts ys p steps ∙ own-put ts p ys steps (sym stood.1.own ∙ c.if-passed.true)) both.1 in (
      passed-gone old _ ts p past takes rs h refl refl refl st.all (subst (λ l. AllGone l ts (gones_on ts p ys gs)) (sym (with_items_is v c.pass_some.new.services kept)) both.0),
      subst (λ l. holds (before ++ l)) (passed-air ts p past takes rs) (subst holds (append_assoc before ended (put_for_all ts p ys steps)) sent),
    )

pub returns-in-Ok-put-clause-out : goal.returns-in-Ok-put-clause-out
returns-in-Ok-put-clause-out g c = λ ts past before takes rs start st filed h told is_held.
    let old = c.args.self.now in
    let v = old.desk.services in
    let kept : length c.pass_some.new.services ≡ v.len = search rules in
    let p = c.args.packet.now in
    let cs = configs_of ts in
    let ys = nexts p (airings cs past) in
    let mid = g.K.PacketSink.holds c.pass_some.new.out start in
    let holds = g.K.PacketSink.holds c.put.new.self start in
    let steps = steps_before (length rs) takes past in
    let ended = air_ahead ts p past steps in
    let gs = gones_ahead ts ys steps in
    let slice = sym c.as_mut_slice-services.ensures.value in
    let takers = c.args.takers in
    let settled = subst (λ l. AllSettled l p ys) slice st.all in
    let all = c.takes_all-all in
    let left = left-all old.desk.owners takers (pid_of p) old.desk.asks_all all.result c.as_mut_slice-services.result.now ys told all.ensures.asked all.ensures.told
    (λ quiet below. subst (λ l. AreLeftOut (slice_index_or old.desk.owners (pid_of p) 0) l (pid_of p) ys) slice (st.left quiet below)) in
    let stood = c.in-Ok.ensures.stands ys settled (filed-long c.args.libraries.now ts filed ∙ sym (nexts-long cs p past)) left in
    let both = c.in-Ok.ensures.out ys ts gs start (before ++ ended) settled left filed (subst (λ l. AllGone l ts gs) slice h.desk.all) is_held in
    let put = put_by_each ts p ys steps in
    let more = c.in-Ok-put.ensures.ok start ((before ++ ended) ++ put) (subst (λ l. mid ((before ++ ended) ++ l)) (puts-on ts ys p steps) both.1) in
    let sent = subst holds (append_assoc (before ++ ended) put (p ∷ [])) more in
    let all = subst (λ l. holds ((before ++ ended) ++ l)) (none-put ts p ys steps (sym stood.1.own ∙ c.if-passed.false)) sent in (
      passed-gone old _ ts p past takes rs h refl refl refl st.all (subst (λ l. AllGone l ts (gones_on ts p ys gs)) (sym (with_items_is v c.pass_some.new.services kept)) both.0),
      subst (λ l. holds (before ++ l)) (passed-air ts p past takes rs) (subst holds (append_assoc before ended (put_for_all ts p ys steps)) all),
    )
