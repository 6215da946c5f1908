use Rattle.std.proofs.Common.{rules, ◌≡◌, ◌+◌, ◌++◌, length, refl, sym, ap, subst, ◌∙◌, append_assoc}
use Rattle.std.proofs.lemmas.List.{with_items_is, length-append}
use Rattle.ts_packet.specs.Fields.{pid_of}
use Rattle.service_laws.specs.Services.{configs_of}
use Rattle.chain_engine.specs.Runs.{steps_before}
use Rattle.chain_services.specs.Owners.{IsShifted}
use Rattle.chain_services.specs.Serving.{FiledAs}
use Rattle.chain_services.proofs.ShiftLemmas.{whole-of}
use Rattle.services_on_air.specs.Owners.{AllJudged, AreLeftOut, TakerGoesOn}
use Rattle.services_on_air.specs.Airing.{nexts, airings}
use Rattle.services_on_air.specs.Standing.{AllStand, AllSettled}
use Rattle.services_on_air.specs.Outputs.{put_for_all}
use Rattle.services_on_air.specs.Serving.{AllGone, gones_ahead, gones_on, air_ahead}
use Rattle.services_on_air.proofs.PassLemmas.{nexts-long}
use Rattle.services_on_air.proofs.OwnerLemmas.{owners-behind, told-left}
use Rattle.services_on_air.proofs.HistoryLemmas.{puts-on}
use Rattle.services_on_air.proofs.AllLemmas.{filed-long, own-put, passed-gone, passed-air}
use Rattle.services_on_air.proofs.FrontLemmas.{behind-passed, gone-behind-passed, fewer-behind, taker-apart}
use Rattle.services_on_air.proofs.services.AirServices.go_on.Goals as goal

pub returns-clause-stands : goal.returns-clause-stands
returns-clause-stands g c = λ cs past h many told on.
    let desk = c.args.self.now.desk in
    let v = desk.services in
    let p = c.args.packet.now in
    let xs = nexts p (airings cs past) in
    let takers = c.args.takers in
    let by = on c.requires.quiet in
    let front = c.split_at_mut-services.result.0.now in
    let back = c.split_at_mut-services.result.1.now in
    let lfront = c.split_at.result.0.now in
    let lback = c.split_at.result.1.now in
    let new = c.go_on_first.new.services in
    let many_front = c.split_at_mut-services.ensures.front_len in
    let items : v.items ≡ front ++ back = sym c.as_mut_slice-services.ensures.value ∙ c.split_at_mut-services.ensures.value in
    let whole = whole-of c.args.alone.count c.args.libraries.now lfront lback c.split_at.ensures.front c.split_at.ensures.back in
    let shifted = subst (λ k. IsShifted k 1 takers) (sym many_front) by.taker in
    let left = told-left desk.owners takers c.args.alone.count v.items p xs by.taker c.ranges.takers.fits (told c.requires.quiet) (h.left c.requires.quiet) in
    let w = behind-passed front back 1 takers p xs shifted (subst (λ l. AllSettled l p xs) items h.all) (subst (λ l. AreLeftOut takers l (pid_of p) xs) items left) in
    let long = fewer-behind c.args.libraries.now lfront lback (length xs) (length front) (length w.ys) c.args.alone.count whole (many ∙ sym (nexts-long cs p past)) w.long c.split_at.ensures.front_len many_front in
    let first = taker-apart front back takers c.args.alone p many_front (subst (λ l. TakerGoesOn takers c.args.alone l p) items by) in
    let both = c.in-Ok.ensures.stands w.ys w.settled long w.left_out first in
    let same_back : length new ≡ length back = search rules in
    let total : length v.items ≡ v.len = search rules in
    let kept : length (front ++ new) ≡ v.len = length-append front new ∙ ap (λ k. length front + k) same_back ∙ sym (length-append front back) ∙ sym (ap length items) ∙ total in
    let now = sym (with_items_is v (front ++ new) kept) in
    let learns = both.1.learns ∙ sym w.learned in
    record {
      ts = h.ts;
      n = h.n;
      k = h.k;
      talks = h.talks;
      all = subst (λ l. AllStand l xs) now (w.stand new both.0);
      packets = h.packets;
      unjudged = h.unjudged;
      is = record { own = both.1.own ∙ sym w.own; unjudged = both.1.unjudged ∙ sym w.unjudged; learns = learns };
      owners = λ still. owners-behind desk.owners xs (sym learns ∙ still) h.owners;
      judged = λ quiet. subst AllJudged now (w.judged new (c.in-Ok.ensures.judged w.ys w.settled long w.left_out first c.in-Ok.ensures.alone.1));
    }

pub returns-clause-out : goal.returns-clause-out
returns-clause-out g c = λ ts past before takes rs start st filed h told on is_held.
    let old = c.args.self.now in
    let desk = old.desk in
    let v = desk.services in
    let p = c.args.packet.now in
    let cs = configs_of ts in
    let ys = nexts p (airings cs past) in
    let takers = c.args.takers in
    let by = on c.requires.quiet in
    let front = c.split_at_mut-services.result.0.now in
    let back = c.split_at_mut-services.result.1.now in
    let lfront = c.split_at.result.0.now in
    let lback = c.split_at.result.1.now in
    let new = c.go_on_first.new.services in
    let many_front = c.split_at_mut-services.ensures.front_len in
    let items : v.items ≡ front ++ back = sym c.as_mut_slice-services.ensures.value ∙ c.split_at_mut-services.ensures.value in
    let whole = whole-of c.args.alone.count c.args.libraries.now lfront lback c.split_at.ensures.front c.split_at.ensures.back in
    let shifted = subst (λ k. IsShifted k 1 takers) (sym many_front) by.taker in
    let left = subst (λ l. AreLeftOut takers l (pid_of p) ys) items
    (told-left desk.owners takers c.args.alone.count v.items p ys by.taker c.ranges.takers.fits (told c.requires.quiet) (st.left c.requires.quiet)) in
    let settled = subst (λ l. AllSettled l p ys) items st.all in
    let first = taker-apart front back takers c.args.alone p many_front (subst (λ l. TakerGoesOn takers c.args.alone l p) items by) in
    let steps = steps_before (length rs) takes past in
    let ended = air_ahead ts p past steps in
    let gs = gones_ahead ts ys steps in
    let holds = g.K.PacketSink.holds c.go_on_first.new.out start in
    let b = behind-passed front back 1 takers p ys shifted settled left in
    let long = fewer-behind c.args.libraries.now lfront lback (length ys) (length front) (length b.ys) c.args.alone.count whole (filed-long c.args.libraries.now ts filed ∙ sym (nexts-long cs p past)) b.long c.split_at.ensures.front_len many_front in
    let own = (c.in-Ok.ensures.stands b.ys b.settled long b.left_out first).1.own ∙ sym b.own in
    let w = gone-behind-passed lfront lback front back 1 takers ts gs p ys (c.split_at.ensures.front_len ∙ sym many_front) shifted c.of_bytes.ensures settled left
    (subst (λ l. FiledAs l ts) whole filed) (subst (λ l. AllGone l ts gs) items h.desk.all) in
    let both = c.in-Ok.ensures.out w.ys w.us w.hs start (before ++ ended) w.settled w.left_out first w.filed w.all is_held in
    let same_back : length new ≡ length back = search rules in
    let total : length v.items ≡ v.len = search rules in
    let kept : length (front ++ new) ≡ v.len = length-append front new ∙ ap (λ k. length front + k) same_back ∙ sym (length-append front back) ∙ sym (ap length items) ∙ total in
    let now = sym (with_items_is v (front ++ new) kept) in
    let put = sym w.put ∙ puts-on ts ys p steps ∙ own-put ts p ys steps (sym own ∙ c.in-Ok.ensures.alone.0) in
    let sent = subst (λ l. holds ((before ++ ended) ++ l)) put both.1 in (
      passed-gone old _ ts p past takes rs h refl refl refl st.all (subst (λ l. AllGone l ts (gones_on ts p ys gs)) now (w.gone new both.0)),
      subst (λ l. holds (before ++ l)) (passed-air ts p past takes rs) (subst holds (append_assoc before ended (put_for_all ts p ys steps)) sent),
    )
