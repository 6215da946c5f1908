use Rattle.std.proofs.Common.{rules, ◌≡◌, ◌∷◌, ◌++◌, length, false, refl, sym, ap, subst, ◌∙◌}
use Rattle.std.proofs.lemmas.List.{append-nil}
use Rattle.ts_packet.specs.Fields.{pid_of}
use Rattle.service_laws.specs.Services.{configs_of}
use Rattle.chain_engine.specs.Runs.{steps_of}
use Rattle.chain_services.specs.Owners.{IsShifted}
use Rattle.chain_services.proofs.ShiftLemmas.{whole-of}
use Rattle.services_on_air.specs.Airing.{nexts, airings}
use Rattle.services_on_air.specs.Outputs.{gones_behind, services_air}
use Rattle.services_on_air.specs.Owners.{AreLeftOut, FirstGoesOnAir, TakerGoesOn}
use Rattle.services_on_air.specs.Serving.{AllGone}
use Rattle.services_on_air.proofs.HistoryLemmas.{at-packet, gones-settled, puts-settled, replies-at}
use Rattle.services_on_air.proofs.OwnerLemmas.{may-all, not-all, settled-owners, moved-gone}
use Rattle.services_on_air.proofs.StayLemmas.{stay-gone}
use Rattle.services_on_air.proofs.FrontLemmas.{taker-behind}
use Rattle.services_on_air.proofs.TakenLemmas.{taker-stays}
use Rattle.services_on_air.proofs.services.AirServices.settle_taken.Goals as goal

pub returns-in-Some-stays_still-clause-alone : goal.returns-in-Some-stays_still-clause-alone
returns-in-Some-stays_still-clause-alone g c =
    let items = c.args.self.now.desk.services.items in
    let p = c.args.packet.now in
    let n = c.shift_of-shift.result.count in
    let front = c.split_at.result.0.now in
    let back = c.split_at.result.1.now in
    let s = c.in-Some.service.now in
    let ss = c.in-Some._others.now in
    let shape : back ≡ s ∷ ss = search rules in
    let one : c.shift_of-shift.result.takers ≡ 1 = search rules in
    let of = c.in-Some-stays_still.of in
    let whole : items ≡ front ++ back = sym c.as_slice-services.ensures.value ∙ whole-of n c.as_slice-services.result.now front back c.split_at.ensures.front c.split_at.ensures.back in
    subst (λ l. TakerGoesOn c.args.takers (record { count = n; of = of }) l p) (sym whole)
    (taker-behind front back c.args.takers (record { count = n; of = of }) p c.split_at.ensures.front_len (subst (λ k. IsShifted n k c.args.takers) one c.shift_of-shift.ensures.shifted)
    (subst (λ l. FirstGoesOnAir l of p) (sym shape) c.in-Some-stays_still.ensures.alone))

pub returns-in-Some-stays_still-clause-stands : goal.returns-in-Some-stays_still-clause-stands
returns-in-Some-stays_still-clause-stands g c = λ cs past h.
    let desk = c.args.self.now.desk in
    let items = desk.services.items in
    let p = c.args.packet.now in
    let xs = airings cs past in
    let takers = c.args.takers in
    let n = c.shift_of-shift.result.count in
    let front = c.split_at.result.0.now in
    let back = c.split_at.result.1.now in
    let s = c.in-Some.service.now in
    let ss = c.in-Some._others.now in
    let shape : back ≡ s ∷ ss = search rules in
    let one : c.shift_of-shift.result.takers ≡ 1 = search rules in
    let shifted = subst (λ k. IsShifted n k takers) one c.shift_of-shift.ensures.shifted in
    let whole : items ≡ front ++ s ∷ ss =
    sym c.as_slice-services.ensures.value ∙ whole-of n c.as_slice-services.result.now front back c.split_at.ensures.front c.split_at.ensures.back ∙ ap (λ l. front ++ l) shape in
    let may = may-all desk.owners takers (pid_of p) desk.asks_all false items xs c.requires.takers c.requires.pid (λ none. c.requires.quiet) (λ none. not-all n takers shifted c.ranges.takers.fits) h.owners h.judged refl in
    let on = c.in-Some-stays_still.ensures in
    let k = taker-stays items front s ss takers p xs whole (subst (λ m. IsShifted m 1 takers) (sym c.split_at.ensures.front_len) shifted) h.all may on.settled on.anew in
    record {
      ts = h.ts;
      n = h.n;
      k = h.k;
      talks = h.talks;
      all = k.settled;
      packets = h.packets;
      unjudged = h.unjudged;
      owners = settled-owners desk desk false p xs (λ y. absurd (cc)) (λ none. refl) (sym k.same) h.owners;
      left = λ quiet below. subst (λ m. AreLeftOut m items (pid_of p) (nexts p xs)) c.requires.takers k.left;
    }

pub returns-in-Some-stays_still-clause-gone : goal.returns-in-Some-stays_still-clause-gone
returns-in-Some-stays_still-clause-gone g c = λ ts past takes rs h gone.
    let desk = c.args.self.now.desk in
    let items = desk.services.items in
    let p = c.args.packet.now in
    let xs = airings (configs_of ts) past in
    let steps = steps_of (length rs) takes past in
    let at = at-packet (length rs) takes past in
    let gs = gones_behind ts xs steps in
    let air = services_air ts steps in
    let takers = c.args.takers in
    let n = c.shift_of-shift.result.count in
    let front = c.split_at.result.0.now in
    let back = c.split_at.result.1.now in
    let s = c.in-Some.service.now in
    let ss = c.in-Some._others.now in
    let shape : back ≡ s ∷ ss = search rules in
    let one : c.shift_of-shift.result.takers ≡ 1 = search rules in
    let shifted = subst (λ k. IsShifted n k takers) one c.shift_of-shift.ensures.shifted in
    let whole : items ≡ front ++ s ∷ ss =
    sym c.as_slice-services.ensures.value ∙ whole-of n c.as_slice-services.result.now front back c.split_at.ensures.front c.split_at.ensures.back ∙ ap (λ l. front ++ l) shape in
    let may = may-all desk.owners takers (pid_of p) desk.asks_all false items xs c.requires.takers c.requires.pid (λ none. c.requires.quiet) (λ none. not-all n takers shifted c.ranges.takers.fits) h.owners h.judged refl in
    let on = c.in-Some-stays_still.ensures in
    let k = taker-stays items front s ss takers p xs whole (subst (λ m. IsShifted m 1 takers) (sym c.split_at.ensures.front_len) shifted) h.all may on.settled on.anew in
    let (same, put) = stay-gone items ts gs p xs h.all gone.desk.all k.same in (
      record {
        talks = gone.talks;
        replies = gone.replies ∙ replies-at ts p steps at;
        counts = gone.counts;
        desk = moved-gone desk items desk.none ts _ refl refl (subst (AllGone items ts) (sym (gones-settled ts xs p steps at)) (subst (AllGone items ts) (sym same) gone.desk.all)) gone.desk.none;
      },
      sym (append-nil air) ∙ ap (λ l. air ++ l) (sym put ∙ puts-settled ts xs p steps),
    )
