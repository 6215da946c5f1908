use Rattle.std.proofs.Common.{rules, ◌≡◌, ◌∷◌, sym, subst}
use Rattle.ts_packet.specs.Fields.{pid_of}
use Rattle.services_on_air.specs.Airing.{nexts}
use Rattle.services_on_air.specs.Standing.{AllSettled}
use Rattle.services_on_air.proofs.ListLemmas.{standing, fewer}
use Rattle.std.proofs.Common.{◌++◌, append_assoc}
use Rattle.std.proofs.lemmas.List.{append-nil}
use Rattle.services_on_air.specs.Histories.{put_settled, begins_anew}
use Rattle.services_on_air.specs.Serving.{AllGone, gones_settled, puts_settled}
use Rattle.services_on_air.specs.Owners.{MayAllStay, AreLeftOut}
use Rattle.services_on_air.proofs.TogetherLemmas.{gone-of, filed-of}
use Rattle.services_on_air.proofs.OwnerLemmas.{stay-parts, left-so, any-more}
use Rattle.services_on_air.proofs.StayLemmas.{all-stay, stay-gone}
use Rattle.services_on_air.proofs.settling.+settle_each.Goals as goal

pub returns-in-Ok-settle_each-clause-stands : goal.returns-in-Ok-settle_each-clause-stands
returns-in-Ok-settle_each-clause-stands g t c = λ xs h many may.
    let s = c.in-Some.service.now in
    let ss = c.in-Some.others.now in
    let shape : c.args.services.now ≡ s ∷ ss = search rules in
    let long : c.args.libraries.now ≡ c.in-Some-split_first.library.now ∷ c.in-Some-split_first.libraries.now = search rules in
    let p = c.args.next.packet.now in
    let k = standing c.args.services.now s ss xs shape h in
    let stay = stay-parts c.leaves_out.result c.args.all c.args.takers (pid_of p) c.args.services.now s ss xs k.a k.more shape k.parts c.leaves_out.ensures.value may in
    subst (λ w. AllSettled (c.settle_one.new.service ∷ c.settle_each.new.services) p (nexts p w)) (sym k.parts)
    (c.in-Ok.ensures.stands k.a k.first stay.first, c.in-Ok-settle_each.ensures.stands k.more k.others (fewer c.args.libraries.now c.in-Some-split_first.library.now c.in-Some-split_first.libraries.now xs k.a k.more long k.parts many) stay.others)

pub returns-in-Ok-settle_each-clause-anew : goal.returns-in-Ok-settle_each-clause-anew
returns-in-Ok-settle_each-clause-anew g t c = λ xs h many may.
    let s = c.in-Some.service.now in
    let ss = c.in-Some.others.now in
    let shape : c.args.services.now ≡ s ∷ ss = search rules in
    let long : c.args.libraries.now ≡ c.in-Some-split_first.library.now ∷ c.in-Some-split_first.libraries.now = search rules in
    let p = c.args.next.packet.now in
    let k = standing c.args.services.now s ss xs shape h in
    let stay = stay-parts c.leaves_out.result c.args.all c.args.takers (pid_of p) c.args.services.now s ss xs k.a k.more shape k.parts c.leaves_out.ensures.value may in
    any-more (begins_anew p) c.in-Ok.one c.in-Ok-settle_each.more c.either.result k.a k.more xs k.parts c.either.ensures (c.in-Ok.ensures.anew k.a k.first stay.first)
    (c.in-Ok-settle_each.ensures.anew k.more k.others (fewer c.args.libraries.now c.in-Some-split_first.library.now c.in-Some-split_first.libraries.now xs k.a k.more long k.parts many) stay.others)

pub returns-in-Ok-settle_each-clause-left : goal.returns-in-Ok-settle_each-clause-left
returns-in-Ok-settle_each-clause-left g t c = λ xs h many may none.
    let s = c.in-Some.service.now in
    let ss = c.in-Some.others.now in
    let shape : c.args.services.now ≡ s ∷ ss = search rules in
    let long : c.args.libraries.now ≡ c.in-Some-split_first.library.now ∷ c.in-Some-split_first.libraries.now = search rules in
    let p = c.args.next.packet.now in
    let k = standing c.args.services.now s ss xs shape h in
    let stay = stay-parts c.leaves_out.result c.args.all c.args.takers (pid_of p) c.args.services.now s ss xs k.a k.more shape k.parts c.leaves_out.ensures.value may in
    subst (λ w. AreLeftOut c.args.takers (c.settle_one.new.service ∷ c.settle_each.new.services) (pid_of p) (nexts p w)) (sym k.parts) (
      λ bit. c.settle_one.ensures.left k.a k.first stay.first (left-so c.leaves_out.result c.args.all c.args.takers c.leaves_out.ensures.value none bit),
      c.in-Ok-settle_each.ensures.left k.more k.others (fewer c.args.libraries.now c.in-Some-split_first.library.now c.in-Some-split_first.libraries.now xs k.a k.more long k.parts many) stay.others none,
    )

pub returns-in-Ok-settle_each-clause-out : goal.returns-in-Ok-settle_each-clause-out
returns-in-Ok-settle_each-clause-out g t c = λ xs ts gs start ps h may filed all is_held.
    let s = c.in-Some.service.now in
    let ss = c.in-Some.others.now in
    let shape : c.args.services.now ≡ s ∷ ss = search rules in
    let long : c.args.libraries.now ≡ c.in-Some-split_first.library.now ∷ c.in-Some-split_first.libraries.now = search rules in
    let p = c.args.next.packet.now in
    let k = standing c.args.services.now s ss xs shape h in
    let stay = stay-parts c.leaves_out.result c.args.all c.args.takers (pid_of p) c.args.services.now s ss xs k.a k.more shape k.parts c.leaves_out.ensures.value may in
    let q = gone-of c.args.services.now s ss ts gs shape all in
    let f = filed-of c.args.libraries.now c.in-Some-split_first.library.now c.in-Some-split_first.libraries.now ts q.t q.more long q.terms filed in
    let one = c.in-Ok.ensures.out k.a q.t q.g start ps k.first stay.first f.first q.first is_held in
    let put = put_settled q.t (begins_anew p k.a) q.g in
    let holds = g.K.PacketSink.holds c.settle_each.new.out start in
    let d = c.in-Ok-settle_each.ensures.out k.more q.more q.later start (ps ++ put) k.others stay.others f.others q.others one.1 in
    subst (λ ys. AllGone (c.settle_one.new.service ∷ c.settle_each.new.services) ts (gones_settled ts p ys gs) × holds (ps ++ puts_settled ts p ys gs)) (sym k.parts)
    (subst (λ us. AllGone (c.settle_one.new.service ∷ c.settle_each.new.services) us (gones_settled us p (k.a ∷ k.more) gs) × holds (ps ++ puts_settled us p (k.a ∷ k.more) gs)) (sym q.terms)
    (subst (λ hs. AllGone (c.settle_one.new.service ∷ c.settle_each.new.services) (q.t ∷ q.more) (gones_settled (q.t ∷ q.more) p (k.a ∷ k.more) hs) × holds (ps ++ puts_settled (q.t ∷ q.more) p (k.a ∷ k.more) hs)) (sym q.gones)
    ((one.0, d.0), subst holds (append_assoc ps put (puts_settled q.more p k.more q.later)) d.1)))

pub returns-then-leaves_out_all-clause-stands : goal.returns-then-leaves_out_all-clause-stands
returns-then-leaves_out_all-clause-stands g t c = λ xs h many may.
    let p = c.args.next.packet.now in
    let ss = c.args.services.now in
    let zero = c.leaves_out_all.ensures.none c.if-leaves_out_all.true in
    let k = all-stay ss p xs h (subst (λ n. MayAllStay n ss (pid_of p) xs) zero (may (c.leaves_out_all.ensures.all c.if-leaves_out_all.true))) in
    k.settled

pub returns-then-leaves_out_all-clause-anew : goal.returns-then-leaves_out_all-clause-anew
returns-then-leaves_out_all-clause-anew g t c = λ xs h many may.
    let p = c.args.next.packet.now in
    let ss = c.args.services.now in
    let zero = c.leaves_out_all.ensures.none c.if-leaves_out_all.true in
    let k = all-stay ss p xs h (subst (λ n. MayAllStay n ss (pid_of p) xs) zero (may (c.leaves_out_all.ensures.all c.if-leaves_out_all.true))) in
    sym k.same

pub returns-then-leaves_out_all-clause-left : goal.returns-then-leaves_out_all-clause-left
returns-then-leaves_out_all-clause-left g t c = λ xs h many may none.
    let p = c.args.next.packet.now in
    let ss = c.args.services.now in
    let zero = c.leaves_out_all.ensures.none c.if-leaves_out_all.true in
    let k = all-stay ss p xs h (subst (λ n. MayAllStay n ss (pid_of p) xs) zero (may (c.leaves_out_all.ensures.all c.if-leaves_out_all.true))) in
    subst (λ n. AreLeftOut n ss (pid_of p) (nexts p xs)) (sym zero) k.left

pub returns-then-leaves_out_all-clause-out : goal.returns-then-leaves_out_all-clause-out
returns-then-leaves_out_all-clause-out g t c = λ xs ts gs start ps h may filed all is_held.
    let p = c.args.next.packet.now in
    let ss = c.args.services.now in
    let zero = c.leaves_out_all.ensures.none c.if-leaves_out_all.true in
    let k = all-stay ss p xs h (subst (λ n. MayAllStay n ss (pid_of p) xs) zero (may (c.leaves_out_all.ensures.all c.if-leaves_out_all.true))) in
    let holds = g.K.PacketSink.holds c.args.out.now start in
    let (same, put) = stay-gone ss ts gs p xs h all k.same in
    (subst (AllGone ss ts) (sym same) all, subst (λ l. holds (ps ++ l)) (sym put) (subst holds (sym (append-nil ps)) is_held))
