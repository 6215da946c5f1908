use Rattle.std.proofs.Common.{rules, ◌≡◌, ◌∷◌, sym, subst}
use Rattle.ts_packet.specs.Fields.{pid_of}
use Rattle.services_on_air.specs.Standing.{AllStand, ArePassed}
use Rattle.services_on_air.proofs.ListLemmas.{settling, fewer, joined-are}
use Rattle.std.proofs.Common.{◌++◌, ◌∙◌, append_assoc}
use Rattle.std.proofs.lemmas.List.{append-nil}
use Rattle.services_on_air.specs.Airing.{owns, leaves}
use Rattle.services_on_air.specs.Histories.{HasGone, gone_on, put_own, aired_as}
use Rattle.services_on_air.specs.Serving.{AllGone, gones_on, puts_on}
use Rattle.services_on_air.proofs.ServiceLemmas.{leaves-is}
use Rattle.services_on_air.proofs.TogetherLemmas.{gone-of, filed-of}
use Rattle.services_on_air.proofs.OwnerLemmas.{left-apart, judged-first}
use Rattle.services_on_air.specs.Owners.{AreLeftOut}
use Rattle.services_on_air.proofs.StayLemmas.{all-pass, pass-gone}
use Rattle.services_on_air.proofs.passing.+pass_each.Goals as goal

pub returns-in-Ok-pass_each-clause-stands : goal.returns-in-Ok-pass_each-clause-stands
returns-in-Ok-pass_each-clause-stands g t c = λ xs h many out.
    let shape : c.args.services.now ≡ c.in-Some.service.now ∷ c.in-Some.others.now = search rules in
    let long : c.args.libraries.now ≡ c.in-Some-split_first.library.now ∷ c.in-Some-split_first.libraries.now = search rules in
    let p = c.args.packet.now in
    let k = settling c.args.services.now c.in-Some.service.now c.in-Some.others.now p xs shape h in
    let left = left-apart c.leaves_out.result c.args.all c.args.takers (pid_of p) c.args.services.now c.in-Some.service.now c.in-Some.others.now xs k.a k.more shape k.parts c.leaves_out.ensures.value out in
    let one = c.in-Ok.ensures.stands k.a k.first left.first in
    let more = c.in-Ok-pass_each.ensures.stands k.more k.others (fewer c.args.libraries.now c.in-Some-split_first.library.now c.in-Some-split_first.libraries.now xs k.a k.more long k.parts many) left.others in
    subst (λ w. AllStand (c.pass_one.new.service ∷ c.pass_each.new.services) w × ArePassed c.joined.result p w) (sym k.parts)
    ((one.0, more.0), joined-are c.in-Ok.one c.in-Ok-pass_each.others c.joined.result p k.a k.more c.joined.ensures.own c.joined.ensures.unjudged c.joined.ensures.learns one.1 more.1)

pub returns-in-Ok-pass_each-clause-out : goal.returns-in-Ok-pass_each-clause-out
returns-in-Ok-pass_each-clause-out g t c = λ ys ts gs start ps h out filed all is_held.
    let s = c.in-Some.service.now in
    let ss = c.in-Some.others.now in
    let shape : c.args.services.now ≡ s ∷ ss = search rules in
    let long : c.args.libraries.now ≡ c.in-Some-split_first.library.now ∷ c.in-Some-split_first.libraries.now = search rules in
    let p = c.args.packet.now in
    let k = settling c.args.services.now s ss p ys shape h in
    let kept = left-apart c.leaves_out.result c.args.all c.args.takers (pid_of p) c.args.services.now s ss ys k.a k.more shape k.parts c.leaves_out.ensures.value out in
    let q = gone-of c.args.services.now s ss ts gs shape all in
    let f = filed-of c.args.libraries.now c.in-Some-split_first.library.now c.in-Some-split_first.libraries.now ts q.t q.more long q.terms filed in
    let stood = c.in-Ok.ensures.stands k.a k.first kept.first in
    let here = c.in-Ok.ensures.out k.a q.t q.g start ps k.first kept.first f.first q.first is_held in
    let left = leaves-is s p k.a k.first in
    let mid = g.K.PacketSink.holds c.pass_one.new.out start in
    let one = subst (λ b. HasGone c.pass_one.new.service q.t (gone_on q.t (aired_as p b) q.g) × mid (ps ++ put_own c.in-Ok.one.is_own q.t (aired_as p b) q.g)) left here in
    let put = put_own (owns p k.a) q.t (aired_as p (leaves k.a)) q.g in
    let sent = subst (λ b. mid (ps ++ put_own b q.t (aired_as p (leaves k.a)) q.g)) stood.1.own one.1 in
    let holds = g.K.PacketSink.holds c.pass_each.new.out start in
    let more = c.in-Ok-pass_each.ensures.out k.more q.more q.later start (ps ++ put) k.others kept.others f.others q.others sent in
    subst (λ zs. AllGone (c.pass_one.new.service ∷ c.pass_each.new.services) ts (gones_on ts p zs gs) × holds (ps ++ puts_on ts p zs gs)) (sym k.parts)
    (subst (λ us. AllGone (c.pass_one.new.service ∷ c.pass_each.new.services) us (gones_on us p (k.a ∷ k.more) gs) × holds (ps ++ puts_on us p (k.a ∷ k.more) gs)) (sym q.terms)
    (subst (λ hs. AllGone (c.pass_one.new.service ∷ c.pass_each.new.services) (q.t ∷ q.more) (gones_on (q.t ∷ q.more) p (k.a ∷ k.more) hs) × holds (ps ++ puts_on (q.t ∷ q.more) p (k.a ∷ k.more) hs)) (sym q.gones)
    ((one.0, more.0), subst holds (append_assoc ps put (puts_on q.more p k.more q.later)) more.1)))

pub returns-in-Ok-pass_each-clause-judged : goal.returns-in-Ok-pass_each-clause-judged
returns-in-Ok-pass_each-clause-judged g t c = λ xs h many out.
    let s = c.in-Some.service.now in
    let ss = c.in-Some.others.now in
    let shape : c.args.services.now ≡ s ∷ ss = search rules in
    let long : c.args.libraries.now ≡ c.in-Some-split_first.library.now ∷ c.in-Some-split_first.libraries.now = search rules in
    let p = c.args.packet.now in
    let k = settling c.args.services.now s ss p xs shape h in
    let left = left-apart c.leaves_out.result c.args.all c.args.takers (pid_of p) c.args.services.now s ss xs k.a k.more shape k.parts c.leaves_out.ensures.value out in
    judged-first c.pass_one.new.service c.pass_each.new.services c.in-Ok.one.has_left c.in-Ok-pass_each.others.has_left c.joined.result.has_left c.joined.ensures.left (c.in-Ok.ensures.left k.a left.first)
    (c.in-Ok-pass_each.ensures.judged k.more k.others (fewer c.args.libraries.now c.in-Some-split_first.library.now c.in-Some-split_first.libraries.now xs k.a k.more long k.parts many) left.others)

pub returns-then-leaves_out_all-clause-stands : goal.returns-then-leaves_out_all-clause-stands
returns-then-leaves_out_all-clause-stands g t c = λ xs h many out.
    let p = c.args.packet.now in
    let ss = c.args.services.now in
    let zero = c.leaves_out_all.ensures.none c.if-leaves_out_all.true in
    let left = subst (λ n. AreLeftOut n ss (pid_of p) xs) zero (out (c.leaves_out_all.ensures.all c.if-leaves_out_all.true)) in
    let k = all-pass ss p xs h left in
    (k.stand, record { own = c.beside.ensures.own ∙ sym k.own; unjudged = c.beside.ensures.unjudged ∙ sym k.unjudged; learns = c.beside.ensures.learns ∙ sym k.learns })

pub returns-then-leaves_out_all-clause-judged : goal.returns-then-leaves_out_all-clause-judged
returns-then-leaves_out_all-clause-judged g t c = λ xs h many out none.
    let p = c.args.packet.now in
    let ss = c.args.services.now in
    let zero = c.leaves_out_all.ensures.none c.if-leaves_out_all.true in
    let left = subst (λ n. AreLeftOut n ss (pid_of p) xs) zero (out (c.leaves_out_all.ensures.all c.if-leaves_out_all.true)) in
    (all-pass ss p xs h left).judged

pub returns-then-leaves_out_all-clause-out : goal.returns-then-leaves_out_all-clause-out
returns-then-leaves_out_all-clause-out g t c = λ ys ts gs start ps h out filed all is_held.
    let p = c.args.packet.now in
    let ss = c.args.services.now in
    let zero = c.leaves_out_all.ensures.none c.if-leaves_out_all.true in
    let left = subst (λ n. AreLeftOut n ss (pid_of p) ys) zero (out (c.leaves_out_all.ensures.all c.if-leaves_out_all.true)) in
    let holds = g.K.PacketSink.holds c.args.out.now start in
    let (gone, put) = pass-gone ss ts gs p ys c.of_bytes.ensures h left all in
    (gone, subst (λ l. holds (ps ++ l)) (sym put) (subst holds (sym (append-nil ps)) is_held))
