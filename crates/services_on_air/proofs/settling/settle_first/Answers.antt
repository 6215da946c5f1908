use Rattle.std.proofs.Common.{rules, ◌≡◌, ◌∷◌, ◌++◌, sym, subst}
use Rattle.std.proofs.lemmas.Result.{on_ok_weaker, IfOk-weaker}
use Rattle.ts_packet.specs.Fields.{pid_of}
use Rattle.services_on_air.specs.Airing.{nexts}
use Rattle.services_on_air.specs.Standing.{AllSettled}
use Rattle.services_on_air.specs.Owners.{AreLeftOut}
use Rattle.services_on_air.proofs.ListLemmas.{standing}
use Rattle.services_on_air.proofs.TogetherLemmas.{gone-of, filed-of}
use Rattle.services_on_air.proofs.OwnerLemmas.{may-first}
use Rattle.services_on_air.proofs.StayLemmas.{all-stay, stay-gone}
use Rattle.services_on_air.proofs.AloneLemmas.{anew-alone, gone-alone}
use Rattle.services_on_air.proofs.settling.settle_first.Goals as goal

pub returns-clause-stands : goal.returns-clause-stands
returns-clause-stands g c = λ xs h many may.
    let s = c.in-Some.service.now in
    let ss = c.in-Some._others.now in
    let shape : c.args.services.now ≡ s ∷ ss = search rules in
    let p = c.args.next.packet.now in
    let k = standing c.args.services.now s ss xs shape h in
    let rest = all-stay ss p k.more k.others (may-first c.args.services.now s ss xs k.a k.more 1 (pid_of p) shape k.parts may).1 in
    on_ok_weaker c.settle.result (λ one. subst (λ w. AllSettled (c.settle.new.self ∷ ss) p (nexts p w)) (sym k.parts) (one, rest.settled)) (c.settle.ensures.stands k.a k.first)

pub returns-clause-anew : goal.returns-clause-anew
returns-clause-anew g c = λ xs h many may.
    let s = c.in-Some.service.now in
    let ss = c.in-Some._others.now in
    let shape : c.args.services.now ≡ s ∷ ss = search rules in
    let p = c.args.next.packet.now in
    let k = standing c.args.services.now s ss xs shape h in
    let rest = all-stay ss p k.more k.others (may-first c.args.services.now s ss xs k.a k.more 1 (pid_of p) shape k.parts may).1 in
    IfOk-weaker c.settle.result _ _ (λ b is. anew-alone p k.a k.more xs b k.parts rest.same is) (c.settle.ensures.anew k.a k.first)

pub returns-clause-left : goal.returns-clause-left
returns-clause-left g c = λ xs h many may.
    let s = c.in-Some.service.now in
    let ss = c.in-Some._others.now in
    let shape : c.args.services.now ≡ s ∷ ss = search rules in
    let p = c.args.next.packet.now in
    let k = standing c.args.services.now s ss xs shape h in
    let rest = all-stay ss p k.more k.others (may-first c.args.services.now s ss xs k.a k.more 1 (pid_of p) shape k.parts may).1 in
    on_ok_weaker c.settle.result (λ one. subst (λ w. AreLeftOut 1 (c.settle.new.self ∷ ss) (pid_of p) (nexts p w)) (sym k.parts) ((λ bit. absurd (cc)), rest.left)) (c.settle.ensures.stands k.a k.first)

pub returns-clause-out : goal.returns-clause-out
returns-clause-out g c = λ xs ts gs start ps h may filed all is_held.
    let s = c.in-Some.service.now in
    let ss = c.in-Some._others.now in
    let shape : c.args.services.now ≡ s ∷ ss = search rules in
    let long : c.args.libraries.now ≡ c.in-Some-split_first.library.now ∷ c.in-Some-split_first._behind.now = search rules in
    let p = c.args.next.packet.now in
    let k = standing c.args.services.now s ss xs shape h in
    let rest = all-stay ss p k.more k.others (may-first c.args.services.now s ss xs k.a k.more 1 (pid_of p) shape k.parts may).1 in
    let q = gone-of c.args.services.now s ss ts gs shape all in
    let f = filed-of c.args.libraries.now c.in-Some-split_first.library.now c.in-Some-split_first._behind.now ts q.t q.more long q.terms filed in
    on_ok_weaker c.settle.result
    (λ one. gone-alone c.settle.new.self ss q.t q.more ts q.g q.later gs p k.a k.more xs (λ l. g.K.PacketSink.holds c.settle.new.out start (ps ++ l)) k.parts q.terms q.gones
    (stay-gone ss q.more q.later p k.more k.others q.others rest.same) q.others one)
    (c.settle.ensures.out k.a q.t q.g start ps k.first f.first q.first is_held)
