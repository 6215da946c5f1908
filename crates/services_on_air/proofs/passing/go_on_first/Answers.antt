use Rattle.std.proofs.Common.{rules, ◌≡◌, ◌∷◌, ◌++◌, sym, subst, ◌∙◌}
use Rattle.std.proofs.lemmas.Result.{IfOk-weaker}
use Rattle.ts_packet.specs.Fields.{pid_of}
use Rattle.services_on_air.specs.Airing.{leaves}
use Rattle.services_on_air.specs.Histories.{HasGone, gone_on, put_own, aired_as}
use Rattle.services_on_air.specs.Standing.{AllStand}
use Rattle.services_on_air.proofs.ServiceLemmas.{leaves-is}
use Rattle.services_on_air.proofs.ListLemmas.{settling}
use Rattle.services_on_air.proofs.TogetherLemmas.{gone-of, filed-of}
use Rattle.services_on_air.proofs.OwnerLemmas.{left-first}
use Rattle.services_on_air.proofs.StayLemmas.{all-pass, pass-gone}
use Rattle.services_on_air.specs.Owners.{FirstGoesOnAir}
use Rattle.services_on_air.proofs.AloneLemmas.{passed-alone, gone-on-alone, both-ok}
use Rattle.services_on_air.proofs.passing.go_on_first.Goals as goal

pub returns-clause-stands : goal.returns-clause-stands
returns-clause-stands g c = λ xs h many out on.
    let s = c.in-Some.service.now in
    let ss = c.in-Some._others.now in
    let shape : c.args.services.now ≡ s ∷ ss = search rules in
    let p = c.args.packet.now in
    let by = subst (λ l. FirstGoesOnAir l c.args.of p) shape on in
    let k = settling c.args.services.now s ss p xs shape h in
    let rest = all-pass ss p k.more k.others (left-first c.args.services.now s ss xs k.a k.more 1 (pid_of p) shape k.parts out).1 in
    IfOk-weaker c.pass_alone.result _ _ (λ passed one. (
      subst (AllStand (c.pass_alone.new.self ∷ ss)) (sym k.parts) (one.0, rest.stand),
      passed-alone passed p k.a k.more xs k.parts rest.own rest.unjudged rest.learns one.1,
    )) (c.pass_alone.ensures.stands k.a k.first by.0 by.1)

pub returns-clause-judged : goal.returns-clause-judged
returns-clause-judged g c = λ xs h many out on.
    let s = c.in-Some.service.now in
    let ss = c.in-Some._others.now in
    let shape : c.args.services.now ≡ s ∷ ss = search rules in
    let p = c.args.packet.now in
    let by = subst (λ l. FirstGoesOnAir l c.args.of p) shape on in
    let k = settling c.args.services.now s ss p xs shape h in
    let rest = all-pass ss p k.more k.others (left-first c.args.services.now s ss xs k.a k.more 1 (pid_of p) shape k.parts out).1 in
    IfOk-weaker c.pass_alone.result _ _ (λ passed is none. (sym is ∙ none, rest.judged)) (c.pass_alone.ensures.left by.0)

pub returns-clause-out : goal.returns-clause-out
returns-clause-out g c = λ ys ts gs start ps h out on filed all is_held.
    let s = c.in-Some.service.now in
    let ss = c.in-Some._others.now in
    let shape : c.args.services.now ≡ s ∷ ss = search rules in
    let long : c.args.libraries.now ≡ c.in-Some-split_first.library.now ∷ c.in-Some-split_first._behind.now = search rules in
    let p = c.args.packet.now in
    let by = subst (λ l. FirstGoesOnAir l c.args.of p) shape on in
    let k = settling c.args.services.now s ss p ys shape h in
    let left = (left-first c.args.services.now s ss ys k.a k.more 1 (pid_of p) shape k.parts out).1 in
    let q = gone-of c.args.services.now s ss ts gs shape all in
    let f = filed-of c.args.libraries.now c.in-Some-split_first.library.now c.in-Some-split_first._behind.now ts q.t q.more long q.terms filed in
    let rest = pass-gone ss q.more q.later p k.more c.of_bytes.ensures k.others left q.others in
    let now = c.pass_alone.new.self in
    let holds = g.K.PacketSink.holds c.pass_alone.new.out start in
    both-ok c.pass_alone.result _ _ _ (λ passed stood here.
    let one = subst (λ b. HasGone now q.t (gone_on q.t (aired_as p b) q.g) × holds (ps ++ put_own passed.is_own q.t (aired_as p b) q.g)) (sym by.0 ∙ leaves-is s p k.a k.first) here in
    gone-on-alone now ss q.t q.more ts q.g q.later gs p k.a k.more ys (λ l. holds (ps ++ l)) k.parts q.terms q.gones rest.1 rest.0 one.0
    (subst (λ b. holds (ps ++ put_own b q.t (aired_as p (leaves k.a)) q.g)) stood.1.own one.1))
    (c.pass_alone.ensures.stands k.a k.first by.0 by.1) (c.pass_alone.ensures.out q.t q.g start ps f.first q.first by.1 is_held)
