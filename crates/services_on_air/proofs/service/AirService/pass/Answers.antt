use Rattle.std.proofs.Common.{◌≡◌, None, [], ◌∷◌, ◌++◌, sym, subst, ◌∙◌}
use Rattle.services_on_air.proofs.ServiceLemmas.{owns-is, known-is}
use Rattle.std.proofs.lemmas.Result.{IfOk-weaker}
use Rattle.std.proofs.lemmas.List.{append-nil}
use Rattle.program_follower.specs.Purposes.{writing_cues}
use Rattle.injector.specs.Steps.{packets_in}
use Rattle.chain_engine.specs.Airing.{judged}
use Rattle.services_on_air.specs.Histories.{HasGone, gone_on, put_own, aired_as}
use Rattle.services_on_air.proofs.GoneLemmas.{passed-so}
use Rattle.services_on_air.proofs.KeptLemmas.{kept-off}
use Rattle.services_on_air.proofs.service.AirService.pass.Goals as goal

pub returns-then-owns-clause-stands : goal.returns-then-owns-clause-stands
returns-then-owns-clause-stands g c = λ a h.
    let s = c.args.self.now in
    let p = c.args.packet.now in
    let owns = owns-is s p a h c.owns.result (c.owns.ensures a.config h.followed.steps h.followed.injector) in
    let known = known-is s p a h c.pid_count-known.result (c.pid_count-known.ensures a.config h.followed.steps h.followed.injector) in
    c.pass_and_tell.ensures.stands a h (sym c.if-owns.true ∙ owns) known

pub returns-then-owns-clause-out : goal.returns-then-owns-clause-out
returns-then-owns-clause-out g c = λ t gone start ps filed h is_held.
    let a = aired_as c.args.packet.now c.args.self.now.is_unjudged in
    IfOk-weaker c.pass_and_tell.result _ _ (λ passed k. (k.1, subst (λ b. g.K.PacketSink.holds c.pass_and_tell.new.out start (ps ++ put_own b t a gone)) (sym k.0) k.2))
    (c.pass_and_tell.ensures.out t gone start ps filed h is_held)

pub returns-then-overlooks-clause-out : goal.returns-then-overlooks-clause-out
returns-then-overlooks-clause-out g c = λ t gone start ps filed h is_held.
    let old = c.args.self.now in
    let p = c.args.packet.now in
    let holds = g.K.PacketSink.holds c.args.out.now start in
    let by = c.overlooks.ensures.airs t.config t.filed gone.own gone.fed h.airs c.if-overlooks.true in
    let off = sym (c.owns.ensures t.config gone.own h.airs.injector) ∙ c.if-owns.false in
    let now = passed-so old t gone (judged p) (λ qs. qs ≡ p ∷ []) by (kept-off old.tail (writing_cues t.config) p (packets_in gone.own) off h.tail) h.counted h.lost in (
      subst (λ b. HasGone old t (gone_on t (aired_as p b) gone)) (sym c.if-not-self.true) now.0,
      subst (λ b. holds (ps ++ put_own b t (aired_as p old.is_unjudged) gone)) (sym c.beside.ensures.own) (subst holds (sym (append-nil ps)) is_held),
    )

pub returns-clause-out : goal.returns-clause-out
returns-clause-out g c = λ t gone start ps filed h is_held.
    let a = aired_as c.args.packet.now c.args.self.now.is_unjudged in
    let holds = g.K.PacketSink.holds c.args.out.now start in
    IfOk-weaker c.pass_and_tell-2.result _ _ (λ passed k. (k.1, subst (λ b. holds (ps ++ put_own b t a gone)) (sym k.0) (subst holds (sym (append-nil ps)) is_held)))
    (c.pass_and_tell-2.ensures.out t gone None [] filed h tt)

pub returns-then-overlooks-clause-left : goal.returns-then-overlooks-clause-left
returns-then-overlooks-clause-left g c = c.beside.ensures.left ∙ sym c.if-not-self.true
