use Rattle.std.proofs.Common.{ℕ, List, ◌++◌, OnOk, refl, sym, ap, subst, ◌∙◌}
use Rattle.std.proofs.lemmas.Result.{on_ok_weaker}
use Rattle.ts_packet.specs.Fields.{marked}
use Rattle.injector.specs.Injecting.{InjectorStandsFor}
use Rattle.services_on_air.proofs.ServiceLemmas.{stands-behind, is-marked, is-itself}
use Rattle.injector.specs.Steps.{packets_in}
use Rattle.program_follower.specs.Purposes.{writing_cues}
use Rattle.splice_plans.specs.Reporting.{ReportIs}
use Rattle.chain_engine.specs.Airing.{judged, unjudged}
use Rattle.chain_engine.specs.Chained.{ServiceAirs, PassedOnAir}
use Rattle.services_on_air.specs.Histories.{HasGone, gone_on, put_on, aired_as}
use Rattle.services_on_air.proofs.GoneLemmas.{passed-so}
use Rattle.services_on_air.proofs.KeptLemmas.{kept-marked}
use Rattle.services_on_air.proofs.service.AirService.pass_to.Goals as goal

pub returns-then-self-clause-stands : goal.returns-then-self-clause-stands
returns-then-self-clause-stands g c = λ a h.
    let p = c.args.packet.now in
    on_ok_weaker c.pass_unjudged.result
    (stands-behind c.args.self.now _ p (marked p) a h (is-marked c.args.self.now p a h c.if-self.true) c.pass_unjudged.ensures.config refl refl refl refl)
    (c.pass_unjudged.ensures.injector a.config h.followed.steps h.followed.injector)

pub returns-in-Ok-clause-stands : goal.returns-in-Ok-clause-stands
returns-in-Ok-clause-stands g c = λ a h.
    let p = c.args.packet.now in
    let service = c.keep.ensures.service in
    let others = c.keep.ensures.others in
    stands-behind c.args.self.now _ p p a h (is-itself c.args.self.now p a h c.if-self.false) (c.pass_on.ensures.config ∙ ap (λ s. s.config) service) others.0 others.2 others.3 others.4
    (c.in-Ok.ensures.injector a.config h.followed.steps (subst (λ s. InjectorStandsFor s.injector a.config h.followed.steps) (sym service) h.followed.injector))

pub returns-then-self-clause-out : goal.returns-then-self-clause-out
returns-then-self-clause-out g c = λ t gone start ps filed h is_held.
    let p = c.args.packet.now in
    let old = c.args.self.now in
    let call = c.pass_unjudged in
    let now = record old { service = call.new.self } in
    let is_out = (λ (l : List (List ℕ)). g.K.PacketSink.holds call.new.out start (ps ++ l)) in
    let here = subst (λ w. ServiceAirs old.service t.config w gone.own gone.fed) (sym filed) h.airs in
    let tail = kept-marked old.tail (writing_cues t.config) p (packets_in gone.own) h.tail in
    subst (λ b. OnOk call.result (HasGone now t (gone_on t (aired_as p b) gone) × is_out (put_on t (aired_as p b) gone))) (sym c.if-self.true)
    (on_ok_weaker call.result (λ by. passed-so now t gone (unjudged p) is_out (subst (λ w. PassedOnAir call.new.self t.config w (unjudged p) gone.own gone.fed is_out) filed by) tail h.counted h.lost)
    (call.ensures.airs t.config gone.own gone.fed start ps here is_held))

pub returns-in-Ok-clause-out : goal.returns-in-Ok-clause-out
returns-in-Ok-clause-out g c = λ t gone start ps filed h is_held.
    let p = c.args.packet.now in
    let kept = c.keep.new.self in
    let call = c.pass_on in
    let now = record kept { service = call.new.self } in
    let is_out = (λ (l : List (List ℕ)). g.K.PacketSink.holds call.new.out start (ps ++ l)) in
    let airs = subst (λ s. ServiceAirs s t.config t.filed gone.own gone.fed) (sym c.keep.ensures.service) h.airs in
    let here = subst (λ w. ServiceAirs kept.service t.config w gone.own gone.fed) (sym filed) airs in
    let by = subst (λ w. PassedOnAir call.new.self t.config w (judged p) gone.own gone.fed is_out) filed (c.in-Ok.ensures.airs t.config gone.own gone.fed start ps here is_held) in
    let tail = c.keep.ensures.tail t.config gone.own h.airs.injector h.tail in
    let counted = subst (λ r. ReportIs r gone.counted) (sym c.keep.ensures.kept.0) h.counted in
    subst (λ b. HasGone now t (gone_on t (aired_as p b) gone) × is_out (put_on t (aired_as p b) gone)) (sym c.if-self.false)
    (passed-so now t gone (judged p) is_out by tail counted (c.keep.ensures.kept.1 ∙ h.lost))
