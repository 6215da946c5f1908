use Rattle.std.proofs.Common.{ℕ, List, ◌++◌, true, Some, refl, sym, subst, ◌∙◌}
use Rattle.injector.specs.Steps.{packets_in}
use Rattle.program_follower.specs.Purposes.{writing_cues}
use Rattle.program_follower.proofs.PidLemmas.{owned_off_map}
use Rattle.chain_engine.specs.Airing.{judged}
use Rattle.chain_engine.specs.Chained.{ServiceAirs, PassedOnAir}
use Rattle.services_on_air.specs.Histories.{put_own}
use Rattle.services_on_air.proofs.ServiceLemmas.{stands-behind, is-itself, owns-is, leaves-is, before-is, behind-is, learns-none}
use Rattle.services_on_air.proofs.GoneLemmas.{passed-so}
use Rattle.services_on_air.proofs.KeptLemmas.{kept-elsewhere}
use Rattle.services_on_air.proofs.service.AirService.pass_alone.Goals as goal

pub returns-in-Ok-clause-stands : goal.returns-in-Ok-clause-stands
returns-in-Ok-clause-stands g c = λ a h judges by.
    let s = c.args.self.now in
    let p = c.args.packet.now in
    let steps = h.followed.steps in
    let alone = by a.config steps h.followed.injector in
    let on = alone.goes_on in
    let stands = stands-behind s _ p p a h (is-itself s p a h judges) c.go_on.ensures.config refl refl refl refl (c.go_on.ensures.injector a.config steps alone h.followed.injector) in (
      stands,
      record {
        own = c.alone.ensures.own ∙ owns-is s p a h true (owned_off_map (Some a.config.program) p (packets_in steps) on.elsewhere.map (Some c.args.of.stream) on.here);
        unjudged = c.alone.ensures.unjudged ∙ sym judges ∙ leaves-is s p a h;
        learns = c.alone.ensures.learns ∙ learns-none a p steps on.elsewhere (before-is s p a h) (behind-is s p a h judges);
      },
    )

pub returns-in-Ok-clause-out : goal.returns-in-Ok-clause-out
returns-in-Ok-clause-out g c = λ t gone start ps filed h by is_held.
    let s = c.args.self.now in
    let p = c.args.packet.now in
    let call = c.go_on in
    let now = record s { service = call.new.self } in
    let is_out = (λ (l : List (List ℕ)). g.K.PacketSink.holds call.new.out start (ps ++ l)) in
    let alone = by t.config gone.own h.airs.injector in
    let here = subst (λ w. ServiceAirs s.service t.config w gone.own gone.fed) (sym filed) h.airs in
    let went = subst (λ w. PassedOnAir call.new.self t.config w (judged p) gone.own gone.fed is_out) filed (c.in-Ok.ensures.airs t.config gone.own gone.fed start ps alone here is_held) in
    let both = passed-so now t gone (judged p) is_out went (kept-elsewhere s.tail (writing_cues t.config) p (packets_in gone.own) alone.goes_on.elsewhere.map h.tail) h.counted h.lost in
    (both.0, subst (λ b. is_out (put_own b t (judged p) gone)) (sym c.alone.ensures.own) both.1)
