use Rattle.std.proofs.Common.{true, ◌++◌, refl, sym, subst, ◌∙◌}
use Rattle.std.proofs.lemmas.List.{append-nil}
use Rattle.program_follower.specs.Purposes.{writing_cues}
use Rattle.on_air.specs.AirRuns.{newest}
use Rattle.services_on_air.specs.Histories.{begins_anew}
use Rattle.services_on_air.proofs.ServiceLemmas.{judges-on, goes-settled}
use Rattle.services_on_air.proofs.GoneLemmas.{same-gone, settled-same, not-anew}
use Rattle.services_on_air.proofs.service.AirService.settle.Goals as goal

pub returns-then-just_judges-clause-stands : goal.returns-then-just_judges-clause-stands
returns-then-just_judges-clause-stands g c = λ a h.
    let s = c.args.self.now in
    let p = c.args.next.packet.now in
    let on = c.just_judges.ensures.goes_on c.if-just_judges.true in
    let becomes = c.just_judges.ensures.becomes a.config (newest a.stretches) h.config h.marks h.followed c.if-just_judges.true in
    goes-settled s _ p a true h on.0 on.1 refl refl refl refl refl (judges-on s.marks (writing_cues a.config) p a.stretches (sym h.is_empty ∙ on.0) becomes)

pub returns-then-just_judges-clause-out : goal.returns-then-just_judges-clause-out
returns-then-just_judges-clause-out g c = λ a t gone start ps st filed h is_held.
    let s = c.args.self.now in
    let p = c.args.next.packet.now in
    let on = c.just_judges.ensures.goes_on c.if-just_judges.true in
    let becomes = c.just_judges.ensures.becomes a.config (newest a.stretches) st.config st.marks st.followed c.if-just_judges.true in
    let goes = judges-on s.marks (writing_cues a.config) p a.stretches (sym st.is_empty ∙ on.0) becomes in
    let holds = g.K.PacketSink.holds c.args.out.now start in
    settled-same _ t gone (begins_anew p a) (λ l. holds (ps ++ l)) (not-anew p a s true (sym st.shares ∙ on.1) goes) (same-gone s _ t gone refl refl refl refl h)
    (subst holds (sym (append-nil ps)) is_held)

pub returns-then-just_judges-clause-anew : goal.returns-then-just_judges-clause-anew
returns-then-just_judges-clause-anew g c = λ a st.
    let s = c.args.self.now in
    let p = c.args.next.packet.now in
    let on = c.just_judges.ensures.goes_on c.if-just_judges.true in
    let becomes = c.just_judges.ensures.becomes a.config (newest a.stretches) st.config st.marks st.followed c.if-just_judges.true in
    sym (not-anew p a s true (sym st.shares ∙ on.1) (judges-on s.marks (writing_cues a.config) p a.stretches (sym st.is_empty ∙ on.0) becomes))
