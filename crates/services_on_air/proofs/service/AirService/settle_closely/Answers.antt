use Rattle.std.proofs.Common.{rules, ◌≡◌, true, false, ◌++◌, refl, sym, subst, ◌∙◌}
use Rattle.std.proofs.lemmas.List.{append-nil}
use Rattle.std.proofs.lemmas.Result.{on_ok_weaker, IfOk-weaker}
use Rattle.program_follower.specs.Purposes.{writing_cues}
use Rattle.on_air.specs.AirRuns.{newest}
use Rattle.services_on_air.specs.Standing.{IsSettled}
use Rattle.services_on_air.proofs.ServiceLemmas.{first-behind, next-first, next-shares, next-begins, goes-on, begins-new, goes-settled}
use Rattle.services_on_air.specs.Histories.{begins_anew}
use Rattle.services_on_air.proofs.GoneLemmas.{same-gone, settled-same, settled-anew, first-not-anew, is-anew, not-anew}
use Rattle.services_on_air.proofs.service.AirService.settle_closely.Goals as goal

pub returns-then-self-clause-stands : goal.returns-then-self-clause-stands
returns-then-self-clause-stands g c = λ a h.
    let p = c.args.next.packet.now in
    let none = sym h.is_empty ∙ c.if-self.true in
    subst (IsSettled c.settle_first.new.self p) (sym (next-first p a none)) (c.settle_first.ensures.stands a.config _ (first-behind c.args.self.now a h none))

pub returns-then-self-2-clause-stands : goal.returns-then-self-2-clause-stands
returns-then-self-2-clause-stands g c = λ a h.
    let p = c.args.next.packet.now in
    let shares = sym h.shares ∙ c.if-self-2.true in
    on_ok_weaker c.settle_anew.result (subst (IsSettled c.settle_anew.new.self p) (sym (next-shares p a shares)))
    (c.settle_anew.ensures.stands a.config a.stretches h.config h.begun (sym h.is_empty ∙ c.if-self.false))

pub returns-in-Judged-clause-stands : goal.returns-in-Judged-clause-stands
returns-in-Judged-clause-stands g c = λ a h.
    let p = c.args.next.packet.now in
    let now = c.judge.new.self in
    let becomes = c.judge.ensures.becomes a.config (newest a.stretches) h.config h.marks h.followed in
    goes-settled c.args.self.now _ p a true h c.if-self.false c.if-self-2.false c.judge.ensures.service c.judge.ensures.counts.0 c.judge.ensures.counts.1 c.judge.ensures.counts.2 refl
    (goes-on c.judge.result now.marks (writing_cues a.config) p a.stretches true (sym h.is_empty ∙ c.if-self.false) becomes (search rules) (λ fault is. search rules))

pub returns-in-Unjudged-clause-stands : goal.returns-in-Unjudged-clause-stands
returns-in-Unjudged-clause-stands g c = λ a h.
    let p = c.args.next.packet.now in
    let now = c.judge.new.self in
    let becomes = c.judge.ensures.becomes a.config (newest a.stretches) h.config h.marks h.followed in
    goes-settled c.args.self.now _ p a false h c.if-self.false c.if-self-2.false c.judge.ensures.service c.judge.ensures.counts.0 c.judge.ensures.counts.1 c.judge.ensures.counts.2 refl
    (goes-on c.judge.result now.marks (writing_cues a.config) p a.stretches false (sym h.is_empty ∙ c.if-self.false) becomes (search rules) (λ fault is. search rules))

pub returns-in-BeginsAnew-clause-stands : goal.returns-in-BeginsAnew-clause-stands
returns-in-BeginsAnew-clause-stands g c = λ a h.
    let p = c.args.next.packet.now in
    let now = c.judge.new.self in
    let some = sym h.is_empty ∙ c.if-self.false in
    let becomes = c.judge.ensures.becomes a.config (newest a.stretches) h.config h.marks h.followed in
    let anew = begins-new c.judge.result now.marks (writing_cues a.config) p a.stretches c.in-BeginsAnew.fault some becomes (search rules) in
    let service = c.judge.ensures.service in
    on_ok_weaker c.settle_anew-in-BeginsAnew.result (subst (IsSettled c.settle_anew-in-BeginsAnew.new.self p) (sym (next-begins p a (sym h.shares ∙ c.if-self-2.false) anew)))
    (c.settle_anew-in-BeginsAnew.ensures.stands a.config a.stretches (subst (λ s. s.config ≡ a.config) (sym service) h.config) (c.judge.ensures.counts.2 ∙ h.begun) some)

pub returns-then-self-clause-out : goal.returns-then-self-clause-out
returns-then-self-clause-out g c = λ a t gone start ps st filed h is_held.
    let p = c.args.next.packet.now in
    let no = first-not-anew p a (sym st.is_empty ∙ c.if-self.true) in
    settled-same c.settle_first.new.self t gone (begins_anew p a) (λ l. g.K.PacketSink.holds c.args.out.now start (ps ++ l)) no (c.settle_first.ensures.gone t gone h)
    (subst (g.K.PacketSink.holds c.args.out.now start) (sym (append-nil ps)) is_held)

pub returns-then-self-2-clause-out : goal.returns-then-self-2-clause-out
returns-then-self-2-clause-out g c = λ a t gone start ps st filed h is_held.
    let p = c.args.next.packet.now in
    let yes = is-anew p a (sym st.is_empty ∙ c.if-self.false) (next-shares p a (sym st.shares ∙ c.if-self-2.true)) in
    on_ok_weaker c.settle_anew.result (settled-anew c.settle_anew.new.self t gone (begins_anew p a) (λ l. g.K.PacketSink.holds c.settle_anew.new.out start (ps ++ l)) yes)
    (c.settle_anew.ensures.out t gone start ps filed h is_held)

pub returns-in-Judged-clause-out : goal.returns-in-Judged-clause-out
returns-in-Judged-clause-out g c = λ a t gone start ps st filed h is_held.
    let p = c.args.next.packet.now in
    let now = c.judge.new.self in
    let judged = c.judge.ensures in
    let becomes = judged.becomes a.config (newest a.stretches) st.config st.marks st.followed in
    let goes = goes-on c.judge.result now.marks (writing_cues a.config) p a.stretches true (sym st.is_empty ∙ c.if-self.false) becomes (search rules) (λ fault is. search rules) in
    settled-same _ t gone (begins_anew p a) (λ l. g.K.PacketSink.holds c.args.out.now start (ps ++ l)) (not-anew p a now true (sym st.shares ∙ c.if-self-2.false) goes)
    (same-gone c.args.self.now _ t gone judged.service judged.kept.0 judged.kept.1 judged.kept.2 h) (subst (g.K.PacketSink.holds c.args.out.now start) (sym (append-nil ps)) is_held)

pub returns-in-Unjudged-clause-out : goal.returns-in-Unjudged-clause-out
returns-in-Unjudged-clause-out g c = λ a t gone start ps st filed h is_held.
    let p = c.args.next.packet.now in
    let now = c.judge.new.self in
    let judged = c.judge.ensures in
    let becomes = judged.becomes a.config (newest a.stretches) st.config st.marks st.followed in
    let goes = goes-on c.judge.result now.marks (writing_cues a.config) p a.stretches false (sym st.is_empty ∙ c.if-self.false) becomes (search rules) (λ fault is. search rules) in
    settled-same _ t gone (begins_anew p a) (λ l. g.K.PacketSink.holds c.args.out.now start (ps ++ l)) (not-anew p a now false (sym st.shares ∙ c.if-self-2.false) goes)
    (same-gone c.args.self.now _ t gone judged.service judged.kept.0 judged.kept.1 judged.kept.2 h) (subst (g.K.PacketSink.holds c.args.out.now start) (sym (append-nil ps)) is_held)

pub returns-in-BeginsAnew-clause-out : goal.returns-in-BeginsAnew-clause-out
returns-in-BeginsAnew-clause-out g c = λ a t gone start ps st filed h is_held.
    let p = c.args.next.packet.now in
    let now = c.judge.new.self in
    let judged = c.judge.ensures in
    let some = sym st.is_empty ∙ c.if-self.false in
    let becomes = judged.becomes a.config (newest a.stretches) st.config st.marks st.followed in
    let anew = begins-new c.judge.result now.marks (writing_cues a.config) p a.stretches c.in-BeginsAnew.fault some becomes (search rules) in
    let yes = is-anew p a some (next-begins p a (sym st.shares ∙ c.if-self-2.false) anew) in
    let moved = same-gone c.args.self.now now t gone judged.service judged.kept.0 judged.kept.1 judged.kept.2 h in
    let call = c.settle_anew-in-BeginsAnew in
    on_ok_weaker call.result (settled-anew call.new.self t gone (begins_anew p a) (λ l. g.K.PacketSink.holds call.new.out start (ps ++ l)) yes) (call.ensures.out t gone start ps filed moved is_held)

pub returns-then-self-clause-anew : goal.returns-then-self-clause-anew
returns-then-self-clause-anew g c = λ a st. sym (first-not-anew c.args.next.packet.now a (sym st.is_empty ∙ c.if-self.true))

pub returns-then-self-2-clause-anew : goal.returns-then-self-2-clause-anew
returns-then-self-2-clause-anew g c = λ a st.
    let p = c.args.next.packet.now in
    let yes = is-anew p a (sym st.is_empty ∙ c.if-self.false) (next-shares p a (sym st.shares ∙ c.if-self-2.true)) in
    IfOk-weaker c.settle_anew.result _ _ (λ b is. is ∙ sym yes) c.settle_anew.ensures.anew

pub returns-in-Judged-clause-anew : goal.returns-in-Judged-clause-anew
returns-in-Judged-clause-anew g c = λ a st.
    let p = c.args.next.packet.now in
    let now = c.judge.new.self in
    let becomes = c.judge.ensures.becomes a.config (newest a.stretches) st.config st.marks st.followed in
    let goes = goes-on c.judge.result now.marks (writing_cues a.config) p a.stretches true (sym st.is_empty ∙ c.if-self.false) becomes (search rules) (λ fault is. search rules) in
    sym (not-anew p a now true (sym st.shares ∙ c.if-self-2.false) goes)

pub returns-in-Unjudged-clause-anew : goal.returns-in-Unjudged-clause-anew
returns-in-Unjudged-clause-anew g c = λ a st.
    let p = c.args.next.packet.now in
    let now = c.judge.new.self in
    let becomes = c.judge.ensures.becomes a.config (newest a.stretches) st.config st.marks st.followed in
    let goes = goes-on c.judge.result now.marks (writing_cues a.config) p a.stretches false (sym st.is_empty ∙ c.if-self.false) becomes (search rules) (λ fault is. search rules) in
    sym (not-anew p a now false (sym st.shares ∙ c.if-self-2.false) goes)

pub returns-in-BeginsAnew-clause-anew : goal.returns-in-BeginsAnew-clause-anew
returns-in-BeginsAnew-clause-anew g c = λ a st.
    let p = c.args.next.packet.now in
    let now = c.judge.new.self in
    let some = sym st.is_empty ∙ c.if-self.false in
    let becomes = c.judge.ensures.becomes a.config (newest a.stretches) st.config st.marks st.followed in
    let anew = begins-new c.judge.result now.marks (writing_cues a.config) p a.stretches c.in-BeginsAnew.fault some becomes (search rules) in
    let yes = is-anew p a some (next-begins p a (sym st.shares ∙ c.if-self-2.false) anew) in
    IfOk-weaker c.settle_anew-in-BeginsAnew.result _ _ (λ b is. is ∙ sym yes) c.settle_anew-in-BeginsAnew.ensures.anew
