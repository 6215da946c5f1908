use Rattle.std.proofs.Common.{◌≡◌, ◌++◌, ◌∙◌, sym, ap, subst}
use Rattle.std.proofs.lemmas.List.{append-nil}
use Rattle.chain_services.specs.Parts.{owns}
use Rattle.injector.specs.Steps.{packets_in}
use Rattle.chain_services.proofs.PartLemmas.{taken_packets, own_out, other_out, own_failed, other_failed}
use Rattle.chain_services.proofs.UnfollowedLemmas.{passed-by}
use Rattle.chain_services.proofs.passing.pass_closely.Goals as goal

pub returns-then-overlooks-clause-ok : goal.returns-then-overlooks-clause-ok
returns-then-overlooks-clause-ok g c = λ t steps start ps filed h is_held.
    passed-by c.args.service.now t c.args.packet.now steps h (λ l. g.K.PacketSink.holds c.args.out.now start (ps ++ l))
    (c.overlooks.ensures.stands t.config t.filed h.taken h.stands c.if-overlooks.true) (subst (g.K.PacketSink.holds c.args.out.now start) (sym (append-nil ps)) is_held)

pub returns-in-Ok-clause-ok : goal.returns-in-Ok-clause-ok
returns-in-Ok-clause-ok g c = λ t steps start ps filed h is_held.
    let p = c.args.packet.now in
    let told : c.owns.result ≡ owns t p (packets_in steps) = c.owns.ensures t.config h.taken h.stands.injector ∙ ap (owns t p) (taken_packets c.args.service.now t steps h) in
    let y = sym told ∙ c.if-owns.true in
    let done = c.in-Ok.ensures.ok t steps start ps filed h is_held in
    record { owns_it = sym y; still = done.still; serves = done.serves; out = own_out t p steps (λ l. g.K.PacketSink.holds c.pass_and_learn.new.out start (ps ++ l)) y done.out }

pub returns-in-Err-clause-err : goal.returns-in-Err-clause-err
returns-in-Err-clause-err g c = λ t steps start ps filed h is_held.
    let p = c.args.packet.now in
    let told : c.owns.result ≡ owns t p (packets_in steps) = c.owns.ensures t.config h.taken h.stands.injector ∙ ap (owns t p) (taken_packets c.args.service.now t steps h) in
    let y = sym told ∙ c.if-owns.true in
    own_failed c.in-Err.fault t p steps (λ l. g.K.PacketSink.holds c.pass_and_learn.new.out start (ps ++ l)) (λ put q x. g.K.PacketSink.fails c.pass_and_learn.new.out start (ps ++ put) q x) y
    (c.in-Err.ensures.err t steps start ps filed h is_held)

pub returns-in-Ok-pass_and_learn-clause-ok : goal.returns-in-Ok-pass_and_learn-clause-ok
returns-in-Ok-pass_and_learn-clause-ok g c = λ t steps start ps filed h is_held.
    let p = c.args.packet.now in
    let told : c.owns.result ≡ owns t p (packets_in steps) = c.owns.ensures t.config h.taken h.stands.injector ∙ ap (owns t p) (taken_packets c.args.service.now t steps h) in
    let n = sym told ∙ c.if-owns.false in
    let done = c.in-Ok-pass_and_learn.ensures.ok t steps start ps filed h tt in
    record { owns_it = sym n; still = done.still; serves = done.serves; out = other_out t p steps (λ l. g.K.PacketSink.holds c.args.out.now start (ps ++ l)) n (subst (g.K.PacketSink.holds c.args.out.now start) (sym (append-nil ps)) is_held) }

pub returns-in-Err-pass_and_learn-clause-err : goal.returns-in-Err-pass_and_learn-clause-err
returns-in-Err-pass_and_learn-clause-err g c = λ t steps start ps filed h is_held.
    other_failed c.in-Err-pass_and_learn.fault t c.args.packet.now steps _ _ _ (subst (g.K.PacketSink.holds _ start) (sym (append-nil ps)) is_held) (c.in-Err-pass_and_learn.ensures.err t steps start ps filed h tt)
