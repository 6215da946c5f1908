use Rattle.std.proofs.Common.{◌++◌, sym, subst}
use Rattle.std.proofs.lemmas.List.{append-nil}
use Rattle.services_on_air.specs.Histories.{begins_anew}
use Rattle.services_on_air.proofs.BesideLemmas.{stays-same, stays-settled, left-out}
use Rattle.services_on_air.proofs.GoneLemmas.{settled-same}
use Rattle.services_on_air.proofs.settling.settle_one.Goals as goal

pub returns-then-is_left_out-clause-stands : goal.returns-then-is_left_out-clause-stands
returns-then-is_left_out-clause-stands g c = λ a h stay.
    let m = stay c.if-is_left_out.true in stays-settled c.args.service.now c.args.next.packet.now a h m.0 m.1

pub returns-then-is_left_out-clause-anew : goal.returns-then-is_left_out-clause-anew
returns-then-is_left_out-clause-anew g c = λ a h stay. sym (stays-same c.args.service.now c.args.next.packet.now a h (stay c.if-is_left_out.true).0)

pub returns-then-is_left_out-clause-left : goal.returns-then-is_left_out-clause-left
returns-then-is_left_out-clause-left g c = λ a h stay is. left-out c.args.service.now c.args.next.packet.now a h (stay is)

pub returns-then-is_left_out-clause-out : goal.returns-then-is_left_out-clause-out
returns-then-is_left_out-clause-out g c = λ a t gone start ps h stay filed k is_held.
    let p = c.args.next.packet.now in
    let same = stays-same c.args.service.now p a h (stay c.if-is_left_out.true).0 in
    settled-same c.args.service.now t gone (begins_anew p a) (λ l. g.K.PacketSink.holds c.args.out.now start (ps ++ l)) same k
    (subst (g.K.PacketSink.holds c.args.out.now start) (sym (append-nil ps)) is_held)

pub returns-clause-stands : goal.returns-clause-stands
returns-clause-stands g c = λ a h stay. c.settle.ensures.stands a h

pub returns-clause-anew : goal.returns-clause-anew
returns-clause-anew g c = λ a h stay. c.settle.ensures.anew a h

pub returns-clause-left : goal.returns-clause-left
returns-clause-left g c = λ a h stay is. absurd (cc)

pub returns-clause-out : goal.returns-clause-out
returns-clause-out g c = λ a t gone start ps h stay filed k is_held. c.settle.ensures.out a t gone start ps h filed k is_held
