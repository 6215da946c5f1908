use Rattle.std.proofs.Common.{◌++◌, sym, subst, ◌∙◌}
use Rattle.std.proofs.lemmas.List.{append-nil}
use Rattle.services_on_air.specs.Histories.{put_own, aired_as}
use Rattle.services_on_air.proofs.BesideLemmas.{stays-behind, stays-passed, stays-gone}
use Rattle.services_on_air.proofs.passing.pass_one.Goals as goal

pub returns-then-is_left_out-clause-stands : goal.returns-then-is_left_out-clause-stands
returns-then-is_left_out-clause-stands g c = λ a h left.
    let s = c.args.service.now in
    let p = c.args.packet.now in
    let l = left c.if-is_left_out.true in
    let beside = c.beside.ensures in
    (stays-behind s p a h l, stays-passed s p a h l c.beside.result beside.own beside.unjudged beside.learns)

pub returns-then-is_left_out-clause-left : goal.returns-then-is_left_out-clause-left
returns-then-is_left_out-clause-left g c = λ a left. c.beside.ensures.left ∙ sym (left c.if-is_left_out.true).judged

pub returns-then-is_left_out-clause-out : goal.returns-then-is_left_out-clause-out
returns-then-is_left_out-clause-out g c = λ a t gone start ps h left filed k is_held.
    let s = c.args.service.now in
    let p = c.args.packet.now in
    let holds = g.K.PacketSink.holds c.args.out.now start in (
      stays-gone s p a h (left c.if-is_left_out.true) t gone c.of_bytes.ensures k,
      subst (λ b. holds (ps ++ put_own b t (aired_as p s.is_unjudged) gone)) (sym c.beside.ensures.own) (subst holds (sym (append-nil ps)) is_held),
    )

pub returns-clause-stands : goal.returns-clause-stands
returns-clause-stands g c = λ a h left. c.pass.ensures.stands a h

pub returns-clause-left : goal.returns-clause-left
returns-clause-left g c = λ a left. c.pass.ensures.left

pub returns-clause-out : goal.returns-clause-out
returns-clause-out g c = λ a t gone start ps h left filed k is_held. c.pass.ensures.out t gone start ps filed k is_held
