use Rattle.std.proofs.Common.{◌≡◌, ◌∷◌, Some, sym, subst, ◌∙◌}
use Rattle.ts_packet.proofs.FieldLemmas.{off_payload}
use Rattle.on_air.specs.Tails.{TailIs}
use Rattle.on_air.proofs.TailLemmas.{read-past}
use Rattle.on_air.proofs.tail.MapTail.take.Goals as goal

pub returns-else-is_on-clause-behind : goal.returns-else-is_on-clause-behind
returns-else-is_on-clause-behind c = λ known since some stands.
    let p = c.args.packet.now in
    let t = c.args.self.now in
    let is : t.pid ≡ Some c.in-Some.pid = c.in-Some.is in
    let read = subst (λ o. TailIs o t known since) is stands in
    subst (λ o. TailIs o t known (p ∷ since)) (sym is) (read.0, read-past t c.in-Some.pid p since (off_payload c.in-Some.pid p (sym c.is_on.ensures ∙ c.if-is_on.false)) read.1)
