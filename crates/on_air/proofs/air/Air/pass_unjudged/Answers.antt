use Rattle.std.proofs.Common.{sym, ap, subst}
use Rattle.ts_packet.specs.Fields.{marked}
use Rattle.on_air.specs.Tails.{TailOf}
use Rattle.on_air.proofs.TailLemmas.{tail-marked, marked-error}
use Rattle.on_air.proofs.air.Air.pass_unjudged.Goals.{then-self, else-self}
use Rattle.on_air.proofs.air.Air.pass_unjudged.Goals as goal

pub returns-clause-tail : goal.returns-clause-tail
returns-clause-tail g c = λ purpose read stands.
    let q = marked c.args.packet.now in
    elim c.if-self.branch [
      | then-self w ↦ tail-marked c.if-self.self.tail purpose q read (marked-error c.args.packet.now) (subst (λ a. TailOf a.tail purpose read) (sym w.self-is) stands)
      | else-self w ↦ tail-marked c.if-self.self.tail purpose q read (marked-error c.args.packet.now) (subst (λ a. TailOf a.tail purpose read) (sym w.self-is) stands)
    ]
