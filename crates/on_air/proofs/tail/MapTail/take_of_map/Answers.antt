use Rattle.std.proofs.Common.{◌∷◌, sym, subst, ◌∙◌}
use Rattle.ts_packet.specs.Following.{Follows}
use Rattle.psi_section.specs.Assembling.{Waits}
use Rattle.ts_packet.proofs.FieldLemmas.{without-payload}
use Rattle.on_air.specs.Tails.{brought}
use Rattle.on_air.proofs.TailLemmas.{read-past, read-repeat, read-original, same-kept, is-payload}
use Rattle.on_air.proofs.tail.MapTail.take_of_map.Goals as goal

pub returns-then-not-has_payload-clause-read : goal.returns-then-not-has_payload-clause-read
returns-then-not-has_payload-clause-read c = λ pid since on read.
    let p = c.args.packet.now in
    read-past c.args.self.now pid p since (without-payload pid p (sym c.has_payload.ensures ∙ c.if-not-has_payload.true)) read

pub returns-then-read-clause-read : goal.returns-then-read-clause-read
returns-then-read-clause-read c = λ pid since on read.
    let p = c.args.packet.now in
    let has = is-payload pid p on (sym c.has_payload.ensures ∙ c.if-not-has_payload.false) in
    let waits = c.read.ensures.waits pid since has read.waits in
    let follows = c.read.ensures.follows pid since has read.follows in
    let keeps = same-kept c.args.self.now c.read.new.self (brought pid since) c.read.ensures.same.1 c.read.ensures.same.2 read.keeps in
    let same = c.bring.ensures.same in
    read-original c.args.self.now c.bring.new.self pid p since (sym (c.read.ensures.original pid since has read.follows) ∙ c.if-read.true)
    (subst (λ a. Waits a pid (p ∷ since)) (sym same.1) waits)
    (subst (λ f. Follows f c.bring.new.self.last pid (p ∷ since)) (sym same.2) (subst (λ k. Follows c.read.new.self.follower k pid (p ∷ since)) (sym same.3) follows))
    (c.bring.ensures.keeps pid (p ∷ since) (brought pid since) waits keeps)

pub returns-else-read-clause-read : goal.returns-else-read-clause-read
returns-else-read-clause-read c = λ pid since on read.
    let p = c.args.packet.now in
    let has = is-payload pid p on (sym c.has_payload.ensures ∙ c.if-not-has_payload.false) in
    read-repeat c.args.self.now c.read.new.self pid p since (sym (c.read.ensures.original pid since has read.follows) ∙ c.if-read.false) c.read.ensures.same.1 c.read.ensures.same.2
    (c.read.ensures.waits pid since has read.waits) (c.read.ensures.follows pid since has read.follows) read.keeps
