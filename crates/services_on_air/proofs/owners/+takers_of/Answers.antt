use Rattle.std.proofs.Common.{rules, ◌≡◌, ◌∷◌}
use Rattle.services_on_air.proofs.ListLemmas.{standing}
use Rattle.services_on_air.proofs.OwnerLemmas.{takes-more}
use Rattle.services_on_air.proofs.owners.+takers_of.Goals as goal

pub returns-in-Some : goal.returns-in-Some
returns-in-Some m c = λ xs all below.
    let shape : c.args.services.now ≡ c.in-Some.service.now ∷ c.in-Some.others.now = search rules in
    let k = standing c.args.services.now c.in-Some.service.now c.in-Some.others.now xs shape all in
    takes-more c.with_taker.result c.takers_of-behind.result k.a k.more xs c.args.pid k.parts (c.with_taker.ensures.others below)
    (λ bit. c.overlooks_pid.ensures k.a k.first (c.with_taker.ensures.bit below bit)) (c.takers_of-behind.ensures k.more k.others (c.with_taker.ensures.below below))
