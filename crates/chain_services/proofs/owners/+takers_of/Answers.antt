use Rattle.std.proofs.Common.{rules, ◌≡◌, ◌∷◌}
use Rattle.injector.specs.Steps.{packets_in}
use Rattle.chain_services.proofs.ApartLemmas.{split}
use Rattle.chain_services.proofs.UnfollowedLemmas.{leaves-more, not-of}
use Rattle.chain_services.proofs.owners.+takers_of.Goals as goal

pub returns-in-Some : goal.returns-in-Some
returns-in-Some m c = λ ts steps all below.
    let shape : c.args.services.now ≡ c.in-Some.service.now ∷ c.in-Some.others.now = search rules in
    let k = split c.args.services.now c.in-Some.service.now c.in-Some.others.now ts steps shape all in
    leaves-more c.with_taker.result c.takers_of-behind.result k.t k.rest ts c.args.pid (packets_in steps) k.parts (c.with_taker.ensures.others below)
    (λ bit. not-of c.in-Some.service.now k.t c.args.pid steps k.serves (c.overlooks_pid.ensures k.t.config k.serves.taken k.serves.stands.injector (c.with_taker.ensures.bit below bit)))
    (c.takers_of-behind.ensures k.rest steps k.serve_rest (c.with_taker.ensures.below below))
