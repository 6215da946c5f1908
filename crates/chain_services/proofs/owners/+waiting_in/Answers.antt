use Rattle.std.proofs.Common.{rules, ◌≡◌, ◌∷◌}
use Rattle.injector.specs.Steps.{packets_in}
use Rattle.chain_services.proofs.ApartLemmas.{split}
use Rattle.chain_services.proofs.OwnerLemmas.{waits-more}
use Rattle.chain_services.proofs.owners.+waiting_in.Goals as goal

pub returns-in-Some : goal.returns-in-Some
returns-in-Some m c = λ ts steps pid all pat none.
    let shape : c.args.services.now ≡ c.in-Some.service.now ∷ c.in-Some.others.now = search rules in
    let k = split c.args.services.now c.in-Some.service.now c.in-Some.others.now ts steps shape all in
    waits-more c.with_taker.result c.waiting_in-behind.result k.t k.rest ts pid (packets_in steps) c.is_listed.result k.parts
    c.with_taker.ensures.below c.with_taker.ensures.others c.with_taker.ensures.bit (c.is_listed.ensures k.t steps k.serves) pat none
    (λ n. c.waiting_in-behind.ensures k.rest steps pid k.serve_rest pat n)
