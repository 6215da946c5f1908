use Rattle.std.proofs.Common.{rules, ◌≡◌, ◌∷◌}
use Rattle.injector.specs.Steps.{packets_in}
use Rattle.chain_services.proofs.ApartLemmas.{split, shares_here, shares_later}
use Rattle.chain_services.proofs.sharing.+one_shares.Goals as goal

pub returns-then-share_one : goal.returns-then-share_one
returns-then-share_one m c = λ t ts steps h all.
    let shape : c.args.others.now ≡ c.in-Some.other.now ∷ c.in-Some.others.now = search rules in
    let k = split c.args.others.now c.in-Some.other.now c.in-Some.others.now ts steps shape all in
    shares_here t k.t ts k.rest (packets_in steps) c.share_one.result k.parts (c.share_one.ensures t k.t steps h k.serves) c.if-share_one.true

pub returns-else-share_one : goal.returns-else-share_one
returns-else-share_one m c = λ t ts steps h all.
    let shape : c.args.others.now ≡ c.in-Some.other.now ∷ c.in-Some.others.now = search rules in
    let k = split c.args.others.now c.in-Some.other.now c.in-Some.others.now ts steps shape all in
    shares_later t k.t ts k.rest (packets_in steps) c.share_one.result c.one_shares.result k.parts (c.share_one.ensures t k.t steps h k.serves) c.if-share_one.false
    (c.one_shares.ensures t k.rest steps h k.serve_rest)
