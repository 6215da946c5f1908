use Rattle.std.proofs.Common.{rules, ◌≡◌, ◌∷◌}
use Rattle.injector.specs.Steps.{packets_in}
use Rattle.chain_services.proofs.ApartLemmas.{split, share_here, share_later}
use Rattle.chain_services.proofs.sharing.+share_a_pid.Goals as goal

pub returns-then-one_shares : goal.returns-then-one_shares
returns-then-one_shares m c = λ ts steps all.
    let shape : c.args.services.now ≡ c.in-Some.one.now ∷ c.in-Some.others.now = search rules in
    let k = split c.args.services.now c.in-Some.one.now c.in-Some.others.now ts steps shape all in
    share_here k.t ts k.rest (packets_in steps) c.one_shares.result k.parts (c.one_shares.ensures k.t k.rest steps k.serves k.serve_rest) c.if-one_shares.true

pub returns-else-one_shares : goal.returns-else-one_shares
returns-else-one_shares m c = λ ts steps all.
    let shape : c.args.services.now ≡ c.in-Some.one.now ∷ c.in-Some.others.now = search rules in
    let k = split c.args.services.now c.in-Some.one.now c.in-Some.others.now ts steps shape all in
    share_later k.t ts k.rest (packets_in steps) c.one_shares.result c.share_a_pid.result k.parts (c.one_shares.ensures k.t k.rest steps k.serves k.serve_rest) c.if-one_shares.false
    (c.share_a_pid.ensures k.rest steps k.serve_rest)
