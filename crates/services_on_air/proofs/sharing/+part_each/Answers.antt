use Rattle.std.proofs.Common.{rules, ◌≡◌, ◌∷◌}
use Rattle.services_on_air.proofs.ListLemmas.{parted-all}
use Rattle.services_on_air.proofs.TogetherLemmas.{gone-of, all-of}
use Rattle.services_on_air.proofs.sharing.+part_each.Goals as goal

pub returns-clause-stands : goal.returns-clause-stands
returns-clause-stands g t c = λ xs all.
    let shape : c.args.services.now ≡ c.in-Some.one.now ∷ c.in-Some.others.now = search rules in
    parted-all c.args.services.now c.in-Some.one.now c.in-Some.others.now xs c.part_each.new.services c.part_from.new.others shape all (λ ys h. c.part_each.ensures.stands ys h) (λ a ys o h. c.part_from.ensures.stands a ys o h)

pub returns-clause-gone : goal.returns-clause-gone
returns-clause-gone g t c = λ ts gs all.
    let shape : c.args.services.now ≡ c.in-Some.one.now ∷ c.in-Some.others.now = search rules in
    let k = gone-of c.args.services.now c.in-Some.one.now c.in-Some.others.now ts gs shape all in
    all-of c.in-Some.one.now c.part_from.new.others ts gs k.t k.more k.g k.later k.terms k.gones k.first (c.part_from.ensures.gone k.more k.later (c.part_each.ensures.gone k.more k.later k.others))
