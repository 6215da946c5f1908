use Rattle.std.proofs.Common.{rules, ◌≡◌, ◌∷◌}
use Rattle.services_on_air.proofs.ListLemmas.{parted-one}
use Rattle.services_on_air.proofs.TogetherLemmas.{gone-of, all-of}
use Rattle.services_on_air.proofs.sharing.+part_from.Goals as goal

pub returns-clause-stands : goal.returns-clause-stands
returns-clause-stands g t c = λ a bs one all.
    let shape : c.args.others.now ≡ c.in-Some.other.now ∷ c.in-Some.others.now = search rules in
    parted-one c.args.others.now c.in-Some.other.now c.in-Some.others.now bs a c.part_one.new.other c.part_from.new.others shape all (λ b h. c.part_one.ensures.stands a b one h) (λ ys h. c.part_from.ensures.stands a ys one h)

pub returns-clause-gone : goal.returns-clause-gone
returns-clause-gone g t c = λ ts gs all.
    let shape : c.args.others.now ≡ c.in-Some.other.now ∷ c.in-Some.others.now = search rules in
    let k = gone-of c.args.others.now c.in-Some.other.now c.in-Some.others.now ts gs shape all in
    all-of c.part_one.new.other c.part_from.new.others ts gs k.t k.more k.g k.later k.terms k.gones (c.part_one.ensures.gone k.t k.g k.first) (c.part_from.ensures.gone k.more k.later k.others)
