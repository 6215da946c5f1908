use Rattle.std.proofs.Common.{rules, ◌≡◌, ◌∷◌}
use Rattle.services_on_air.proofs.ListLemmas.{asked-first, asked-later}
use Rattle.std.proofs.lemmas.Bool.{eq-eqb, ne_eqb}
use Rattle.scte104_codec.specs.Views.{reading_of}
use Rattle.services_on_air.proofs.TogetherLemmas.{asked-first-gone, asked-later-gone}
use Rattle.services_on_air.proofs.desk.+ask_own.Goals as goal

pub returns-then-index-config-clause-stands : goal.returns-then-index-config-clause-stands
returns-then-index-config-clause-stands t c = λ p xs h.
    let shape : c.args.services.now ≡ c.in-Some.service.now ∷ c.in-Some.others.now = search rules in
    asked-first c.args.services.now c.in-Some.service.now c.in-Some.others.now p xs c.ask.new.self shape h (λ a k. c.ask.ensures.stands p a k)

pub returns-else-index-config-clause-stands : goal.returns-else-index-config-clause-stands
returns-else-index-config-clause-stands t c = λ p xs h.
    let shape : c.args.services.now ≡ c.in-Some.service.now ∷ c.in-Some.others.now = search rules in
    asked-later c.args.services.now c.in-Some.service.now c.in-Some.others.now p xs c.ask_own.new.services shape h (λ ys k. c.ask_own.ensures.stands p ys k)

pub returns-then-index-config-clause-gone : goal.returns-then-index-config-clause-gone
returns-then-index-config-clause-gone t c = λ ts gs told all.
    let shape : c.args.services.now ≡ c.in-Some.service.now ∷ c.in-Some.others.now = search rules in
    asked-first-gone c.args.services.now c.in-Some.service.now c.in-Some.others.now ts gs c.args.index (reading_of c.args.message) c.config.result shape told c.config.ensures c.ask.new.self c.ask.result
    (eq-eqb c.args.index c.config.result.index c.if-index-config.true) c.ask.ensures.gone all

pub returns-else-index-config-clause-gone : goal.returns-else-index-config-clause-gone
returns-else-index-config-clause-gone t c = λ ts gs told all.
    let shape : c.args.services.now ≡ c.in-Some.service.now ∷ c.in-Some.others.now = search rules in
    asked-later-gone c.args.services.now c.in-Some.service.now c.in-Some.others.now ts gs c.args.index (reading_of c.args.message) c.config.result shape told c.config.ensures c.ask_own.new.services c.ask_own.result
    (ne_eqb c.args.index c.config.result.index c.if-index-config.false) (λ us hs them. c.ask_own.ensures.gone us hs told them) all
