use Rattle.std.proofs.Common.{rules, ◌≡◌, [], ◌∷◌, ◌++◌}
use Rattle.services_on_air.proofs.ListLemmas.{added}
use Rattle.services_on_air.proofs.TogetherLemmas.{added-gone}
use Rattle.services_on_air.proofs.services.+add_services.Goals as goal

pub returns-in-Ok-clause-stands : goal.returns-in-Ok-clause-stands
returns-in-Ok-clause-stands g t c = λ xs all.
    let shape : c.args.configs.now ≡ c.in-Some.config.now ∷ c.in-Some.others.now = search rules in
    let is : c.push.new.self.items ≡ c.args.services.now.items ++ c.new.result ∷ [] = search rules in
    added c.add_services.result c.args.services.now.items c.push.new.self.items c.add_services.new.services.items c.new.result c.in-Some.config.now c.in-Some.others.now c.args.configs.now xs shape is
    c.new.ensures.stands all (λ ys h. c.add_services.ensures.stands ys h)

pub returns-in-Ok-clause-gone : goal.returns-in-Ok-clause-gone
returns-in-Ok-clause-gone g t c = λ before ts gs is_of all.
    let shape : c.args.configs.now ≡ c.in-Some.config.now ∷ c.in-Some.others.now = search rules in
    let is : c.push.new.self.items ≡ c.args.services.now.items ++ c.new.result ∷ [] = search rules in
    added-gone c.add_services.result c.args.services.now.items c.push.new.self.items c.add_services.new.services.items c.new.result c.in-Some.config.now c.in-Some.others.now c.args.configs.now before ts gs shape is
    is_of c.new.ensures.gone all (λ b us hs e h. c.add_services.ensures.gone b us hs e h)
