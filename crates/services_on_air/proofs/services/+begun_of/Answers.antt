use Rattle.std.proofs.Common.{rules, ◌≡◌, ◌∷◌, sym, subst, ◌∙◌}
use Rattle.psi_section.specs.Assembling.{capped}
use Rattle.services_on_air.specs.Airing.{begun_in}
use Rattle.services_on_air.proofs.ListLemmas.{standing, begun-more}
use Rattle.services_on_air.proofs.services.+begun_of.Goals as goal

pub returns-in-Some : goal.returns-in-Some
returns-in-Some m c = λ xs all.
    let shape : c.args.services.now ≡ c.in-Some.service.now ∷ c.in-Some.others.now = search rules in
    let k = standing c.args.services.now c.in-Some.service.now c.in-Some.others.now xs shape all in
    subst (λ w. c.saturating_add.result ≡ capped (begun_in w)) (sym k.parts)
    (begun-more c.begun.result c.begun_of-behind.result c.saturating_add.result k.a k.more (c.begun.ensures ∙ k.first.begun) (c.begun_of-behind.ensures k.more k.others) c.saturating_add.ensures)
