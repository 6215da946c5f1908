use Rattle.std.proofs.Common.{rules, ◌≡◌, ◌∷◌, sym, subst, ◌∙◌}
use Rattle.psi_section.specs.Assembling.{capped}
use Rattle.services_on_air.specs.Outputs.{lost_among}
use Rattle.services_on_air.proofs.TogetherLemmas.{gone-of, lost-more-of}
use Rattle.services_on_air.proofs.services.+lost_of.Goals as goal

pub returns-in-Some : goal.returns-in-Some
returns-in-Some m c = λ ts gs all.
    let shape : c.args.services.now ≡ c.in-Some.service.now ∷ c.in-Some.others.now = search rules in
    let k = gone-of c.args.services.now c.in-Some.service.now c.in-Some.others.now ts gs shape all in
    subst (λ l. c.saturating_add.result ≡ capped (lost_among l)) (sym k.gones)
    (lost-more-of c.lost.result c.lost_of.result c.saturating_add.result k.g k.later (c.lost.ensures ∙ k.first.lost) (c.lost_of.ensures k.more k.later k.others) c.saturating_add.ensures)
