use Rattle.std.proofs.Common.{rules, ◌≡◌, ◌∷◌}
use Rattle.std.proofs.lemmas.Bool.{eq-eqb, ne_eqb}
use Rattle.scte104_codec.specs.Views.{reading_of}
use Rattle.chain_services.proofs.ServingLemmas.{asked_first, asked_later}
use Rattle.chain_services.proofs.desk.+ask_own.Goals as goal

pub returns-then-index-config : goal.returns-then-index-config
returns-then-index-config t c = λ ts steps apart all told.
    let shape : c.args.services.now ≡ c.in-Some.service.now ∷ c.in-Some.others.now = search rules in
    asked_first c.args.services.now c.in-Some.service.now c.in-Some.others.now (reading_of c.args.message) steps shape c.args.index told c.config.result c.config.ensures ts c.ask.new.self c.ask.result apart all (eq-eqb c.args.index c.config.result.index c.if-index-config.true) c.ask.ensures

pub returns-else-index-config : goal.returns-else-index-config
returns-else-index-config t c = λ ts steps apart all told.
    let shape : c.args.services.now ≡ c.in-Some.service.now ∷ c.in-Some.others.now = search rules in
    asked_later c.args.services.now c.in-Some.service.now c.in-Some.others.now (reading_of c.args.message) steps shape c.args.index told c.config.result c.config.ensures ts c.ask_own.new.services c.ask_own.result apart all (ne_eqb c.args.index c.config.result.index c.if-index-config.false)
    (λ us away them. c.ask_own.ensures us steps away them told)
