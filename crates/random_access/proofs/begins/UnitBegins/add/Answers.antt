use Rattle.std.proofs.Common.{rules, sym, ◌∙◌}
use Rattle.random_access.proofs.PointLemmas.{keeps_marked, keeps_unmarked}
use Rattle.random_access.proofs.begins.UnitBegins.add.Goals as goal

pub returns-in_ok-push : goal.returns-in_ok-push
returns-in_ok-push c = λ bs h.
    keeps_marked c.args.self.now _ bs c.args.begin (record { units = search rules; first = search rules; last = search rules }) (sym c.any.ensures ∙ c.if-any.true) (search rules) h

pub returns-else-any : goal.returns-else-any
returns-else-any c = λ bs h.
    keeps_unmarked c.args.self.now _ bs c.args.begin (record { units = search rules; first = search rules; last = search rules }) (sym c.any.ensures ∙ c.if-any.false) (search rules) h
