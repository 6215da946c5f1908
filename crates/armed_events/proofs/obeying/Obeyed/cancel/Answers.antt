use Rattle.std.proofs.Common.{◌≡◌, ◌∙◌, subst}
use Rattle.event_table.specs.Tables.{StandsFor, values_of}
use Rattle.armed_events.specs.Arming.{by_cancel_answer}
use Rattle.armed_events.specs.Obeying.{after_change}
use Rattle.armed_events.specs.Valuing.{values_by}
use Rattle.armed_events.proofs.ChangeLemmas.{cancel-after}
use Rattle.armed_events.proofs.ValueLemmas.{cancel-values}
use Rattle.armed_events.proofs.obeying.Obeyed.cancel.Goals as goal

pub returns-clause-stands : goal.returns-clause-stands
returns-clause-stands g c = λ latest standing s.
    subst (λ a. StandsFor c.cancel.new.self latest (after_change (by_cancel_answer c.args.id a) standing)) (c.cancel.ensures.answer latest standing s)
    (cancel-after c.args.self.now.table c.cancel.new.self latest standing c.args.id c.cancel.result s (λ is. c.cancel.ensures.cancelled is latest standing s) c.cancel.ensures.refused)

pub returns-clause-values : goal.returns-clause-values
returns-clause-values g c = λ latest standing value s is.
    subst (λ a. values_of c.cancel.new.self ≡ values_by value (after_change (by_cancel_answer c.args.id a) standing)) (c.cancel.ensures.answer latest standing s)
    (cancel-values value (values_of c.cancel.new.self) standing c.args.id c.cancel.result (c.cancel.ensures.values ∙ is))
