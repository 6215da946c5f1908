use Rattle.std.proofs.Common.{◌≡◌, ◌∙◌, subst}
use Rattle.event_table.specs.Tables.{values_of}
use Rattle.pes_time.specs.Line.{place}
use Rattle.armed_events.specs.Arming.{by_shorten_answer}
use Rattle.armed_events.specs.Obeying.{after_change}
use Rattle.armed_events.specs.Valuing.{values_by}
use Rattle.armed_events.proofs.ValueLemmas.{end-values}
use Rattle.armed_events.proofs.obeying.Obeyed.end.Goals as goal

pub returns-clause-values : goal.returns-clause-values
returns-clause-values g c = λ latest standing value s is.
    let at = place latest c.args.time in
    subst (λ a. values_of c.shorten.new.self ≡ values_by value (after_change (by_shorten_answer c.args.id at a) standing)) (c.shorten.ensures.answer latest standing s)
    (end-values value (values_of c.shorten.new.self) standing c.args.id at c.shorten.result (c.shorten.ensures.values ∙ is))
