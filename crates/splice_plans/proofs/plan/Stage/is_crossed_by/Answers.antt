use Rattle.std.proofs.Common.{◌∙◌, ap, rules}
use Rattle.pes_time.specs.Line.{place}
use Rattle.event_table.specs.Rings.{is_before_on_ring}
use Rattle.splice_plans.proofs.TurnLemmas.{before-end, closed-crosses}
use Rattle.splice_plans.proofs.plan.Stage.is_crossed_by.Goals as goal

pub returns-in-Closing : goal.returns-in-Closing
returns-in-Closing c = λ latest e is within near.
    c.is_before-in-Closing.ensures ∙ ap (is_before_on_ring c.args.time) c.end.ensures
    ∙ before-end latest e c.args.event.now c.args.time (search rules) is within near ∙ closed-crosses e (place latest c.args.time) c.args.self c.in-Closing.is
