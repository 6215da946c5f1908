use Rattle.std.proofs.Common.{◌≡◌, [], ap, sym, ◌∙◌, subst, map}
use Rattle.break_scripts.specs.Laws.{AreInOrder}
use Rattle.break_plans.specs.Order.{asked_from}
use Rattle.break_plans.specs.Verdicts.{taken}
use Rattle.break_plans.specs.Judging.{unjudged}
use Rattle.break_plans.proofs.OrderLemmas.{requests_in_order}
use Rattle.break_plans.proofs.making.plan.Goals as goal

pub returns : goal.returns
returns c =
    let judged : map unjudged c.in_ok-judged.judged.items ≡ asked_from 0 [] c.in_ok-lines.lines.items
    = c.in_ok-judged.ensures ∙ c.as_slice-2.ensures.value ∙ c.in_ok-asked.ensures ∙ ap (asked_from 0 []) c.as_slice.ensures.value in
    let requests : c.in_ok-requests.requests.items ≡ taken c.in_ok-judged.judged.items
    = c.in_ok-requests.ensures ∙ ap taken c.as_slice-3.ensures.value in
    record {
      lines = c.in_ok-lines.ensures;
      judged = judged;
      requests = requests;
      in_order = subst (AreInOrder 0) (sym requests) (requests_in_order c.in_ok-lines.lines.items c.in_ok-judged.judged.items judged);
    }
