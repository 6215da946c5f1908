use Rattle.std.proofs.Common.{◌≡◌, [], subst, arith}
use Rattle.std.proofs.lemmas.Grind.{common_steps}
use Rattle.break_plans.proofs.PlanLemmas.{GoOn, at_last}
use Rattle.break_plans.proofs.making.plan_lines.Goals as goal

pub returns : goal.returns
returns c =
    let e : c.loop-line.rest.now ≡ [] = grind (arith, common_steps, c.in_default.ensures.cases) in
    at_last c.args.setting.now c.args.list.now c.loop-line.lines.items
    (subst (λ xs. GoOn c.args.setting.now c.args.list.now xs c.loop-line.lines.items) e c.loop-line.invariant)
