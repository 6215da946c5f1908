use Rattle.std.proofs.Common.{length}
use Rattle.break_plans.proofs.PlanLemmas.{GoOn}
use Rattle.break_plans.proofs.making.plan_lines.Given as goal

-- whatever the lines that are left come to, it goes on what has been planned
abbrev pub invariant-loop-line : goal.invariant-loop-line
invariant-loop-line l = GoOn l.setting l.fn.list l.rest l.lines.items

abbrev pub decreases-loop-line : goal.decreases-loop-line
decreases-loop-line l = length l.rest
