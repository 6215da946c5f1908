use Rattle.std.proofs.Common.{◌≤◌, length}
use Rattle.break_plans.proofs.judging.pass.Given as goal

abbrev pub invariant-loop-mark : goal.invariant-loop-mark
invariant-loop-mark l = length l.rest ≤ length l.fn.marks

abbrev pub decreases-loop-mark : goal.decreases-loop-mark
decreases-loop-mark l = length l.rest
