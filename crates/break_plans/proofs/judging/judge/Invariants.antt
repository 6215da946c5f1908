use Rattle.std.proofs.Common.{◌≡◌, ◌++◌, map, length}
use Rattle.break_plans.specs.Judging.{unjudged}
use Rattle.break_plans.proofs.judging.judge.Given as goal

-- what was judged, and what is left, are all
abbrev pub invariant-loop-next : goal.invariant-loop-next
invariant-loop-next l = map unjudged l.judged.items ++ l.rest ≡ l.fn.asked

abbrev pub decreases-loop-next : goal.decreases-loop-next
decreases-loop-next l = length l.rest
