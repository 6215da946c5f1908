use Rattle.std.proofs.Common.{◌≡◌, ◌++◌, length}
use Rattle.break_plans.specs.Verdicts.{taken}
use Rattle.break_plans.proofs.judging.taken.Given as goal

-- those that are taken are those so far, and those of what is left
abbrev pub invariant-loop-one : goal.invariant-loop-one
invariant-loop-one l = l.requests.items ++ taken l.rest ≡ taken l.fn.judged

abbrev pub decreases-loop-one : goal.decreases-loop-one
decreases-loop-one l = length l.rest
