use Rattle.std.proofs.Common.{◌≡◌, length}
use Rattle.break_plans.specs.Verdicts.{verdict_at}
use Rattle.break_plans.proofs.planned.Plan.verdict.Given as goal

-- the verdict is that of what is left
abbrev pub invariant-loop-judged : goal.invariant-loop-judged
invariant-loop-judged l = verdict_at l.place l.rest ≡ verdict_at l.place l.self.judged.items

abbrev pub decreases-loop-judged : goal.decreases-loop-judged
decreases-loop-judged l = length l.rest
