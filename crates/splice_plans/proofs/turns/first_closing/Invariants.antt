use Rattle.splice_plans.proofs.TurnLemmas.{FirstUpTo}
use Rattle.splice_plans.proofs.turns.first_closing.Given as goal

-- the first of those up to here
abbrev pub invariant-loop-at : goal.invariant-loop-at
invariant-loop-at l = FirstUpTo l.table l.stream l.at l.first
