use Rattle.std.proofs.Common.{◌≡◌, length}
use Rattle.break_plans.specs.Marks.{first_past}
use Rattle.break_plans.proofs.drafts.first_past.Given as goal

-- the first of all marks is that of what is left
abbrev pub invariant-loop-mark : goal.invariant-loop-mark
invariant-loop-mark l = first_past l.time l.rest ≡ first_past l.time l.fn.marks

abbrev pub decreases-loop-mark : goal.decreases-loop-mark
decreases-loop-mark l = length l.rest
