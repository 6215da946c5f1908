use Rattle.std.proofs.Common.{◌≡◌, length, Some}
use Rattle.break_choices.specs.Cuts.{mark_from, mark_ahead}
use Rattle.break_choices.proofs.pre_rolls.mark_ahead.Given as goal

-- the mark of all is that of what is left, from the best so far on
abbrev pub invariant-loop-mark : goal.invariant-loop-mark
invariant-loop-mark l = Some (mark_from l.time l.best l.rest) ≡ mark_ahead l.time l.fn.marks

abbrev pub decreases-loop-mark : goal.decreases-loop-mark
decreases-loop-mark l = length l.rest
