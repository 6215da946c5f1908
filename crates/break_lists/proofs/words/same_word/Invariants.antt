use Rattle.std.proofs.Common.{◌≡◌, length}
use Rattle.break_lists.specs.Words.{same_word}
use Rattle.break_lists.proofs.words.same_word.Given as goal

-- what is left of both is one word where both are
abbrev pub invariant-loop-first : goal.invariant-loop-first
invariant-loop-first l = same_word l.left l.right ≡ same_word l.fn.word l.fn.other

abbrev pub decreases-loop-first : goal.decreases-loop-first
decreases-loop-first l = length l.left
