use Rattle.std.proofs.Common.{◌≡◌, length}
use Rattle.break_lists.specs.Words.{behind_blanks}
use Rattle.break_lists.proofs.words.behind_blanks.Given as goal

-- what is left has the same text behind its blanks
abbrev pub invariant-loop-first : goal.invariant-loop-first
invariant-loop-first l = behind_blanks l.rest ≡ behind_blanks l.fn.text

abbrev pub decreases-loop-first : goal.decreases-loop-first
decreases-loop-first l = length l.rest
