use Rattle.std.proofs.Common.{◌≡◌, length}
use Rattle.random_access.specs.Marks.{has_header}
use Rattle.random_access.proofs.marks.has_header.Given as goal

-- what is left has the header where all has it
abbrev pub invariant-loop-after : goal.invariant-loop-after
invariant-loop-after l = has_header l.header l.rest ≡ has_header l.header l.fn.bytes

abbrev pub decreases-loop-after : goal.decreases-loop-after
decreases-loop-after l = length l.rest
