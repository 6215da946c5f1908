use Rattle.std.proofs.Common.{◌≡◌, length}
use Rattle.random_access.specs.Numbering.{first_numbering}
use Rattle.random_access.proofs.numbering.first_numbering.Given as goal

-- what is left begins with the same coded slice as all
abbrev pub invariant-loop-after : goal.invariant-loop-after
invariant-loop-after l = first_numbering l.coding l.rest ≡ first_numbering l.coding l.fn.bytes

abbrev pub decreases-loop-after : goal.decreases-loop-after
decreases-loop-after l = length l.rest
