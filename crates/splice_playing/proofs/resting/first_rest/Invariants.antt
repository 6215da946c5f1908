use Rattle.std.proofs.Common.{◌≡◌, drop, None}
use Rattle.splice_playing.specs.Resting.{rest_behind}
use Rattle.splice_playing.proofs.resting.first_rest.Given as goal

-- what is found of all is what is found of those left, behind the first start of those before them
abbrev pub invariant-loop-at : goal.invariant-loop-at
invariant-loop-at l = rest_behind l.high l.first (drop l.at l.table.entries.items) ≡ rest_behind l.high None l.table.entries.items
