use Rattle.std.proofs.Common.{◌≡◌, length}
use Rattle.break_timelines.specs.Timelines.{has_place}
use Rattle.break_timelines.proofs.reader.has_place.Given as goal

-- it is one of all where it is one of what is left
abbrev pub invariant-loop-one : goal.invariant-loop-one
invariant-loop-one l = has_place l.place l.rest ≡ has_place l.place l.fn.begun

abbrev pub decreases-loop-one : goal.decreases-loop-one
decreases-loop-one l = length l.rest
