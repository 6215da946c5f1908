use Rattle.std.proofs.Common.{◌≡◌, length, None}
use Rattle.break_choices.specs.Pictures.{last_picture}
use Rattle.break_choices.proofs.pictures.last_picture.Given as goal

-- the best of all is that of what is left, from the best so far on
abbrev pub invariant-loop-picture : goal.invariant-loop-picture
invariant-loop-picture l = last_picture l.wanted l.at l.best l.rest ≡ last_picture l.wanted l.at None l.fn.pictures

abbrev pub decreases-loop-picture : goal.decreases-loop-picture
decreases-loop-picture l = length l.rest
