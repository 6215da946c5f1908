use Rattle.std.proofs.Common.{◌≡◌, length}
use Rattle.ad_library.specs.Library.{held}
use Rattle.break_plans.specs.Openings.{opens_continued}
use Rattle.break_plans.proofs.openings.opens_continued.Given as goal

-- in the place of all streams it opens as in that of what is left
abbrev pub invariant-loop-stream : goal.invariant-loop-stream
invariant-loop-stream l = opens_continued (held l.library l.advert) l.rest l.length ≡ opens_continued (held l.library l.advert) l.fn.streams l.length

abbrev pub decreases-loop-stream : goal.decreases-loop-stream
decreases-loop-stream l = length l.rest
