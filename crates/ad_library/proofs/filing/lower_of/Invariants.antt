use Rattle.std.proofs.Common.{◌≡◌, length}
use Rattle.std.specs.Prelude.{option_map}
use Rattle.ad_library.specs.Advertisements.{lower_of}
use Rattle.ad_library.specs.Storing.{on_line}
use Rattle.ad_library.specs.Filing.{least_of_places}
use Rattle.ad_library.proofs.filing.lower_of.Given as goal

abbrev pub invariant-loop-place : goal.invariant-loop-place
invariant-loop-place l = lower_of (option_map on_line l.least) (least_of_places l.rest) ≡ lower_of (option_map on_line l.fn.before) (least_of_places l.fn.places)

abbrev pub decreases-loop-place : goal.decreases-loop-place
decreases-loop-place l = length l.rest
