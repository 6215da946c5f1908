use Rattle.std.proofs.Common.{◌≡◌, ◌≤◌, length}
use Rattle.program_follower.proofs.PlaceLemmas.{AreNumbers, HasPlacesFromElsewhere}
use Rattle.program_follower.proofs.places.StreamPlaces.new.Given as goal

abbrev pub invariant-loop-index : goal.invariant-loop-index
invariant-loop-index l = (l.index ≤ length l.streams) × (length l.numbers ≡ 8192) × AreNumbers l.numbers × HasPlacesFromElsewhere l.numbers l.streams l.index

abbrev pub decreases-loop-index : goal.decreases-loop-index
decreases-loop-index l = l.index
