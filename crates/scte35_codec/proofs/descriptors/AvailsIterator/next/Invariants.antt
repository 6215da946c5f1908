use Rattle.std.proofs.Common.{◌≡◌, length}
use Rattle.scte35_codec.specs.AvailsLeft.{avails_left}
use Rattle.scte35_codec.proofs.descriptors.AvailsIterator.next.Given as goal

-- no id that is to come is behind
abbrev pub invariant-loop-tag : goal.invariant-loop-tag
invariant-loop-tag l = avails_left l.self ≡ avails_left l.initial.self

abbrev pub decreases-loop-tag : goal.decreases-loop-tag
decreases-loop-tag l = length l.self.bytes.now
