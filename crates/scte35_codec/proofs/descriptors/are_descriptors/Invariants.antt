use Rattle.std.proofs.Common.{◌≡◌, length}
use Rattle.scte35_codec.specs.Descriptors.{descriptors_of}
use Rattle.scte35_codec.proofs.descriptors.are_descriptors.Given as goal

-- what the descriptors leave is what those of the rest leave
abbrev pub invariant-loop-after : goal.invariant-loop-after
invariant-loop-after l = (descriptors_of l.rest).1 ≡ (descriptors_of l.bytes).1

abbrev pub decreases-loop-after : goal.decreases-loop-after
decreases-loop-after l = length l.rest
