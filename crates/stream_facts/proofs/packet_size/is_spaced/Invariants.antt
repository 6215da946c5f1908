use Rattle.std.proofs.Common.{◌≡◌, length}
use Rattle.stream_facts.specs.Sizes.{is_spaced}
use Rattle.stream_facts.proofs.packet_size.is_spaced.Given as goal

-- what is left has such a row where all has one
abbrev pub invariant-loop-after : goal.invariant-loop-after
invariant-loop-after l = is_spaced l.step l.rest ≡ is_spaced l.step l.fn.bytes

abbrev pub decreases-loop-after : goal.decreases-loop-after
decreases-loop-after l = length l.rest
