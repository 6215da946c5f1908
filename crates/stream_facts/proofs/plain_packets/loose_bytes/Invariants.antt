use Rattle.std.proofs.Common.{◌≤◌, ◌+◌, length}
use Rattle.stream_facts.proofs.plain_packets.loose_bytes.Given as goal

-- so many were gone past
abbrev pub invariant-loop-after : goal.invariant-loop-after
invariant-loop-after l = l.loose + length l.rest ≤ length l.fn.window

abbrev pub decreases-loop-after : goal.decreases-loop-after
decreases-loop-after l = length l.rest
