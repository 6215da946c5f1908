use Rattle.std.proofs.Common.{reverse, take}
use Rattle.random_access.specs.Points.{ReadsPoints}
use Rattle.random_access.proofs.reader.points_of.Given as goal

-- the packets so far were read
abbrev pub invariant-loop-before : goal.invariant-loop-before
invariant-loop-before l = ReadsPoints l.reader l.fn.pid (reverse (take l.before l.packets))
