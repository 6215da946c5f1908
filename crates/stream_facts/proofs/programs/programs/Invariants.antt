use Rattle.std.proofs.Common.{All}
use Rattle.stream_facts.specs.Facts.{AreStreamsOf}
use Rattle.stream_facts.specs.Pids.{OfPidsKnown}
use Rattle.stream_facts.proofs.programs.programs.Given as goal

-- so it is of the streams of each program so far
abbrev pub invariant-loop-listing : goal.invariant-loop-listing
invariant-loop-listing l = OfPidsKnown l.pids (λ past. All (AreStreamsOf past) l.programs.items)
