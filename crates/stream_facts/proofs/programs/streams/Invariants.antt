use Rattle.std.proofs.Common.{All}
use Rattle.stream_facts.specs.Facts.{IsStreamOf}
use Rattle.stream_facts.specs.Pids.{OfPidsKnown}
use Rattle.stream_facts.proofs.programs.streams.Given as goal

-- of each stream so far what is told is what its PID has
abbrev pub invariant-loop-stream : goal.invariant-loop-stream
invariant-loop-stream l = OfPidsKnown l.pids (λ past. All (IsStreamOf past) l.streams.items)
