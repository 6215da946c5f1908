use Rattle.std.proofs.Common.{All}
use Rattle.stream_facts.specs.Facts.{IsFree}
use Rattle.stream_facts.specs.Pids.{OfPidsKnown}
use Rattle.stream_facts.proofs.free_pids.free_pids.Given as goal

-- each PID so far is free
abbrev pub invariant-loop-number : goal.invariant-loop-number
invariant-loop-number l = OfPidsKnown l.pids (λ past. All (IsFree past l.programs) l.free.items)
