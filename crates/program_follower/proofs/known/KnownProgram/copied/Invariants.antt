use Rattle.std.proofs.Common.{◌≡◌, ◌+◌, ◌≤◌, ◌++◌, length, drop}
use Rattle.program_follower.proofs.known.KnownProgram.copied.Given as goal

-- those that are there, and behind them those that are left
abbrev pub invariant-loop-stream : goal.invariant-loop-stream
invariant-loop-stream l = record {
  all : l.streams.items ++ drop l.stream-index l.stream-items ≡ l.fn.self.streams.items;
  room : length l.streams.items + length (drop l.stream-index l.stream-items) ≤ 8;
}
