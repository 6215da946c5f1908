use Rattle.std.proofs.Common.{◌≡◌, ◌+◌, ◌≤◌, ◌++◌, length, drop}
use Rattle.program_follower.specs.Faults.{pids_in}
use Rattle.program_follower.proofs.start_follower.add_pids.Given as goal

-- those that are there, and behind them those of the streams that are left
abbrev pub invariant-loop-stream : goal.invariant-loop-stream
invariant-loop-stream l = record {
  all : l.pids.items ++ pids_in (drop l.stream-index l.streams) ≡ l.fn.pids.items ++ pids_in l.streams;
  room : length l.pids.items + length (drop l.stream-index l.streams) ≤ 9;
}
