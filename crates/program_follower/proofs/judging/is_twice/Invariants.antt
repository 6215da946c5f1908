use Rattle.std.proofs.Common.{◌≡◌}
use Rattle.psi_tables.specs.StreamsLeft.{streams_left}
use Rattle.program_follower.specs.Faults.{is_twice, pids_in}
use Rattle.program_follower.proofs.JudgingLemmas.{twice_from}
use Rattle.program_follower.proofs.judging.is_twice.Given as goal

abbrev pub invariant-loop-stream : goal.invariant-loop-stream
invariant-loop-stream l = twice_from l.is_found l.pid (streams_left l.stream-iterator) ≡ is_twice l.pid (pids_in (streams_left l.entries))
