use Rattle.std.proofs.Common.{◌≡◌, Some}
use Rattle.psi_tables.specs.StreamsLeft.{streams_left}
use Rattle.program_follower.specs.Faults.{is_pid}
use Rattle.program_follower.proofs.JudgingLemmas.{among_switched}
use Rattle.program_follower.proofs.judging.switches_pid.Given as goal

abbrev pub invariant-loop-stream : goal.invariant-loop-stream
invariant-loop-stream l = among_switched (is_pid (Some l.pid)) (streams_left l.stream-iterator) ≡ among_switched (is_pid (Some l.pid)) (streams_left l.entries)
