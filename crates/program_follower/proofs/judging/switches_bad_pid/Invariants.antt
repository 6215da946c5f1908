use Rattle.std.proofs.Common.{◌≡◌}
use Rattle.psi_tables.specs.StreamsLeft.{streams_left}
use Rattle.program_follower.specs.Faults.{bad_switched, pids_in}
use Rattle.program_follower.proofs.JudgingLemmas.{among_switched}
use Rattle.program_follower.proofs.judging.switches_bad_pid.Given as goal

abbrev pub invariant-loop-stream : goal.invariant-loop-stream
invariant-loop-stream l = among_switched (bad_switched (pids_in (streams_left l.entries))) (streams_left l.stream-iterator) ≡ among_switched (bad_switched (pids_in (streams_left l.entries))) (streams_left l.entries)
