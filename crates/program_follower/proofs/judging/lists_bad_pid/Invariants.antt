use Rattle.std.proofs.Common.{◌≡◌}
use Rattle.psi_tables.specs.StreamsLeft.{streams_left}
use Rattle.program_follower.specs.Faults.{bad_pid}
use Rattle.program_follower.proofs.JudgingLemmas.{among}
use Rattle.program_follower.proofs.judging.lists_bad_pid.Given as goal

abbrev pub invariant-loop-stream : goal.invariant-loop-stream
invariant-loop-stream l = among (bad_pid l.pmt_pid) (streams_left l.stream-iterator) ≡ among (bad_pid l.pmt_pid) (streams_left l.entries)
