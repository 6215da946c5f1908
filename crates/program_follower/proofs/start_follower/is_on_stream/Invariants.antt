use Rattle.std.proofs.Common.{◌≡◌, drop}
use Rattle.ts_packet.specs.Fields.{on_one}
use Rattle.program_follower.specs.Faults.{pids_in}
use Rattle.program_follower.proofs.start_follower.is_on_stream.Given as goal

-- it is on none of the streams before
abbrev pub invariant-loop-stream : goal.invariant-loop-stream
invariant-loop-stream l = on_one (pids_in (drop l.stream-index l.streams)) l.packet ≡ on_one (pids_in l.streams) l.packet
