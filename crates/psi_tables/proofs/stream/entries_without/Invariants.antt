use Rattle.std.proofs.Common.{length}
use Rattle.std.specs.List.{list_any}
use Rattle.psi_tables.specs.Runs.{things_of}
use Rattle.psi_tables.specs.Streams.{entry_at}
use Rattle.psi_tables.specs.ProgramMap.{entries_bytes}
use Rattle.psi_tables.specs.Cue.{lists_pid, without_pid}
use Rattle.psi_tables.proofs.EntryLemmas.{Without}
use Rattle.psi_tables.proofs.stream.entries_without.Given as goal

-- what is kept, and then what is to be kept of the rest, is what is to be kept of all
abbrev pub invariant-loop-stream : goal.invariant-loop-stream
invariant-loop-stream l =
    Without l.pid l.kept.items l.is_listed l.rest (entries_bytes (without_pid l.pid (things_of entry_at l.bytes))) (list_any (lists_pid l.pid) (things_of entry_at l.bytes)) (length l.bytes)

abbrev pub decreases-loop-stream : goal.decreases-loop-stream
decreases-loop-stream l = length l.rest
