use Rattle.std.proofs.Common.{◌≡◌, ℕ, ◌<◌, ◌≤◌, ◌-◌, List, [], length, Some}
use Rattle.std.specs.Prelude.{slice_index_or}
use Rattle.unit_stream.specs.declared.starts.StartReader.{StartReader}
use Rattle.unit_stream.specs.Starts.{ReadsStarts}
use Rattle.program_follower.specs.Faults.{pids_in}
use Rattle.program_follower.specs.Streaming.{first_on}
use Rattle.program_follower.proofs.starts.readers_of.Given as goal

abbrev pub invariant-loop-index : goal.invariant-loop-index
invariant-loop-index l = (l.index ≤ length l.streams) × (length l.readers ≡ 8)
    × ((q : List ℕ) (x : ℕ × ℕ) (d : StartReader) → first_on (pids_in l.streams) q ≡ Some x → x.0 < l.index → ReadsStarts (slice_index_or l.readers x.0 d) x.1 [])

abbrev pub decreases-loop-index : goal.decreases-loop-index
decreases-loop-index l = length l.streams - l.index
