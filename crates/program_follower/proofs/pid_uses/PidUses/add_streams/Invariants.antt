use Rattle.std.proofs.Common.{◌≤◌, ℕ, [], length}
use Rattle.std.specs.Prelude.{slice_index_or}
use Rattle.program_follower.specs.PidUses.{IsTablePid, HasPlacesElsewhere}
use Rattle.program_follower.proofs.PlaceLemmas.{HasPlacesFromElsewhere}
use Rattle.program_follower.proofs.pid_uses.PidUses.add_streams.Given as goal

abbrev pub invariant-loop-index : goal.invariant-loop-index
invariant-loop-index l = (l.index ≤ length l.streams)
    × ((other : ℕ) → IsTablePid (slice_index_or l.initial.self other 0) → IsTablePid (slice_index_or l.self other 0))
    × ((other : ℕ) → slice_index_or l.initial.self other 0 ≤ 8 → slice_index_or l.self other 0 ≤ 8)
    × (HasPlacesElsewhere l.initial.self [] → HasPlacesFromElsewhere l.self l.streams l.index)

abbrev pub decreases-loop-index : goal.decreases-loop-index
decreases-loop-index l = l.index
