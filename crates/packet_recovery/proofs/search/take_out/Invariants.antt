use Rattle.std.proofs.Common.{◌-◌, ◌≡◌, ℕ, ◌<◌, ◌≤◌, get_or}
use Rattle.packet_recovery.proofs.search.take_out.Given as goal

abbrev pub invariant-loop-at : goal.invariant-loop-at
invariant-loop-at l = (l.from ≤ l.at) × (l.at ≤ l.held) × ((k : ℕ) → l.from ≤ k → k < l.at → get_or l.window k 0 ≡ 71 → ⊥)

abbrev pub decreases-loop-at : goal.decreases-loop-at
decreases-loop-at l = l.held - l.at
