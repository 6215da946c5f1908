use Rattle.std.proofs.Common.{◌≡◌, ◌<◌, ◌≤◌, ◌-◌, ℕ, Option, None, length, slice_index_or}
use Rattle.stream_facts.specs.declared.pid_facts.PidFacts.{PidFacts}
use Rattle.stream_facts.proofs.pid_facts.PidTable.new.Given as goal

-- so many were made, and all of them are empty
abbrev pub invariant-loop-made : goal.invariant-loop-made
invariant-loop-made l = (l.made ≤ 8192) × (length l.slots.items ≡ l.made)
    × ((pid : ℕ) (slot : Option PidFacts) → pid < l.made → slice_index_or l.slots.items pid slot ≡ None)

abbrev pub decreases-loop-made : goal.decreases-loop-made
decreases-loop-made l = 8192 - l.made
