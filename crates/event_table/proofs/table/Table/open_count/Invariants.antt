use Rattle.std.proofs.Common.{◌≡◌, ◌+◌, drop, map}
use Rattle.std.specs.Prelude.{count_by}
use Rattle.event_table.specs.Events.{is_open_on_ring}
use Rattle.event_table.proofs.table.Table.open_count.Given as goal

-- those that were counted, and those that are left
abbrev pub invariant-loop-entry : goal.invariant-loop-entry
invariant-loop-entry g l = l.count + count_by (is_open_on_ring l.high) (map (λ e. e.event) (drop l.entry-index l.entry-items))
    ≡ count_by (is_open_on_ring l.high) (map (λ e. e.event) l.entry-items)
