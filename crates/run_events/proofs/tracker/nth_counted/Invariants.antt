use Rattle.std.proofs.Common.{◌≡◌, drop, slice_get}
use Rattle.std.specs.List.{filter}
use Rattle.run_events.specs.Settling.{counts_so}
use Rattle.run_events.proofs.tracker.nth_counted.Given as goal

-- the break that is looked for is the one of this number among those that are left
abbrev pub invariant-loop-one : goal.invariant-loop-one
invariant-loop-one l = slice_get (filter (counts_so l.counted) l.gone) l.number ≡ slice_get (filter (counts_so l.counted) (drop l.one-index l.gone)) l.before
