use Rattle.std.proofs.Common.{◌≡◌, ◌-◌, ◌≤◌, ◌++◌, length, take, drop, None}
use Rattle.break_timelines.specs.Cleaning.{from_before}
use Rattle.break_timelines.proofs.cleaning.clear_before.Given as goal

-- before the place all is as the pass from the front leaves it
abbrev pub invariant-loop-place : goal.invariant-loop-place
invariant-loop-place l = record {
  within : l.place ≤ length l.pictures;
  done : from_before None l.fn.pictures ≡ take l.place l.pictures ++ from_before l.most (drop l.place l.pictures);
}

abbrev pub decreases-loop-place : goal.decreases-loop-place
decreases-loop-place l = length l.initial.pictures - l.place
