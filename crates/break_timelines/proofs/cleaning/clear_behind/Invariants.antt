use Rattle.std.proofs.Common.{◌≡◌, ℕ, ◌<◌, ◌≤◌, length, drop, get_or}
use Rattle.break_choices.specs.declared.pictures.Picture.{Picture}
use Rattle.break_timelines.specs.Cleaning.{least_time, from_behind}
use Rattle.break_timelines.proofs.cleaning.clear_behind.Given as goal

-- from the place on all is as the pass from behind leaves it, and before it nothing has changed
abbrev pub invariant-loop-place : goal.invariant-loop-place
invariant-loop-place l = record {
  within : l.place ≤ length l.fn.pictures;
  long : length l.pictures ≡ length l.fn.pictures;
  front : (k : ℕ) (d : Picture) → k < l.place → get_or l.pictures k d ≡ get_or l.fn.pictures k d;
  done : drop l.place l.pictures ≡ from_behind (drop l.place l.fn.pictures);
  least : l.least ≡ least_time (drop l.place l.fn.pictures);
}

abbrev pub decreases-loop-place : goal.decreases-loop-place
decreases-loop-place l = l.place
