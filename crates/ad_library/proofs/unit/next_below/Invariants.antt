use Rattle.std.proofs.Common.{◌≡◌, List, ℕ, length, true}
use Rattle.ad_library.specs.Advertisements.{slice_of}
use Rattle.ad_library.specs.Placing.{units_at, are_placed, tops_rise}
use Rattle.ad_library.proofs.unit.next_below.Given as goal

abbrev pub invariant-loop-place : goal.invariant-loop-place
invariant-loop-place l = record {
  kept : (bs : List ℕ) → slice_of l.limit (units_at l.least l.ahead bs) ≡ slice_of l.limit (units_at l.least l.places bs);
  placed : (bs : List ℕ) → are_placed l.least l.places bs ≡ true → are_placed l.least l.ahead bs ≡ true;
  rising : tops_rise l.places ≡ true → tops_rise l.ahead ≡ true;
}

abbrev pub decreases-loop-place : goal.decreases-loop-place
decreases-loop-place l = length l.ahead
