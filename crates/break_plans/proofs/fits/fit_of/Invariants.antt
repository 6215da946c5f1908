use Rattle.std.proofs.Common.{◌≡◌, ◌-◌, ◌≤◌, length, take, true}
use Rattle.ad_library.specs.Library.{held, fits_held}
use Rattle.break_plans.proofs.fits.fit_of.Given as goal

-- it fits the streams before the place
abbrev pub invariant-loop-passed : goal.invariant-loop-passed
invariant-loop-passed l = record {
  within : l.passed ≤ length l.streams;
  fits : fits_held (held l.library l.advert) (take l.passed l.streams) l.length ≡ true;
}

abbrev pub decreases-loop-passed : goal.decreases-loop-passed
decreases-loop-passed l = length l.streams - l.passed
