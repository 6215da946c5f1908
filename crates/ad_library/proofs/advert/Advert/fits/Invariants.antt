use Rattle.std.proofs.Common.{◌≡◌, ◌+◌, take, drop, length}
use Rattle.ad_library.specs.Advertisements.{fits, fits_behind}
use Rattle.ad_library.specs.Library.{advert_seen}
use Rattle.ad_library.proofs.advert.Advert.fits.Given as goal

abbrev pub invariant-loop-stream : goal.invariant-loop-stream
invariant-loop-stream g l = record {
  passed : l.passed + length l.rest ≡ length l.streams;
  rest : drop l.passed l.streams ≡ l.rest;
  fits : fits_behind (advert_seen l.self) l.limit (take l.passed l.streams) l.rest ≡ fits (advert_seen l.self) l.streams l.limit;
}

abbrev pub decreases-loop-stream : goal.decreases-loop-stream
decreases-loop-stream g l = length l.rest
