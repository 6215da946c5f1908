-- What is lent of stored units.
use Rattle.std.specs.Prelude.{List}
use Rattle.ad_library.specs.declared.slice.Slice.{Slice}
use Rattle.ad_library.specs.Advertisements.{AdvertUnit, slice_of}
use Rattle.ad_library.specs.Placing.{units_at}

-- WHAT A SLICE STILL GIVES, in order
abbrev pub left : Slice → List AdvertUnit
left s = slice_of s.length (units_at s.zero s.places.now s.bytes.now)
