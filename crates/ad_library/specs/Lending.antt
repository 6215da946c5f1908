-- What a lent unit says.
use Rattle.std.specs.Prelude.{◌≡◌, pos, Ok}
use Rattle.pes_time.specs.Stamps.{head_of}
use Rattle.ad_library.specs.declared.unit.AdUnit.{AdUnit}
use Rattle.ad_library.specs.Advertisements.{AdvertUnit}

-- a lent unit, by what it says
abbrev pub unit_seen : AdUnit → AdvertUnit
unit_seen u = record { offset = pos u.offset; payload = u.bytes.now; random_access = u.random_access }

-- its head is the one that its bytes give
abbrev pub HasHead : AdUnit → Type 0
HasHead u = head_of u.bytes.now ≡ Ok u.head
