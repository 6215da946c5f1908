-- What a clock stands for, and what it says of the begin of a unit.
use Rattle.std.specs.Prelude.{◌≡◌, ℕ, ℤ, pos, negsuc, ◌+ℤ◌, ◌-ℤ◌, ◌≤ℤ◌, Option, None, Some, option_map}
use Rattle.pes_time.specs.Line.{ring_of, place}
use Rattle.unit_stream.specs.declared.clock.Clock.{Clock}
use Rattle.unit_stream.specs.declared.clock.Begun.{Begun}

-- The clock is at this greatest time: at `high switched past`, where it has passed the units of the switched PIDs that have begun.
abbrev pub ClockAt : Clock → Option ℤ → Type 0
ClockAt clock high = clock.high ≡ option_map ring_of high

-- how far a stamp lies past the greatest time on the line; the first stamp is where it is
abbrev pub way_from : Option ℤ → ℕ → ℤ
way_from None t = pos 0
way_from (Some h) t = place (Some h) t -ℤ h

-- the unit begins with this stamp, behind this greatest time
abbrev pub Tells : Option Begun → Option ℤ → Option ℕ → Type 0
Tells None high stamp = stamp ≡ None
Tells (Some begun) high stamp = (stamp ≡ Some begun.pts) × (begun.way ≡ way_from high begun.pts)

-- at most 900,000 ticks, either way
abbrev pub IsNear : Option Begun → Type 0
IsNear None = Unit {0}
IsNear (Some begun) = (negsuc 899999 ≤ℤ begun.way) × (begun.way ≤ℤ pos 900000)

-- The greatest time never falls, and rises by 900,000 ticks at most.
abbrev pub Rises : Option ℤ → Option ℤ → Type 0
Rises None later = Unit {0}
Rises (Some high) None = ⊥
Rises (Some high) (Some later) = (high ≤ℤ later) × (later ≤ℤ (high +ℤ pos 900000))
