-- The line of times as numbers without a sign: ticks of 90 kHz from 2^48 before the time 0 on, a whole number of turns of the 33-bit clock.
use Rattle.std.specs.Prelude.{◌≡◌, ℕ, ◌+◌, ◌-◌, ◌^◌, ◌<◌, ℤ, pos, negsuc, ◌≤ℤ◌, Option, None, Some}
use Rattle.unit_stream.specs.Clocks.{Rises}

-- WHERE A TIME STANDS as a number; one below all numbers stands at 0
abbrev pub tick_of : ℤ → ℕ
tick_of (pos n) = 2 ^ 48 + n
tick_of (negsuc n) = 2 ^ 48 - (n + 1)

-- the greatest time so far is not below 0: it begins at the first unit's stamp, and never falls
abbrev pub IsPast : Option ℤ → Type 0
IsPast None = Unit {0}
IsPast (Some high) = pos 0 ≤ℤ high

-- the first time is a stamp
abbrev pub IsFirst : Option ℤ → Type 0
IsFirst None = Unit {0}
IsFirst (Some high) = (stamp : ℕ) × (stamp < 2 ^ 33) × (high ≡ pos stamp)

-- the greatest times before and behind a packet: it rises by 900,000 ticks at most
abbrev pub Follows : Option ℤ → Option ℤ → Type 0
Follows None after = IsFirst after
Follows (Some high) after = Rises (Some high) after
