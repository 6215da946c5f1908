-- What the store of one stream stands for: its units, newest first. The bytes of all units stand in one string, in order, and of each unit
-- is noted where it starts there, its time, and the greatest time up to it. Times are held as natural numbers, 2^48 above the line.
use Rattle.std.specs.Prelude.{◌≡◌, ℕ, ◌^◌, ℤ, pos, ◌-ℤ◌, max, List, [], ◌∷◌, ◌++◌, length, false, Bool, All, Option, None, Some}
use Rattle.pes_time.specs.Stamps.{is_split}
use Rattle.ad_library.specs.declared.store.UnitPlace.{UnitPlace}
use Rattle.ad_library.specs.declared.store.UnitStore.{UnitStore}
use Rattle.ad_library.specs.Advertisements.{KeptUnit}

pub record StoredUnit : Type 0 where
  pub time : ℕ
  pub payload : List ℕ
  pub random_access : Bool

-- the time that is held so, on the line
abbrev pub on_line : ℕ → ℤ
on_line t = pos t -ℤ pos (2 ^ 48)

abbrev pub kept_unit : StoredUnit → KeptUnit
kept_unit u = record { time = on_line u.time; payload = u.payload; random_access = u.random_access }

-- the bytes of units, newest first, in order
abbrev pub joined : List StoredUnit → List ℕ
joined [] = []
joined (u ∷ us) = joined us ++ u.payload

-- the greatest time, and 0 where there is none
abbrev pub greatest_of : List StoredUnit → ℕ
greatest_of [] = 0
greatest_of (u ∷ us) = max (greatest_of us) u.time

abbrev pub place_of : StoredUnit → List StoredUnit → UnitPlace
place_of u us = record { start = length (joined us); random_access = u.random_access; time = u.time; top = max (greatest_of us) u.time }

abbrev pub places_of : List StoredUnit → List UnitPlace
places_of [] = []
places_of (u ∷ us) = places_of us ++ place_of u us ∷ []

-- the newest unit, longer
abbrev pub longer_stored : List StoredUnit → List ℕ → List StoredUnit
longer_stored [] bs = []
longer_stored (u ∷ us) bs = record { time = u.time; payload = u.payload ++ bs; random_access = u.random_access } ∷ us

-- the time of the newest unit
abbrev pub last_time : List StoredUnit → Option ℕ
last_time [] = None
last_time (u ∷ us) = Some u.time

-- the stamps of the unit can be read
pub record StampsAreWhole (u : StoredUnit) : Type 0 where
  pub whole : is_split u.payload ≡ false

-- THE STORE of these units, newest first
pub record Stores {A : Type 0} (s : UnitStore A) (us : List StoredUnit) : Type 0 where
  pub bytes : s.bytes.items ≡ joined us
  pub places : s.places.items ≡ places_of us
  pub whole : All StampsAreWhole us
