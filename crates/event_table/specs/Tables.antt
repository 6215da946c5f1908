-- What a table stands for.
use Rattle.std.specs.Prelude.{◌≡◌, ℕ, List, map, All, AllPairs, ℤ, Option, option_map}
use Rattle.pes_time.specs.Line.{ring_of}
use Rattle.event_table.specs.declared.event.Event.{Event}
use Rattle.event_table.specs.declared.table.Table.{Table}
use Rattle.event_table.specs.Standing.{Standing, on_ring, IsWithin, IsApart}

module _ {T : Type 0} where
  -- the last high time on the ring, or none before the first
  abbrev pub high_time_of : Table T → Option ℕ
  high_time_of table = table.last

  -- the events, in order of arming
  abbrev pub events_of : Table T → List Event
  events_of table = map (λ entry. entry.event) table.entries.items

  -- the values beside them
  abbrev pub values_of : Table T → List T
  values_of table = map (λ entry. entry.value) table.entries.items

-- The table stands for a list of events on the line, in order of arming, and an integer high time: both stand on the ring where the table
-- says, no two events meet or share an id, and each is within reach of the high time.
pub record StandsFor {T : Type 0} (table : Table T) (latest : Option ℤ) (standing : List Standing) : Type 0 where
  pub high : high_time_of table ≡ option_map ring_of latest
  pub events : events_of table ≡ map on_ring standing
  pub within : All (IsWithin latest) standing
  pub apart : AllPairs IsApart standing
