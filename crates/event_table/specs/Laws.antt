-- What holds of every table, however it came about.
use Rattle.std.specs.Prelude.{◌≡◌, ℕ, ◌+◌, ◌^◌, List, ◌∷◌, AllPairs, Contains, ℤ, pos, ◌+ℤ◌, ◌≤ℤ◌, ◌<ℤ◌, Option, None, Some, option_map}
use Rattle.pes_time.specs.Line.{TellsOrder, ring_of}
use Rattle.unit_stream.specs.Times.{high}
use Rattle.unit_stream.specs.Faults.{unit_fault}
use Rattle.event_table.specs.declared.table.Table.{Table}
use Rattle.event_table.specs.Rings.{CanAdvance}
use Rattle.event_table.specs.Standing.{Standing, Holds, end_of, forgotten_at, IsTimeAt}
use Rattle.event_table.specs.Tables.{StandsFor}

-- no time lies in two of the events
abbrev pub HaveNoTimeInCommon : Standing → Standing → Type 0
HaveNoTimeInCommon a b = (time : ℤ) → Holds a time → Holds b time → ⊥

-- no two standing events ever meet
abbrev pub NoTwoMeet : {T : Type 0} → Table T → Type 0
NoTwoMeet table = (latest : Option ℤ) (standing : List Standing) → StandsFor table latest standing → AllPairs HaveNoTimeInCommon standing

-- the times that a table compares: those where a unit may lie, the high time and the next one among them; start, end and forgetting of each event that stands; the start that may
-- be armed or the end that may be set, and the end of what may be armed
pub data IsCompared (high : ℤ) (standing : List Standing) (time : ℤ) : Type 0 where
  is_unit : high ≤ℤ (time +ℤ pos 900000) → time ≤ℤ (high +ℤ pos 900000) → IsCompared high standing time
  is_start : (s : Standing) → Contains standing s → time ≡ s.start → IsCompared high standing time
  is_end : (s : Standing) → Contains standing s → time ≡ end_of s → IsCompared high standing time
  is_forgetting : (s : Standing) → Contains standing s → time ≡ forgotten_at s → IsCompared high standing time
  is_asked : high <ℤ time → time ≤ℤ (high +ℤ pos (2 ^ 29 + 2 ^ 30)) → IsCompared high standing time

-- the ring tells the order of any two times that a table compares
abbrev pub ComparedInOrder : {T : Type 0} → Table T → Type 0
ComparedInOrder table = (high : ℤ) (standing : List Standing) → StandsFor table (Some high) standing →
    (a b : ℤ) → IsCompared high standing a → IsCompared high standing b → TellsOrder a b

-- where the bytes have no fault at a packet, the high time after it may be told to a table that has the one before it, and stands for the
-- same integer there
pub record MayAdvance (before : Option ℤ) (after : ℤ) : Type 0 where
  pub can : CanAdvance (option_map ring_of before) (ring_of after)
  pub time : IsTimeAt before (ring_of after) after

abbrev pub FaultlessMayAdvance : Type 0
FaultlessMayAdvance = (switched : List ℕ) (p : List ℕ) (past : List (List ℕ)) (after : ℤ) → unit_fault switched p past ≡ None →
    high switched (p ∷ past) ≡ Some after → MayAdvance (high switched past) after
