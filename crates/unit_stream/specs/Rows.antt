-- A unit and the packets that bring it: the row of a unit joins to its bytes.
use Rattle.std.specs.Prelude.{◌≡◌, ℕ, ◌++◌, List, [], ◌∷◌, Bool, false, filter}
use Rattle.ts_packet.specs.Fields.{payload_on, random_access}
use Rattle.unit_stream.specs.Carrying.{IsUnit}
use Rattle.unit_stream.specs.Units.{TimedUnit, Row, units, rows, lead_in}

-- the random_access_indicator of the first of some packets
abbrev pub is_random_access : List (List ℕ) → Bool
is_random_access [] = false
is_random_access (p ∷ ps) = random_access p

-- the row's packets join to the unit
pub record IsRowOf (row : Row) (unit : TimedUnit) : Type 0 where
  pub time : row.time ≡ unit.time
  pub bytes : IsUnit row.packets unit.payload
  pub random_access : is_random_access row.packets ≡ unit.random_access

-- one row for each unit, in order
abbrev pub AreRowsOf : List Row → List TimedUnit → Type 0
AreRowsOf [] [] = Unit {0}
AreRowsOf (r ∷ rs) (u ∷ us) = IsRowOf r u × AreRowsOf rs us
AreRowsOf [] (u ∷ us) = ⊥
AreRowsOf (r ∷ rs) [] = ⊥

-- the packets of rows, in order
abbrev pub row_packets : List Row → List (List ℕ)
row_packets [] = []
row_packets (r ∷ rs) = r.packets ++ row_packets rs

-- THE LAW OF ROWS: on any run the payload packets of a PID are those before its first unit start and then its rows, and each row joins to its unit
abbrev pub RowsJoin : Type 0
RowsJoin = (switched : List ℕ) (pid : ℕ) (ps : List (List ℕ)) →
    (filter (payload_on pid) ps ≡ lead_in pid ps ++ row_packets (rows switched pid ps)) × AreRowsOf (rows switched pid ps) (units switched pid ps)
