-- The continuity counters of a PID's packets on the way out, where some are left out and others are put in
-- (ISO/IEC 13818-1, 2.4.3.3, continuity_counter: it counts the packets with payload).
use Rattle.std.specs.Prelude.{◌≡◌, ℕ, ◌+◌, ◌*◌, ◌%◌, List, [], ◌∷◌, Bool, true, false, if◌then◌else◌, Option, None, Some, is_some, count_by}
use Rattle.ts_packet.specs.Fields.{number, payload}
use Rattle.ts_packet.specs.declared.counter.Counter.{Counter}

-- what happened on the PID: a packet of the way in went out, a payload packet of the way in did not, or a payload packet was put in
pub data Step : Type 0 where
  Kept : List ℕ → Step
  Dropped : List ℕ → Step
  Inserted : Step

-- a packet put in
abbrev pub is_inserted : Step → Bool
is_inserted Inserted = true
is_inserted (Kept p) = false
is_inserted (Dropped p) = false

-- a packet left out
abbrev pub is_dropped : Step → Bool
is_dropped Inserted = false
is_dropped (Kept p) = false
is_dropped (Dropped p) = true

-- by how much a counter of the way in is moved up, modulo 16: by the packets put in, less those left out
abbrev pub moved : List Step → ℕ
moved steps = count_by is_inserted steps + 15 * count_by is_dropped steps

-- the number of a packet of the way in
abbrev pub number_out : List ℕ → List Step → ℕ
number_out p steps = (number p + moved steps) % 16

-- one past a number, or 0
abbrev pub one_past : Option ℕ → ℕ
one_past None = 0
one_past (Some n) = (n + 1) % 16

-- the number out at the last payload packet, newest step first: one that was left out counts itself among those left out
abbrev pub last_number : List Step → Option ℕ
last_number [] = None
last_number (Kept p ∷ steps) = if is_some (payload p) then Some (number_out p steps) else last_number steps
last_number (Dropped p ∷ steps) = Some (number_out p (Dropped p ∷ steps))
last_number (Inserted ∷ steps) = Some (one_past (last_number steps))

-- the counter has counted these steps
pub record Counts (counter : Counter) (steps : List Step) : Type 0 where
  pub shift : counter.shift ≡ moved steps % 16
  pub upcoming : counter.upcoming ≡ one_past (last_number steps)
