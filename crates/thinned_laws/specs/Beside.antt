-- Two runs side by side that have the same packets, but for packets of the PID of cues.
use Rattle.std.specs.Prelude.{◌≡◌, ◌↔◌, ℕ, List, [], ◌∷◌, true, false, Option, Some, ℤ}
use Rattle.ts_packet.specs.Fields.{on, on_one, is_among}
use Rattle.program_follower.specs.declared.purpose.Listed.{Listed}
use Rattle.program_follower.specs.Program.{listed}
use Rattle.event_table.specs.Standing.{Standing}
use Rattle.cue_laws.specs.Events.{before}
use Rattle.splice_plans.specs.Switching.{Setting, switched_at, high_at, events_at}
use Rattle.ts_packet.specs.Membership.{In}

-- a packet of both runs, of the one alone, or of the other alone
pub data Beside : Type 0 where
  Shared : List ℕ → Beside
  Here : List ℕ → Beside
  There : List ℕ → Beside

-- the one run, newest packet first
abbrev pub one_run : List Beside → List (List ℕ)
one_run [] = []
one_run (Shared p ∷ rows) = p ∷ one_run rows
one_run (Here q ∷ rows) = q ∷ one_run rows
one_run (There q ∷ rows) = one_run rows

-- and the other
abbrev pub other_run : List Beside → List (List ℕ)
other_run [] = []
other_run (Shared p ∷ rows) = p ∷ other_run rows
other_run (Here q ∷ rows) = other_run rows
other_run (There q ∷ rows) = q ∷ other_run rows

-- what only one of them has is of this PID
abbrev pub DifferOn : ℕ → List Beside → Type 0
DifferOn pid [] = Unit {0}
DifferOn pid (Shared p ∷ rows) = DifferOn pid rows
DifferOn pid (Here q ∷ rows) = (on pid q ≡ true) × DifferOn pid rows
DifferOn pid (There q ∷ rows) = (on pid q ≡ true) × DifferOn pid rows

-- the PID of the cues is that of no table, and of no switched stream
pub record CuesAreApart (k : Setting) (past : List (List ℕ)) : Type 0 where
  pub pat : k.cue_pid ≡ 0 → ⊥
  pub pmt : (l : Listed) → listed (Some k.program) past ≡ Some l → k.cue_pid ≡ l.pid → ⊥
  pub streams : is_among k.cue_pid (switched_at k past) ≡ false

-- ---- events

-- of the events that are not cancelled, and whose start the greatest time has reached, both lists have the same: each with its id, start, end
-- in force, length first asked for and program
abbrev pub AgreeReached : Option ℤ → List Standing → List Standing → Type 0
AgreeReached h es fs = (e : Standing) → e.cancelled ≡ false → before h e.start ≡ false → In e es ↔ In e fs

-- and of all events that are not cancelled
abbrev pub AgreeInAll : List Standing → List Standing → Type 0
AgreeInAll es fs = (e : Standing) → e.cancelled ≡ false → In e es ↔ In e fs

-- so it is with each packet of a switched stream: the cues have armed the same in both runs
abbrev pub AgreeAlong : Setting → List Beside → Type 0
AgreeAlong k [] = Unit {0}
AgreeAlong k (Shared p ∷ rows) =
    (on_one (switched_at k (one_run rows)) p ≡ true → AgreeReached (high_at k (p ∷ one_run rows)) (events_at k (p ∷ one_run rows)) (events_at k (p ∷ other_run rows)))
    × AgreeAlong k rows
AgreeAlong k (Here q ∷ rows) = AgreeAlong k rows
AgreeAlong k (There q ∷ rows) = AgreeAlong k rows

-- and behind the last packet of all that are not cancelled
abbrev pub AgreeAtTheEnd : Setting → List Beside → Type 0
AgreeAtTheEnd k rows = AgreeInAll (events_at k (one_run rows)) (events_at k (other_run rows))
