-- What stands behind the head of a written stream, and what its units are.
use Rattle.std.specs.Prelude.{◌≡◌, ℕ, List, [], ◌∷◌, Bool, true, false, filter, Option, Some}
use Rattle.std.specs.List.{AllByRecursion}
use Rattle.ts_packet.specs.Fields.{on, payload_on}
use Rattle.unit_stream.specs.Times.{high, unit_time}
use Rattle.unit_stream.specs.Units.{units_back}
use Rattle.program_follower.specs.declared.purpose.Listed.{Listed}
use Rattle.program_follower.specs.Program.{listed, behind_head}
use Rattle.program_laws.specs.Writing.{Along, Writing, written, IsClear}

-- of the packets that a test takes, a writing puts in none, and leaves each where it was; and it takes none on the PMT's PID
pub record Passes (takes : List ℕ → Bool) (w : Writing) (wanted : Option ℕ) (p : List ℕ) (past : List (List ℕ)) : Type 0 where
  pub front : AllByRecursion (λ q. takes q ≡ false) (w.front p past)
  pub place : filter takes (w.place p past) ≡ filter takes (p ∷ [])
  pub own : (l : Listed) → listed wanted past ≡ Some l → (q : List ℕ) → on l.pid q ≡ true → takes q ≡ false

-- THE LAW OF THE HEAD: behind the head the network's packets stand as they did, but for packets put in and packets on the PMT's PID
abbrev pub HeadPasses : Type 0
HeadPasses = (takes : List ℕ → Bool) (w : Writing) (wanted : Option ℕ) (past : List (List ℕ)) → Along (IsClear w wanted) past → Along (Passes takes w wanted) past
    → filter takes (behind_head wanted (written w wanted past)) ≡ filter takes (behind_head wanted past)

-- THE LAW OF THE OTHER PIDS: these packets stand in the whole stream as they did
abbrev pub OthersAreWritten : Type 0
OthersAreWritten = (takes : List ℕ → Bool) (w : Writing) (wanted : Option ℕ) (past : List (List ℕ)) → Along (Passes takes w wanted) past
    → filter takes (written w wanted past) ≡ filter takes past

-- the test takes each payload packet of the PID
abbrev pub TakesAll : (List ℕ → Bool) → ℕ → Type 0
TakesAll takes pid = (q : List ℕ) → takes q ≡ false → payload_on pid q ≡ false

-- the units of a PID, and the greatest time, are those of another past
pub record SameUnits (switched : List ℕ) (past other : List (List ℕ)) (pid : ℕ) : Type 0 where
  pub high : high switched past ≡ high switched other
  pub time : unit_time switched pid past ≡ unit_time switched pid other
  pub units : units_back switched pid past ≡ units_back switched pid other

-- THE LAW OF OTHER PACKETS: packets that are no payload packets of switched PIDs change neither units nor times
abbrev pub OthersAreNoUnits : Type 0
OthersAreNoUnits = (takes : List ℕ → Bool) (switched : List ℕ) (pid : ℕ) (past other : List (List ℕ)) → AllByRecursion (TakesAll takes) switched → TakesAll takes pid
    → filter takes past ≡ filter takes other → SameUnits switched past other pid
