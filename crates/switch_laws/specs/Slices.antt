-- What goes out of an event in all, on any network, and where the network is conditioned at its start.
use Rattle.std.specs.Prelude.{◌≡◌, ◌⊎◌, ℕ, ℤ, ◌≤ℤ◌, ◌++◌, ◌∷◌, List, [], true, false, if◌then◌else◌, Option, Some, reverse, Contains}
use Rattle.std.specs.List.{AllByRecursion}
use Rattle.event_table.specs.Standing.{Standing, end_of}
use Rattle.splice_laws.specs.Splicing.{PlayedEvent, TimedStream, stream, begun}
use Rattle.splice_laws.specs.Laws.{IsCrossedOnce}
use Rattle.splice_laws.specs.Settled.{closed_now}
use Rattle.splice_laws.specs.Ends.{up_to_end}
use Rattle.splice_plans.specs.Playing.{Adverts, History, is_played, as_played, end_known}
use Rattle.switch_laws.specs.Moving.{sent_in_all}
use Rattle.switch_laws.specs.Laws.{IsPlayable}

-- all units of its advertisement before its last end, where it is reached
abbrev pub IsWholeSlice : List ℕ → Adverts → History → List (List ℕ) → ℕ → Standing → Type 0
IsWholeSlice switched ads events ps pid e = is_played ads e ≡ true → IsCrossedOnce (stream switched pid) e.start ps →
    sent_in_all switched ads events (reverse ps) pid (as_played e) ≡ (if begun (stream switched pid) (as_played e) (reverse ps) then up_to_end (end_of e) (ads.units e pid) else [])

-- THE LAW OF SLICES
abbrev pub SlicesAreWhole : Type 0
SlicesAreWhole = (switched : List ℕ) (ads : Adverts) (events : History) → IsPlayable switched ads events → (ps : List (List ℕ)) (pid : ℕ) → Contains switched pid →
    AllByRecursion (IsWholeSlice switched ads events ps pid) (events (reverse ps))

-- an event is closed with the newest packet of a past, a unit start outside of what was known of it, and was not before that packet
abbrev pub ClosesWith : TimedStream → PlayedEvent → (List (List ℕ) → Option ℤ) → List (List ℕ) → Type 0
ClosesWith r x known [] = ⊥
ClosesWith r x known (p ∷ past) = (closed_now r x known past ≡ false) × (closed_now r x known (p ∷ past) ≡ true)

-- the past of a run behind which an event is over: with the packet that closed it, or where none did with the last one
abbrev pub IsOverBehind : TimedStream → PlayedEvent → (List (List ℕ) → Option ℤ) → List (List ℕ) → List (List ℕ) → Type 0
IsOverBehind r x known whole before = ClosesWith r x known before ⊎ ((before ≡ whole) × (closed_now r x known whole ≡ false))

-- What goes out of an event that is played, on any network: where it is reached, all units of its advertisement before the end that was in
-- force as it was over, which is not before its last one; and nothing where it is not reached.
pub record GoesToAnEnd (switched : List ℕ) (ads : Adverts) (events : History) (past : List (List ℕ)) (pid : ℕ) (e : Standing) : Type 0 where
  pub later : List (List ℕ)
  pub before : List (List ℕ)
  pub stop : ℤ
  pub at : past ≡ later ++ before
  pub over : IsOverBehind (stream switched pid) (as_played e) (end_known ads events e.start) past before
  pub in_force : end_known ads events e.start before ≡ Some stop
  pub last : end_of e ≤ℤ stop
  pub goes : sent_in_all switched ads events past pid (as_played e) ≡ (if begun (stream switched pid) (as_played e) past then up_to_end stop (ads.units e pid) else [])

abbrev pub IsSliceToAnEnd : List ℕ → Adverts → History → List (List ℕ) → ℕ → Standing → Type 0
IsSliceToAnEnd switched ads events past pid e = is_played ads e ≡ true → GoesToAnEnd switched ads events past pid e

-- THE LAW OF SLICES ON ANY NETWORK
abbrev pub SlicesGoToAnEnd : Type 0
SlicesGoToAnEnd = (switched : List ℕ) (ads : Adverts) (events : History) → IsPlayable switched ads events → (past : List (List ℕ)) (pid : ℕ) → Contains switched pid →
    AllByRecursion (IsSliceToAnEnd switched ads events past pid) (events past)
