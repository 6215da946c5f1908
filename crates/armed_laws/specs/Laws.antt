-- What becomes of armed events.
use Rattle.std.specs.Prelude.{◌≡◌, ℕ, ◌<◌, ℤ, ◌≤ℤ◌, ◌⊎◌, ◌++◌, ◌∷◌, List, [], true, All, Option}
use Rattle.event_table.specs.Standing.{Standing, end_of}
use Rattle.splice_laws.specs.Laws.{Risen}
use Rattle.splice_laws.specs.Settled.{IsAhead}
use Rattle.armed_events.specs.Arming.{armed}

-- From e comes x, where this was the greatest time: an event may be cancelled before its start, and may end early, but not before that time.
pub record Becomes (latest : Option ℤ) (e x : Standing) : Type 0 where
  pub id : x.id ≡ e.id
  pub start : x.start ≡ e.start
  pub asked : x.asked ≡ e.asked
  pub program : x.program ≡ e.program
  pub cancelled : (x.cancelled ≡ e.cancelled) ⊎ (IsAhead latest e.start × (x.cancelled ≡ true))
  pub end : (end_of x ≡ end_of e) ⊎ (IsAhead latest (end_of x) × (end_of x ≤ℤ end_of e))

-- events in order of arming, and what comes of them: none is left out, and those that are armed since are still to come
abbrev pub Grows : Option ℤ → List Standing → List Standing → Type 0
Grows latest [] later = All (λ (x : Standing). IsAhead latest x.start) later
Grows latest (e ∷ es) [] = ⊥
Grows latest (e ∷ es) (x ∷ later) = Becomes latest e x × Grows latest es later

-- the greatest time never falls
abbrev pub OnlyRises : (List (List ℕ) → Option ℤ) → Type 0
OnlyRises high = (p : List ℕ) (past : List (List ℕ)) → Risen (high past) (high (p ∷ past))

-- THE LAW OF ARMED EVENTS
abbrev pub EventsGrow : Type 0
EventsGrow = (pid : ℕ) (high : List (List ℕ) → Option ℤ) (p : List ℕ) (past : List (List ℕ)) → Grows (high past) (armed pid high past) (armed pid high (p ∷ past))

-- THE LAW OF SETTLEMENT: over any number of packets
abbrev pub EventsSettle : Type 0
EventsSettle = (pid : ℕ) (high : List (List ℕ) → Option ℤ) → OnlyRises high → (more past : List (List ℕ)) → Grows (high past) (armed pid high past) (armed pid high (more ++ past))

-- one ends before the other starts
abbrev pub AreApart : Standing → Standing → Type 0
AreApart a b = (end_of a ≤ℤ b.start) ⊎ (end_of b ≤ℤ a.start)

abbrev pub IsApartOf : Standing → List Standing → Type 0
IsApartOf e [] = Unit {0}
IsApartOf e (x ∷ es) = AreApart e x × IsApartOf e es

-- no event is empty, and no two meet
abbrev pub NoneMeet : List Standing → Type 0
NoneMeet [] = Unit {0}
NoneMeet (e ∷ es) = (0 < e.length) × IsApartOf e es × NoneMeet es

-- THE LAW OF INTERVALS
abbrev pub EventsNeverMeet : Type 0
EventsNeverMeet = (pid : ℕ) (high : List (List ℕ) → Option ℤ) (past : List (List ℕ)) → NoneMeet (armed pid high past)
