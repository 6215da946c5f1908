-- The values that a caller keeps beside the events that stand. No two events ever start at one time, so the start says whose a value is.
use Rattle.std.specs.Prelude.{◌≡◌, ℕ, List, ◌++◌, replicate, map, ℤ, Option, true}
use Rattle.event_table.specs.Standing.{Standing, is_ahead_of}
use Rattle.event_table.specs.Tables.{values_of}
use Rattle.armed_events.specs.declared.obeying.Obeyed.{Obeyed}
use Rattle.armed_events.specs.declared.obeying.ArmedEvents.{ArmedEvents}
use Rattle.armed_events.specs.Arming.{Heard, standing_at, standing}

module _ {T : Type 0} where
  abbrev pub values_by : (ℤ → T) → List Standing → List T
  values_by value standing = map (λ (e : Standing). value e.start) standing

  -- an event that is armed starts ahead of the greatest time, and this is its value
  abbrev pub IsFreshAhead : (ℤ → T) → Option ℤ → T → Type 0
  IsFreshAhead value latest fresh = (start : ℤ) → is_ahead_of latest start ≡ true → value start ≡ fresh

  -- every value stays, in its place, and each that is added behind them is this one
  abbrev pub AddsOnly : T → List T → List T → Type 0
  AddsOnly fresh before after = (n : ℕ) × (after ≡ before ++ replicate n fresh)

  -- beside the events that stand are these values
  abbrev pub AreBeside : Obeyed T → (ℤ → T) → Option ℤ → Heard → Type 0
  AreBeside obeyed value latest heard = values_of obeyed.table ≡ values_by value (standing_at latest heard.events)

  abbrev pub Keeps : ArmedEvents T → (ℤ → T) → ℕ → (List (List ℕ) → Option ℤ) → List (List ℕ) → Type 0
  Keeps events value pid high past = values_of events.obeyed.table ≡ values_by value (standing pid high past)
