-- What the code stands for.
use Rattle.std.specs.Prelude.{◌≡◌, ℕ, ◌++◌, ◌∷◌, [], List, ℤ, Bool, true, false, Option}
use Rattle.event_table.specs.Standing.{Standing, with_cancelled, with_end}
use Rattle.event_table.specs.Tables.{StandsFor}
use Rattle.psi_section.specs.Assembling.{Waits, capped}
use Rattle.armed_events.specs.declared.obeying.Obeyed.{Obeyed}
use Rattle.armed_events.specs.declared.obeying.ArmedEvents.{ArmedEvents}
use Rattle.armed_events.specs.Arming.{Change, Arm, Shorten, TakeBack, Keep, Ignore, Heard, standing_at, heard}

-- the events that stand, after a change of them
abbrev pub after_change : Change → List Standing → List Standing
after_change (Arm e) standing = standing ++ e ∷ []
after_change (Shorten id time) standing = with_end id time standing
after_change (TakeBack id) standing = with_cancelled id standing
after_change Keep standing = standing
after_change Ignore standing = standing

-- a cue with this change is obeyed
abbrev pub is_obeyed : Change → Bool
is_obeyed (Arm e) = true
is_obeyed (Shorten id time) = true
is_obeyed (TakeBack id) = true
is_obeyed Keep = true
is_obeyed Ignore = false

-- the table stands for those events that stand at the greatest time, and the count is that of the ignored cues, or the greatest count
pub record ObeyedFor {T : Type 0} (obeyed : Obeyed T) (latest : Option ℤ) (heard : Heard) : Type 0 where
  pub table : StandsFor obeyed.table latest (standing_at latest heard.events)
  pub count : obeyed.ignored ≡ capped heard.ignored

-- The code has been given this past, newest first, of which `high` says the greatest time.
pub record Obeys {T : Type 0} (events : ArmedEvents T) (pid : ℕ) (high : List (List ℕ) → Option ℤ) (past : List (List ℕ)) : Type 0 where
  pub waits : Waits events.assembler pid past
  pub obeyed : ObeyedFor events.obeyed (high past) (heard pid high past)
