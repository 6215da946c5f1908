-- How far the events have come, and how their changes are counted.
use Rattle.std.specs.Prelude.{◌≡◌, ◌+◌, ◌≤◌, ◌<◌, ◌^◌, List, map, Bool}
use Rattle.event_table.specs.Tables.{events_of}
use Rattle.splice_plans.specs.declared.plan.Stage.{Stage}
use Rattle.splice_plans.specs.declared.plan.Part.{Part}
use Rattle.splice_plans.specs.declared.plan.Plan.{Plan}
use Rattle.splice_playing.specs.declared.playing.Playing.{Playing}
use Rattle.splice_playing.specs.Going.{plans_in}

-- how far an event has come in each stream
abbrev pub stages_in : List Part → List Stage
stages_in parts = map (λ part. part.stage) parts

-- and whether it is crossed: all that a plan tells but how many units of the slices are out
abbrev pub course_of : Plan → List Stage × Bool
course_of plan = (stages_in plan.parts, plan.is_crossed)

-- the same events stand, each as far as it was, and as much is settled
pub record IsUnturned (old new : Playing) : Type 0 where
  pub events : events_of new.events.obeyed.table ≡ events_of old.events.obeyed.table
  pub courses : map course_of (plans_in new) ≡ map course_of (plans_in old)
  pub forgotten : new.forgotten ≡ old.forgotten

-- the count of turns has risen, or nothing has turned; at the greatest u64, at which it stops, that is open
pub record CountsTurns (old new : Playing) : Type 0 where
  pub rises : old.turns ≤ new.turns
  pub unturned : new.turns ≡ old.turns → new.turns + 1 < 2 ^ 64 → IsUnturned old new
