-- How far an event comes in a stream with each unit that begins there.
use Rattle.std.specs.Prelude.{ℕ, ◌%◌, Bool, false, ◌&&◌, ◌||◌, if◌then◌else◌, slice_index_or, slice_set, ℤ, pos, ◌+ℤ◌, ◌≤ℤ◌, int_le, int_lt, Option, None, Some}
use Rattle.event_table.specs.Standing.{Standing, covers, end_of}
use Rattle.splice_plans.specs.declared.plan.Stage.{Stage}
use Rattle.splice_plans.specs.declared.plan.Stage.TheVariants.{Waiting, Running, Closing, Over}
use Rattle.splice_plans.specs.declared.plan.Part.{Part}
use Rattle.splice_plans.specs.declared.plan.Plan.{Plan}

-- a unit may begin at this time, where times do not jump
abbrev pub IsNearHigh : Option ℤ → ℤ → Type 0
IsNearHigh None t = Unit {0}
IsNearHigh (Some h) t = (h ≤ℤ (t +ℤ pos 900000)) × (t ≤ℤ (h +ℤ pos 900000))

-- with a unit at or past its start: it runs where it holds the unit, and else the rest of it goes out
abbrev pub entered : Standing → ℤ → Stage
entered e t = if covers t e then Running else Closing

-- the next stage, where the event is played or not
abbrev pub turned : Standing → ℤ → Bool → Stage → Stage
turned e t plays Waiting = if plays && int_le e.start t then entered e t else Waiting
turned e t plays Running = entered e t
turned e t plays Closing = Over
turned e t plays Over = Over

-- the unit lies below the start or the end of the event, after one of the stream at or past it
abbrev pub crosses : Standing → ℤ → Stage → Bool
crosses e t Waiting = false
crosses e t Running = int_lt t e.start
crosses e t Closing = int_lt t (end_of e)
crosses e t Over = int_lt t (end_of e)

-- ---- in each of the streams

abbrev pub waiting : Part
waiting = record { stage = Waiting; sent = 0 }

-- the event in this stream
abbrev pub part_of : Plan → ℕ → Part
part_of plan stream = slice_index_or plan.parts (stream % 8) waiting

abbrev pub with_part : Plan → ℕ → Part → Plan
with_part plan stream part = record { parts = slice_set plan.parts (stream % 8) part; is_crossed = plan.is_crossed }

abbrev pub at_stage : Stage → Part → Part
at_stage stage part = record { stage = stage; sent = part.sent }

-- with a unit of this time in this stream
abbrev pub plan_turned : Standing → ℤ → Bool → ℕ → Plan → Plan
plan_turned e t plays stream plan = record {
  parts = slice_set plan.parts (stream % 8) (at_stage (turned e t plays (part_of plan stream).stage) (part_of plan stream));
  is_crossed = plan.is_crossed || crosses e t (part_of plan stream).stage;
}
