-- Whether an event waits: in a stream, before its start, and in all streams; and whether a unit leaves it as it is.
use Rattle.std.specs.Prelude.{ℕ, Bool, false, not, ◌&&◌, ◌||◌}
use Rattle.std.specs.List.{list_all, list_any}
use Rattle.event_table.specs.Rings.{is_before_on_ring}
use Rattle.event_table.specs.declared.event.Event.{Event}
use Rattle.event_table.specs.Events.{covers_on_ring, ring_end}
use Rattle.splice_plans.specs.declared.plan.Stage.{Stage}
use Rattle.splice_plans.specs.declared.plan.Stage.TheVariants.{Waiting, Running, Closing, Over}
use Rattle.event_table.specs.declared.table.Entry.{Entry}
use Rattle.splice_plans.specs.declared.plan.Plan.{Plan}
use Rattle.splice_plans.specs.Turning.{part_of}
use Rattle.splice_plans.specs.Parts.{is_waiting, is_running}

-- it waits in the stream, and this time lies before its start
abbrev pub waits_before : ℕ → ℕ → Entry Plan → Bool
waits_before stream time entry = is_waiting (part_of entry.value stream).stage && is_before_on_ring time entry.event.start

-- it waits in all streams
abbrev pub waits_in_all : Plan → Bool
waits_in_all plan = list_all (λ part. is_waiting part.stage) plan.parts

-- it runs in one of them
abbrev pub runs_in_any : Plan → Bool
runs_in_any plan = list_any (λ part. is_running part.stage) plan.parts

-- A unit of this time in a stream in which an event is at this stage leaves it so, and does not cross it: it lies before the start of one
-- that waits, or that one is cancelled; in one that runs; at or past the end of one that is over.
abbrev pub stays : Event → ℕ → Stage → Bool
stays event time Waiting = event.cancelled || is_before_on_ring time event.start
stays event time Running = covers_on_ring event time
stays event time Closing = false
stays event time Over = not (is_before_on_ring time (ring_end event))

-- it leaves the event as it is in the stream of this number
abbrev pub stays_in : ℕ → ℕ → Entry Plan → Bool
stays_in stream time entry = stays entry.event time (part_of entry.value stream).stage
