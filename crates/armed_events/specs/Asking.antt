-- What a cue asks of the events that stand (ANSI/SCTE 35, splice_insert).
use Rattle.std.specs.Prelude.{ℕ, Bool, false, Option, None, Some, if◌then◌else◌}
use Rattle.event_table.specs.declared.event.Event.{Event}
use Rattle.scte35_codec.specs.Reading.{CueReading, insert, cancel, null, other, bad}
use Rattle.armed_events.specs.declared.asked.Asked.{Asked}
use Rattle.armed_events.specs.declared.asked.Asked.TheVariants.{Start, End, Cancel, Unfit, Nothing}

-- an event as it is first asked for
abbrev pub fresh : ℕ → ℕ → ℕ → ℕ → Event
fresh id time ticks program = record { id = id; start = time; length = ticks; asked = ticks; program = program; cancelled = false }

-- out of the network: with break_duration() and its auto_return
abbrev pub start_asks : ℕ → ℕ → Option (Bool × ℕ) → ℕ → Asked
start_asks id time None program = Unfit
start_asks id time (Some duration) program = if duration.0 then Start (fresh id time duration.1 program) else Unfit

-- by splice_time(): one that is immediate or unspecified is fit for nothing
abbrev pub insert_asks : ℕ → Bool → Option ℕ → Option (Bool × ℕ) → ℕ → Asked
insert_asks id out None duration program = Unfit
insert_asks id out (Some time) duration program = if out then start_asks id time duration program else End id time

-- what a section asks for, as it is read
abbrev pub asked_of : CueReading → Asked
asked_of (insert i avails) = insert_asks i.event i.out i.time i.length i.program
asked_of (cancel id) = Cancel id
asked_of null = Nothing
asked_of other = Nothing
asked_of (bad fault) = Nothing
