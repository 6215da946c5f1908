-- The lines of what happens.
use Rattle.std.specs.Prelude.{ℕ, List, [], ◌∷◌, ◌++◌, Bool, Option, Some, None, codes, ◌==◌}
use Rattle.chain_engine.specs.declared.hearing.SessionEnd.{SessionEnd}
use Rattle.codec_text.specs.Names.{result_name}
use Rattle.event_table.specs.declared.event.Event.{Event}
use Rattle.event_table.specs.Events.{ring_end}
use Rattle.run_events.specs.declared.misfit.Misfit.{Misfit}
use Rattle.run_events.specs.declared.misfit.Misfit.TheVariants as misfit
use Rattle.run_events.specs.declared.occurrence.Asked.{Asked}
use Rattle.run_events.specs.declared.occurrence.AskedKind.{AskedKind}
use Rattle.run_events.specs.declared.occurrence.AskedKind.TheVariants as asked
use Rattle.run_events.specs.declared.occurrence.Cue.{Cue}
use Rattle.run_events.specs.declared.occurrence.Cue.TheVariants as cue
use Rattle.run_events.specs.declared.occurrence.EdgeFault.{EdgeFault}
use Rattle.run_events.specs.declared.occurrence.EdgeFault.TheVariants as fault
use Rattle.run_events.specs.declared.occurrence.EdgePlace.{EdgePlace}
use Rattle.run_events.specs.declared.occurrence.Occurrence.{Occurrence}
use Rattle.run_events.specs.declared.occurrence.What.{What}
use Rattle.run_events.specs.declared.occurrence.What.TheVariants as what
use Rattle.scte104_codec.specs.declared.requests.SpliceRequest.{SpliceRequest}
use Rattle.splice_plans.specs.declared.report.SwitchReport.{SwitchReport}
use Rattle.report_texts.specs.declared.lines.AirCounts.{AirCounts}
use Rattle.injector.specs.declared.counts.MessageCounts.{MessageCounts}
use Rattle.event_logs.specs.Fields.{number_field, word_field, flag_field, null_field, line_text}
use Rattle.event_logs.specs.Names.{operation_name, kind_name, end_name, edge_name, misfit_name, what_name}

-- the program of a service, where there are several
abbrev pub service_field : Option ℕ → List ℕ
service_field None = []
service_field (Some program) = number_field (codes "service") program

-- when a break is to begin, in milliseconds, and how long it lasts, in tenths of a second
abbrev pub timing_fields : ℕ → ℕ → Bool → List ℕ
timing_fields pre_roll duration auto_return =
    number_field (codes "pre_roll") pre_roll ++ (number_field (codes "duration") duration
    ++ flag_field (codes "auto_return") auto_return)

abbrev pub request_fields : SpliceRequest → List ℕ
request_fields r =
    word_field (codes "operation") (operation_name r.splice_insert_type)
    ++ (number_field (codes "event") r.splice_event_id ++ (number_field (codes "program_id") r.unique_program_id
    ++ timing_fields r.pre_roll_time r.break_duration r.auto_return))

-- the one request of a message, or what the message is that has none, or several
abbrev pub kind_fields : AskedKind → List ℕ
kind_fields asked.Init = word_field (codes "operation") (kind_name asked.Init)
kind_fields asked.Alive = word_field (codes "operation") (kind_name asked.Alive)
kind_fields asked.Other = word_field (codes "operation") (kind_name asked.Other)
kind_fields asked.Bad = word_field (codes "operation") (kind_name asked.Bad)
kind_fields (asked.Splice None) = word_field (codes "operation") (kind_name (asked.Splice None))
kind_fields (asked.Splice (Some request)) = request_fields request

abbrev pub asked_fields : Asked → List ℕ
asked_fields a =
    number_field (codes "message") a.message ++ (number_field (codes "as_index") a.as_index
    ++ (number_field (codes "index") a.index ++ kind_fields a.kind))

-- the name of a result, where it has one
abbrev pub name_field : Option (List ℕ) → List ℕ
name_field None = null_field (codes "verdict")
name_field (Some name) = word_field (codes "verdict") name

-- the result, of which 100 alone is success, and whether the automation has the reply
abbrev pub verdict_fields : ℕ → Bool → List ℕ
verdict_fields verdict is_given =
    number_field (codes "result") verdict ++ (name_field (result_name verdict)
    ++ (flag_field (codes "accepted") (verdict == 100) ++ flag_field (codes "answered") is_given))

-- why an advertisement does not fit, where it does not
abbrev pub misfit_fields : Option Misfit → List ℕ
misfit_fields None = []
misfit_fields (Some misfit.NoAdvert) = word_field (codes "why") (misfit_name misfit.NoAdvert)
misfit_fields (Some (misfit.NoStream pid kind)) =
    word_field (codes "why") (misfit_name (misfit.NoStream pid kind)) ++ (number_field (codes "pid") pid
    ++ number_field (codes "stream_type") kind)
misfit_fields (Some (misfit.Short ticks)) =
    word_field (codes "why") (misfit_name (misfit.Short ticks)) ++ number_field (codes "too_short_by") ticks

-- a start, and the ticks from there
abbrev pub interval_fields : ℕ → ℕ → List ℕ
interval_fields start length = number_field (codes "pts") start ++ number_field (codes "duration") length

-- a break: its number, its start, its length up to the end in force, and its advertisement
abbrev pub break_fields : Event → List ℕ
break_fields e =
    number_field (codes "event") e.id ++ (interval_fields e.start e.length
    ++ number_field (codes "program_id") e.program)

-- a break that is counted, where it is known
abbrev pub counted_fields : Option Event → List ℕ
counted_fields None = null_field (codes "event")
counted_fields (Some event) = break_fields event

abbrev pub cue_fields : Cue → Event → List ℕ
cue_fields (cue.Start misfit) e = word_field (codes "cue") (codes "start") ++ (break_fields e ++ misfit_fields misfit)
cue_fields cue.End e =
    word_field (codes "cue") (codes "end") ++ (number_field (codes "event") e.id
    ++ number_field (codes "pts") (ring_end e))
cue_fields cue.Cancel e = word_field (codes "cue") (codes "cancel") ++ number_field (codes "event") e.id

-- the unit of a stream at which a break has come so far
abbrev pub unit_fields : ℕ → ℕ → ℕ → List ℕ
unit_fields event pid pts =
    number_field (codes "event") event ++ (number_field (codes "pid") pid ++ number_field (codes "pts") pts)

abbrev pub place_fields : EdgePlace → List ℕ
place_fields p =
    number_field (codes "event") p.event ++ (word_field (codes "edge") (edge_name p.edge)
    ++ (number_field (codes "pid") p.pid ++ number_field (codes "pts") p.pts))

-- why an edge is not clean
abbrev pub edge_fault_fields : EdgeFault → List ℕ
edge_fault_fields (fault.SteppedBack ticks) =
    word_field (codes "why") (codes "stepped_back") ++ number_field (codes "ticks") ticks
edge_fault_fields fault.NoRandomAccess = word_field (codes "why") (codes "no_random_access")
edge_fault_fields fault.NoEntryPicture = word_field (codes "why") (codes "no_entry_picture")

-- what happened
abbrev pub what_fields : What → List ℕ
what_fields (what.Request asked verdict is_given) = asked_fields asked ++ verdict_fields verdict is_given
what_fields (what.Session end) = word_field (codes "end") (end_name end)
what_fields (what.Cue cue event) = cue_fields cue event
what_fields (what.Begun event pid pts) = unit_fields event.id pid pts
what_fields (what.Over event pid pts) = unit_fields event.id pid pts
what_fields (what.Cancelled event) = break_fields event
what_fields (what.EndedEarly event) = break_fields event
what_fields (what.Edge place fault) = place_fields place ++ edge_fault_fields fault
what_fields (what.RandomAccess place ticks) = place_fields place ++ number_field (codes "ticks") ticks
what_fields (what.Played event) = counted_fields event
what_fields (what.NotFitted event misfit) = counted_fields event ++ misfit_fields misfit
what_fields (what.Unconditioned event) = counted_fields event
what_fields (what.Lost count) = number_field (codes "count") count
what_fields (what.NotFound program) = number_field (codes "program") program
what_fields what.End = []

-- the line of what happened: its kind, its service, its packet and what is told of it
abbrev pub occurrence_line : Occurrence → List ℕ
occurrence_line o =
    line_text (what_name o.what) (service_field o.service ++ (number_field (codes "packet") o.packet
    ++ what_fields o.what))

-- ---- lines that are no occurrence's

-- a stretch: its number, and what is wrong with the packet on this PID
abbrev pub stretch_fields : ℕ → ℕ → List ℕ → List ℕ
stretch_fields stretch pid fault =
    number_field (codes "stretch") stretch ++ (number_field (codes "pid") pid ++ word_field (codes "fault") fault)

-- a stretch that begins anew
abbrev pub stretch_line : Option ℕ → ℕ → ℕ → ℕ → List ℕ → List ℕ
stretch_line service stretch packet pid fault =
    line_text (codes "stretch") (service_field service ++ (number_field (codes "packet") packet
    ++ stretch_fields stretch pid fault))

-- a packet that is left unjudged, and how many before it were not told
abbrev pub unjudged_line : ℕ → ℕ → List ℕ
unjudged_line packet untold =
    line_text (codes "unjudged") (number_field (codes "packet") packet ++ number_field (codes "more_before") untold)

abbrev pub message_fields : Option MessageCounts → List ℕ
message_fields None = []
message_fields (Some counts) =
    number_field (codes "messages") counts.messages ++ (number_field (codes "accepted") counts.accepted
    ++ number_field (codes "refused") counts.refused)

abbrev pub switch_fields : SwitchReport → List ℕ
switch_fields r =
    number_field (codes "played") r.played ++ (number_field (codes "not_fitted") r.not_fitted
    ++ (number_field (codes "unconditioned") r.unconditioned ++ number_field (codes "ignored") r.ignored))

abbrev pub events_fields : Option SwitchReport → List ℕ
events_fields None = []
events_fields (Some report) = switch_fields report

abbrev pub air_fields : Option AirCounts → List ℕ
air_fields None = []
air_fields (Some counts) =
    number_field (codes "stretches") counts.stretches ++ (number_field (codes "lost") counts.lost
    ++ (number_field (codes "unjudged") counts.unjudged ++ (number_field (codes "mended") counts.mended
    ++ number_field (codes "skipped") counts.skipped)))

-- the report of a run: what there is of it
abbrev pub report_line : Option MessageCounts → Option SwitchReport → Option AirCounts → List ℕ
report_line messages events air =
    line_text (codes "report") (message_fields messages ++ (events_fields events ++ air_fields air))

-- the report of one service
abbrev pub service_line : ℕ → SwitchReport → List ℕ
service_line program events =
    line_text (codes "service_report") (number_field (codes "service") program ++ switch_fields events)

-- the fault by which a run stopped
abbrev pub fault_line : List ℕ → List ℕ
fault_line fault = line_text (codes "fault") (word_field (codes "fault") fault)
