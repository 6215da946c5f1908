-- THE CUE PATH of an injector: what of its cues reaches a switch, and what the switch makes of it. All lists are newest first.
use Rattle.std.specs.Prelude.{ℕ, pos, ◌*◌, ◌<◌, ◌^◌, ◌==◌, ℤ, ◌+ℤ◌, if◌then◌else◌, List, [], ◌∷◌, Option, None, Some, Result, Ok, Err}
use Rattle.std.specs.List.{AllByRecursion}
use Rattle.pes_time.specs.Line.{place}
use Rattle.scte104_codec.specs.declared.requests.SpliceRequest.{SpliceRequest}
use Rattle.scte104_codec.specs.Reading.{MessageReading}
use Rattle.scte35_codec.specs.declared.cue_out.CueOut.{CueOut}
use Rattle.scte35_codec.specs.declared.cue_out.CueOut.TheVariants.{Start, Cancel, End}
use Rattle.scte35_codec.specs.Spelling.{cue_bytes}
use Rattle.event_table.specs.Standing.{Standing}
use Rattle.armed_events.specs.Arming.{Heard, with_section}
use Rattle.cue_laws.specs.Events.{Turn as LineTurn, Started, Cancelled, Ended, Passed as LinePassed}
use Rattle.unit_stream.specs.Clocks.{Rises}
use Rattle.cue_laws.specs.Thinning.{times}
use Rattle.injector.specs.declared.refusal.Refusal.{Refusal}
use Rattle.injector.specs.Asking.{asked_of, is_start}
use Rattle.injector.specs.Verdicts.{time_at, verdict_of}
use Rattle.injector.specs.Turns.{Turn, Judged, Passed, greatest_in, standing}
use Rattle.injector.specs.Senders.{cues_before}

-- what goes over the path: a cue, or a packet of the network, behind which this is the greatest time
pub data Item : Type 0 where
  Sent : CueOut → Item
  Packet : Option ℤ → Item

-- the greatest time
abbrev pub high_on : List Item → Option ℤ
high_on [] = None
high_on (Sent cue ∷ past) = high_on past
high_on (Packet h ∷ past) = h

-- cues behind what was sent before
abbrev pub sent_onto : List Item → List CueOut → List Item
sent_onto past [] = past
sent_onto past (cue ∷ cues) = sent_onto (Sent cue ∷ past) cues

-- WHAT AN INJECTOR SENDS: before each packet the cues that its history asks for
abbrev pub path : ℕ → List Turn → List Item
path index [] = []
path index (Judged m ∷ past) = path index past
path index (Passed later ∷ past) = Packet later ∷ sent_onto (path index past) (cues_before index later past)

-- ---- on the line

-- what a cue tells: a time on the ring is the integer nearest the greatest time
abbrev pub line_of : Option ℤ → CueOut → LineTurn
line_of h (Start event time duration program avail expected avails) = Started event (place h time) (place h time +ℤ pos duration)
line_of h (Cancel event) = Cancelled event
line_of h (End event time) = Ended event (place h time)

abbrev pub line : List Item → List LineTurn
line [] = []
line (Sent cue ∷ past) = line_of (high_on past) cue ∷ line past
line (Packet h ∷ past) = LinePassed h ∷ line past

-- WHAT IS LEFT of a path: of each cue so many copies as the choice says, which knows all that came before; all packets stay
abbrev pub left : (List LineTurn → ℕ) → List Item → List Item
left copies [] = []
left copies (Sent cue ∷ past) = times (copies (line (Sent cue ∷ past))) (Sent cue) (left copies past)
left copies (Packet h ∷ past) = Packet h ∷ left copies past

-- ---- at the switch

-- what the switch makes of a path: it takes each cue by its bytes, at the greatest time
abbrev pub heard_on : List Item → Heard
heard_on [] = record { events = []; ignored = 0 }
heard_on (Sent cue ∷ past) = with_section (high_on past) (cue_bytes cue) (heard_on past)
heard_on (Packet h ∷ past) = heard_on past

-- THE EVENTS that a path arms
abbrev pub armed_on : List Item → List Standing
armed_on items = (heard_on items).events

-- ---- the requests

-- what an accepted request asks for
abbrev pub line_asked : ℤ → SpliceRequest → LineTurn
line_asked high r =
    if is_start r then Started r.splice_event_id (time_at high r) (time_at high r +ℤ pos (9000 * r.break_duration))
    else (if r.splice_insert_type == 3 then Ended r.splice_event_id (time_at high r)
    else Cancelled r.splice_event_id)

-- before the first time none is accepted
abbrev pub with_verdict : Option ℤ → SpliceRequest → Result (Unit {0}) Refusal → List LineTurn → List LineTurn
with_verdict None r verdict past = past
with_verdict (Some high) r (Ok u) past = line_asked high r ∷ past
with_verdict (Some high) r (Err e) past = past

-- with what a message asks for, where these events stand
abbrev pub with_asked : {A : Type 0} → Option ℤ → List Standing → Result A Refusal → (A → SpliceRequest) → List LineTurn → List LineTurn
with_asked h standing (Ok a) request past = with_verdict h (request a) (verdict_of h standing (request a)) past
with_asked h standing (Err e) request past = past

-- THE ACCEPTED REQUESTS of a history, and its packets
abbrev pub asked_line : ℕ → List Turn → List LineTurn
asked_line index [] = []
asked_line index (Judged m ∷ past) = with_asked (greatest_in past) (standing index past) (asked_of index m) (λ a. a.request) (asked_line index past)
asked_line index (Passed h ∷ past) = LinePassed h ∷ asked_line index past

-- ---- histories

-- the fields of a request are as wide as splice_request_data() and insert_avail_descriptor_request_data() have them (ANSI/SCTE 104)
pub record FieldsFit (r : SpliceRequest) (avails : List ℕ) : Type 0 where
  pub splice_event_id : r.splice_event_id < 2 ^ 32
  pub unique_program_id : r.unique_program_id < 2 ^ 16
  pub pre_roll_time : r.pre_roll_time < 2 ^ 16
  pub break_duration : r.break_duration < 2 ^ 16
  pub avails_fit : AllByRecursion (λ id. id < 2 ^ 32) avails

-- what a message asks for fits
abbrev pub FitsIn : {A : Type 0} → Result A Refusal → (A → SpliceRequest) → (A → List ℕ) → Type 0
FitsIn (Ok a) request avails = FieldsFit (request a) (avails a)
FitsIn (Err e) request avails = Unit {0}

abbrev pub RequestFits : ℕ → MessageReading → Type 0
RequestFits index m = FitsIn (asked_of index m) (λ a. a.request) (λ a. a.avails.items)

-- the requests fit, and the greatest time never falls and rises by ten seconds at most
abbrev pub IsSteadyHistory : ℕ → List Turn → Type 0
IsSteadyHistory index [] = Unit {0}
IsSteadyHistory index (Judged m ∷ past) = RequestFits index m × IsSteadyHistory index past
IsSteadyHistory index (Passed h ∷ past) = Rises (greatest_in past) h × IsSteadyHistory index past
