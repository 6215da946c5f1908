-- The cues of accepted events, by the history of an injector: what an event's cues tell, what was told of it, and when.
use Rattle.std.specs.Prelude.{◌≡◌, All, ℕ, ℤ, pos, ◌+ℤ◌, ◌==◌, nat_lt, int_lt, int_le, Bool, true, false, not, ◌&&◌}
use Rattle.std.specs.Prelude.{if◌then◌else◌, List, [], ◌∷◌, ◌++◌, map, filter, Option, None, Some, Result, Ok, Err}
use Rattle.std.specs.List.{flat_map}
use Rattle.pes_time.specs.Line.{ring_of}
use Rattle.scte35_codec.specs.declared.cue_out.CueOut.{CueOut}
use Rattle.scte35_codec.specs.declared.cue_out.CueOut.TheVariants.{Start, Cancel, End}
use Rattle.scte35_codec.specs.Spelling.{cue_bytes}
use Rattle.program_laws.specs.Writing.{packets_out}
use Rattle.event_table.specs.Standing.{Standing, end_of, has_id, ending_at, cancelled_one, with_first, stands}
use Rattle.injector.specs.declared.asked.ServedRequest.{ServedRequest}
use Rattle.injector.specs.declared.choice.Choice.{Choice}
use Rattle.injector.specs.declared.refusal.Refusal.{Refusal}
use Rattle.injector.specs.Asking.{asked_of, is_start}
use Rattle.injector.specs.Verdicts.{time_at, start_event, verdict_of}
use Rattle.injector.specs.Turns.{Turn, Judged, Passed, greatest_in}

-- An event that was accepted, as it is now; what its start cue tells beside it; the event as it was when all that was new of it had been
-- sent the last time, or none before; and the greatest time behind the packet before which its last cue went out.
pub record Sender : Type 0 where
  pub event : Standing
  pub avail_num : ℕ
  pub avails_expected : ℕ
  pub avails : List ℕ
  pub told : Option Standing
  pub last : Option ℤ

-- ---- the cues of an event (SCTE 35, splice_insert)

-- it has got an early end
abbrev pub is_ended : Standing → Bool
is_ended e = nat_lt e.length e.asked

abbrev pub start_cue : Sender → CueOut
start_cue x =
    Start x.event.id (ring_of x.event.start) x.event.asked x.event.program x.avail_num x.avails_expected
    (record { items = x.avails })

abbrev pub end_cue : Sender → CueOut
end_cue x = End x.event.id (ring_of (end_of x.event))

abbrev pub cancel_cue : Sender → CueOut
cancel_cue x = Cancel x.event.id

-- ---- which of them go out before a packet

abbrev pub is_none : Choice → Bool
is_none c = not c.start && (not c.end && not c.cancel)

abbrev pub no_cue : Choice
no_cue = record { start = false; end = false; cancel = false }

-- What is new of an event. Of one that is cancelled before its first cue the cancel alone is.
abbrev pub news : Standing → Option Standing → Choice
news e None = record { start = not e.cancelled; end = not e.cancelled && is_ended e; cancel = e.cancelled }
news e (Some t) = record { start = false; end = nat_lt e.length t.length; cancel = e.cancelled && not t.cancelled }

-- the cue that is repeated: the cancel, else the end, else the start
abbrev pub current : Standing → Choice
current e =
    record { start = not e.cancelled && not (is_ended e); end = not e.cancelled && is_ended e; cancel = e.cancelled }

-- and the time below which it is: the event's start, or the end that it tells
abbrev pub limit : Standing → ℤ
limit e = if not e.cancelled && is_ended e then end_of e else e.start

-- The cue is repeated before a packet where the greatest time before the packet is below the limit, and the one behind it a second
-- (90,000 ticks) or more past the one behind the last sending.
abbrev pub is_repeated : Standing → Option ℤ → Option ℤ → Option ℤ → Bool
is_repeated e None high later = false
is_repeated e (Some last) None later = false
is_repeated e (Some last) (Some high) None = false
is_repeated e (Some last) (Some high) (Some later) = int_lt high (limit e) && int_le (last +ℤ pos 90000) later

-- before a packet that lifts the greatest time from the first to the second: what is new, else what is repeated
abbrev pub chosen : Sender → Option ℤ → Option ℤ → Choice
chosen x high later =
    if not (is_none (news x.event x.told)) then news x.event x.told
    else (if is_repeated x.event x.last high later then current x.event else no_cue)

abbrev pub when : Bool → CueOut → List CueOut
when b cue = if b then cue ∷ [] else []

abbrev pub cues_by : Sender → Choice → List CueOut
cues_by x c = when c.start (start_cue x) ++ (when c.end (end_cue x) ++ when c.cancel (cancel_cue x))

abbrev pub cues_of : Option ℤ → Option ℤ → Sender → List CueOut
cues_of high later x = cues_by x (chosen x high later)

-- cues in packets, behind what is out
abbrev pub packed : ℕ → List (List ℕ) → List CueOut → List (List ℕ)
packed pid out cues = packets_out pid out (map cue_bytes cues)

-- behind the packet
abbrev pub told_now : Option ℤ → Sender → Sender
told_now later x = record x { told = Some x.event; last = later }

abbrev pub tell : Option ℤ → Option ℤ → Sender → Sender
tell high later x = if is_none (chosen x high later) then x else told_now later x

-- ---- the history

-- an event that was just accepted, of which nothing was told
abbrev pub new_sender : ℤ → ServedRequest → Sender
new_sender high a =
    record {
      event = start_event high a.request;
      avail_num = a.request.avail_num;
      avails_expected = a.request.avails_expected;
      avails = a.avails.items;
      told = None;
      last = None;
    }

abbrev pub with_event : (Standing → Standing) → Sender → Sender
with_event change x = record x { event = change x.event }

abbrev pub begun : Option ℤ → List Sender → ServedRequest → List Sender
begun None xs a = xs
begun (Some high) xs a = xs ++ new_sender high a ∷ []

abbrev pub cut_short : Option ℤ → (Sender → Bool) → List Sender → ServedRequest → List Sender
cut_short None test xs a = xs
cut_short (Some high) test xs a = with_first test (with_event (ending_at (time_at high a.request))) xs

abbrev pub with_accepted : Option ℤ → (Sender → Bool) → List Sender → ServedRequest → List Sender
with_accepted high test xs a =
    if is_start a.request then begun high xs a
    else (if a.request.splice_insert_type == 3 then cut_short high test xs a
    else with_first test (with_event cancelled_one) xs)

-- a refused request changes nothing
abbrev pub with_judged : Option ℤ → (Sender → Bool) → List Sender → ServedRequest → Result (Unit {0}) Refusal → List Sender
with_judged high test xs a (Ok u) = with_accepted high test xs a
with_judged high test xs a (Err e) = xs

abbrev pub sender_stands : Option ℤ → Sender → Bool
sender_stands high x = stands high x.event

-- it stands, with this id
abbrev pub stands_by : Option ℤ → ℕ → Sender → Bool
stands_by high id x = stands high x.event && has_id id x.event

abbrev pub events_in : List Sender → List Standing
events_in xs = map (λ (x : Sender). x.event) xs

-- with one request more
abbrev pub with_request : Option ℤ → List Sender → Result ServedRequest Refusal → List Sender
with_request high xs (Err e) = xs
with_request high xs (Ok a) =
    with_judged high (stands_by high a.request.splice_event_id) xs a
    (verdict_of high (events_in (filter (sender_stands high) xs)) a.request)

-- of those that stand
abbrev pub noted_after : Option ℤ → List Sender → Result ServedRequest Refusal → List Sender
noted_after high xs (Err e) = xs
noted_after high xs (Ok a) =
    with_judged high (λ x. has_id a.request.splice_event_id x.event) xs a
    (verdict_of high (events_in xs) a.request)

-- ALL EVENTS that were accepted, in order of acceptance, with what was told of each
abbrev pub senders : ℕ → List Turn → List Sender
senders index [] = []
senders index (Judged m ∷ past) = with_request (greatest_in past) (senders index past) (asked_of index m)
senders index (Passed later ∷ past) = map (tell (greatest_in past) later) (senders index past)

-- those that stand
abbrev pub standing_senders : ℕ → List Turn → List Sender
standing_senders index past = filter (sender_stands (greatest_in past)) (senders index past)

-- THE CUES that go out before a packet behind which this is the greatest time: those of the events that stand, in order of acceptance
abbrev pub cues_before : ℕ → Option ℤ → List Turn → List CueOut
cues_before index later past = flat_map (cues_of (greatest_in past) later) (standing_senders index past)

-- no event that stands has one
abbrev pub IsIdle : ℕ → Option ℤ → List Turn → Type 0
IsIdle index later past = All (λ x. is_none (chosen x (greatest_in past) later) ≡ true) (standing_senders index past)
