-- What the code keeps beside an event, and what it stands for.
use Rattle.std.specs.Prelude.{◌≡◌, ℕ, ℤ, pos, ◌+ℤ◌, ◌≤ℤ◌, ◌<ℤ◌, int_lt, ◌+◌, ◌%◌, ◌^◌, ◌≤◌, nat_lt, Bool, false, not}
use Rattle.std.specs.Prelude.{◌&&◌}
use Rattle.std.specs.Prelude.{if◌then◌else◌, List, ◌∷◌, ◌++◌, length, drop, replicate, map, All, Option, None, Some}
use Rattle.std.specs.Prelude.{option_map}
use Rattle.pes_time.specs.Line.{ring_of}
use Rattle.unit_stream.specs.Clocks.{Rises}
use Rattle.event_table.specs.declared.event.Event.{Event}
use Rattle.event_table.specs.Events.{ring_end}
use Rattle.event_table.specs.Rings.{is_before_on_ring}
use Rattle.event_table.specs.Standing.{Standing, on_ring}
use Rattle.event_table.specs.Tables.{StandsFor, values_of}
use Rattle.injector.specs.declared.asked.ServedRequest.{ServedRequest}
use Rattle.injector.specs.declared.notes.KeptAvailIds.{KeptAvailIds}
use Rattle.injector.specs.declared.notes.Told.{Told}
use Rattle.injector.specs.declared.notes.Notes.{Notes}
use Rattle.injector.specs.declared.choice.Choice.{Choice}
use Rattle.injector.specs.declared.requests.Requests.{Requests}
use Rattle.injector.specs.Turns.{Turn, Passed, greatest_in}
use Rattle.injector.specs.Requests.{RequestsStandFor}
use Rattle.injector.specs.Senders.{Sender, is_none, no_cue, limit, tell, events_in, standing_senders, IsIdle}

abbrev pub ids_of : List ℕ → KeptAvailIds
ids_of ids = record { ids = ids ++ drop (length ids) (replicate 14 0); count = length ids }

abbrev pub told_by_cue : Standing → Told
told_by_cue e = record { length = e.length; cancelled = e.cancelled }

abbrev pub notes_of : Sender → Notes
notes_of x =
    record {
      avail_num = x.avail_num;
      avails_expected = x.avails_expected;
      avails = ids_of x.avails;
      told = option_map told_by_cue x.told;
      last = option_map ring_of x.last;
    }

abbrev pub notes_asked : ServedRequest → Notes
notes_asked a =
    record {
      avail_num = a.request.avail_num;
      avails_expected = a.request.avails_expected;
      avails = ids_of a.avails.items;
      told = None;
      last = None;
    }

abbrev pub next_by : Standing → Option ℤ → Option ℤ → Option ℤ
next_by e None high = None
next_by e (Some last) None = None
next_by e (Some last) (Some high) = if int_lt high (limit e) then Some (last +ℤ pos 90000) else None

-- ---- the choice of cues, on the ring

abbrev pub ring_ended : Event → Bool
ring_ended e = nat_lt e.length e.asked

abbrev pub ring_news : Event → Option Told → Choice
ring_news e None = record { start = not e.cancelled; end = not e.cancelled && ring_ended e; cancel = e.cancelled }
ring_news e (Some t) = record { start = false; end = nat_lt e.length t.length; cancel = e.cancelled && not t.cancelled }

abbrev pub ring_current : Event → Choice
ring_current e =
    record {
      start = not e.cancelled && not (ring_ended e);
      end = not e.cancelled && ring_ended e;
      cancel = e.cancelled;
    }

abbrev pub ring_limit : Event → ℕ
ring_limit e = if not e.cancelled && ring_ended e then ring_end e else e.start

abbrev pub ring_repeated : Event → Option ℕ → Option ℕ → Option ℕ → Bool
ring_repeated e None high later = false
ring_repeated e (Some last) None later = false
ring_repeated e (Some last) (Some high) None = false
ring_repeated e (Some last) (Some high) (Some later) =
    is_before_on_ring high (ring_limit e) && not (is_before_on_ring later ((last + 90000) % 2 ^ 33))

abbrev pub ring_chosen : Event → Option Told → Option ℕ → Option ℕ → Option ℕ → Choice
ring_chosen e told last high later =
    if not (is_none (ring_news e told)) then ring_news e told
    else (if ring_repeated e last high later then ring_current e else no_cue)

-- the time at which the cue is repeated next
abbrev pub ring_next : Event → Option ℕ → Option ℕ → Option ℕ
ring_next e None high = None
ring_next e (Some last) None = None
ring_next e (Some last) (Some high) =
    if is_before_on_ring high (ring_limit e) then Some ((last + 90000) % 2 ^ 33) else None

-- the earlier of two times
abbrev pub ring_earlier : Option ℕ → Option ℕ → Option ℕ
ring_earlier None b = b
ring_earlier (Some a) None = Some a
ring_earlier (Some a) (Some b) = if is_before_on_ring b a then Some b else Some a

-- the greatest time behind a packet has come to this time
abbrev pub ring_reached : Option ℕ → Option ℕ → Bool
ring_reached None later = false
ring_reached (Some rest) None = false
ring_reached (Some rest) (Some later) = not (is_before_on_ring later rest)

-- ---- what is kept

-- the last sending lies at or before the greatest time, and the event's start at most 2^29 past it
abbrev pub LastIn : Option ℤ → ℤ → Option ℤ → Type 0
LastIn high start None = Unit {0}
LastIn None start (Some last) = ⊥
LastIn (Some high) start (Some last) = (last ≤ℤ high) × (start ≤ℤ (last +ℤ pos (2 ^ 29)))

pub record IsKept (high : Option ℤ) (x : Sender) : Type 0 where
  pub avails : length x.avails ≤ 14
  pub last : LastIn high x.event.start x.last

-- an event on the ring, with its notes, stands for this one
pub record IsShown (event : Event) (notes : Notes) (x : Sender) : Type 0 where
  pub event_is : event ≡ on_ring x.event
  pub notes_are : notes ≡ notes_of x
  pub avails : length x.avails ≤ 14
  pub asked : x.event.asked ≤ 2 ^ 30

-- beside the events of the table stand the notes of these
pub record AreNoted (requests : Requests) (high : Option ℤ) (xs : List Sender) : Type 0 where
  pub notes : values_of requests.table ≡ map notes_of xs
  pub kept : All (IsKept high) xs

-- The cues of some events have gone out, and those of the others, which are left, have not. High is the greatest time before the packet, and later the one behind it.
pub record Sending (requests : Requests) (high later : Option ℤ) (done left : List Sender) : Type 0 where
  pub table : StandsFor requests.table high (events_in (done ++ left))
  pub notes : values_of requests.table ≡ map notes_of (map (tell high later) done ++ left)
  pub kept : All (IsKept high) (done ++ left)

-- before a packet, and when the cues before it have gone out
abbrev pub NotesStandFor : Requests → ℕ → List Turn → Type 0
NotesStandFor requests index past = AreNoted requests (greatest_in past) (standing_senders index past)

abbrev pub NotesTold : Requests → ℕ → List Turn → Option ℤ → Type 0
NotesTold requests index past later =
    AreNoted requests later (map (tell (greatest_in past) later) (standing_senders index past))

-- ---- until when no cue is due

-- the time at which the event's cue is repeated next, unless it changes
abbrev pub next_of : Option ℤ → Sender → Option ℤ
next_of high x = next_by x.event x.last high

-- it is not before this one
abbrev pub AtOrAfter : Option ℤ → Option ℤ → Type 0
AtOrAfter bound None = Unit {0}
AtOrAfter None (Some next) = ⊥
AtOrAfter (Some bound) (Some next) = bound ≤ℤ next

-- a second past the greatest time at most
abbrev pub IsDueWithinASecond : Option ℤ → Option ℤ → Type 0
IsDueWithinASecond None high = Unit {0}
IsDueWithinASecond (Some bound) None = ⊥
IsDueWithinASecond (Some bound) (Some high) = (high <ℤ bound) × (bound ≤ℤ (high +ℤ pos 90000))

-- No cue of these events is repeated before the time that is kept, or ever where none is kept.
pub record Rests (rest : Option ℕ) (high : Option ℤ) (xs : List Sender) : Type 0 where
  pub bound : Option ℤ
  pub kept : rest ≡ option_map ring_of bound
  pub ahead : IsDueWithinASecond bound high
  pub waits : All (λ x. AtOrAfter bound (next_of high x)) xs

-- the same by a history: also behind a packet before which no cue is due
pub record StaysAtRest (rest : Option ℕ) (index : ℕ) (latest : Option ℤ) (past : List Turn) : Type 0 where
  pub idle : IsIdle index latest past
  pub rests : Rests rest latest (standing_senders index (Passed latest ∷ past))

-- Before a packet behind which the greatest time is `latest`, at this place of the ring. No event is looked at where it is known that no cue
-- is due.
pub record IsBefore
    (is_due : Bool) (requests : Requests) (later : Option ℕ) (index : ℕ) (past : List Turn)
    (latest : Option ℤ) : Type 0 where
  pub stands : RequestsStandFor requests index past
  pub notes : NotesStandFor requests index past
  pub rises : Rises (greatest_in past) latest
  pub time : later ≡ option_map ring_of latest
  pub idle : is_due ≡ false → IsIdle index latest past

-- The cues of this event are next.
pub record IsCuedNext
    (requests : Requests) (place : ℕ) (later : Option ℕ) (latest after : Option ℤ) (done : List Sender) (x : Sender)
    (left : List Sender) : Type 0 where
  pub sending : Sending requests latest after done (x ∷ left)
  pub place_is : place ≡ length done
  pub rises : Rises latest after
  pub time : later ≡ option_map ring_of after
