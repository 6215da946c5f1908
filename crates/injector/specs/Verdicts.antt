-- The verdict on a request, by the greatest time of the network and the events that stand, and what an accepted one makes of them.
-- pre_roll_time counts milliseconds of 90 ticks, break_duration tenths of a second of 9,000 ticks.
use Rattle.std.specs.Prelude.{ℕ, ℤ, pos, ◌+◌, ◌*◌, ◌%◌, ◌^◌, ◌+ℤ◌, ◌==◌, int_lt, Bool, not, ◌&&◌}
use Rattle.std.specs.Prelude.{if◌then◌else◌, false, List, [], ◌∷◌, ◌++◌, find, Option, None, Some, Result, Ok, Err}
use Rattle.std.specs.List.{list_any}
use Rattle.scte104_codec.specs.declared.requests.SpliceRequest.{SpliceRequest}
use Rattle.event_table.specs.declared.event.Event.{Event}
use Rattle.event_table.specs.Standing.{Standing, has_begun, has_id, is_full, meets, end_of, ending_at, cancelled_one, with_first}
use Rattle.injector.specs.declared.asked.ServedRequest.{ServedRequest}
use Rattle.injector.specs.declared.refusal.Refusal.{Refusal}
use Rattle.injector.specs.declared.refusal.Refusal.TheVariants.{BadSyntax, WrongVersion, WrongIndex, TimeType}
use Rattle.injector.specs.declared.refusal.Refusal.TheVariants.{UnknownOp, NoRequest, TwoRequests, BadType}
use Rattle.injector.specs.declared.refusal.Refusal.TheVariants.{Unsupported, TooManyAvails, NoDuration, NoReturn}
use Rattle.injector.specs.declared.refusal.Refusal.TheVariants.{NoPreRoll, NoClock, InUse, Full, Overlap, NoSuchEvent}
use Rattle.injector.specs.declared.refusal.Refusal.TheVariants.{TooLate, BadEnd}
use Rattle.injector.specs.Asking.{is_start}

-- the number of each reason in a reply
abbrev pub number_of : Refusal → ℕ
number_of BadSyntax = 0x8001
number_of WrongVersion = 0x8002
number_of WrongIndex = 0x8003
number_of TimeType = 0x8004
number_of UnknownOp = 0x8005
number_of NoRequest = 0x8006
number_of TwoRequests = 0x8007
number_of BadType = 0x8008
number_of Unsupported = 0x8009
number_of TooManyAvails = 0x800A
number_of NoDuration = 0x800B
number_of NoReturn = 0x800C
number_of NoPreRoll = 0x800D
number_of NoClock = 0x800E
number_of InUse = 0x800F
number_of Full = 0x8010
number_of Overlap = 0x8011
number_of NoSuchEvent = 0x8012
number_of TooLate = 0x8013
number_of BadEnd = 0x8014

-- the time that a request names: so many milliseconds past the greatest one
abbrev pub time_at : ℤ → SpliceRequest → ℤ
time_at high r = high +ℤ pos (90 * r.pre_roll_time)

-- the event that a start asks for
abbrev pub start_event : ℤ → SpliceRequest → Standing
start_event high r =
    record {
      id = r.splice_event_id;
      start = time_at high r;
      length = 9000 * r.break_duration;
      asked = 9000 * r.break_duration;
      program = r.unique_program_id;
      cancelled = false;
    }

-- where it stands on the ring
abbrev pub event_on_ring : ℕ → SpliceRequest → Event
event_on_ring high r =
    record {
      id = r.splice_event_id;
      start = (high + 90 * r.pre_roll_time) % 2 ^ 33;
      length = 9000 * r.break_duration;
      asked = 9000 * r.break_duration;
      program = r.unique_program_id;
      cancelled = false;
    }

abbrev pub start_verdict_at : ℤ → List Standing → SpliceRequest → Result (Unit {0}) Refusal
start_verdict_at high standing r =
    if list_any (has_id r.splice_event_id) standing then Err InUse
    else (if is_full standing then Err Full
    else (if list_any (meets (start_event high r)) standing then Err Overlap
    else Ok tt))

-- of a start
abbrev pub start_verdict : Option ℤ → List Standing → SpliceRequest → Result (Unit {0}) Refusal
start_verdict None standing r = Err NoClock
start_verdict (Some high) standing r = start_verdict_at high standing r

-- an end lies above the start and the greatest time, and below the end in force
abbrev pub can_end : ℤ → Standing → SpliceRequest → Bool
can_end high s r =
    not s.cancelled
    && (int_lt s.start (time_at high r) && (int_lt high (time_at high r) && int_lt (time_at high r) (end_of s)))

abbrev pub end_verdict_at : Option ℤ → Option Standing → SpliceRequest → Result (Unit {0}) Refusal
end_verdict_at high None r = Err NoSuchEvent
end_verdict_at None (Some s) r = Err BadEnd
end_verdict_at (Some high) (Some s) r = if can_end high s r then Ok tt else Err BadEnd

-- of an end (splice_insert_type 3, spliceEnd_normal)
abbrev pub end_verdict : Option ℤ → List Standing → SpliceRequest → Result (Unit {0}) Refusal
end_verdict high standing r = end_verdict_at high (find (has_id r.splice_event_id) standing) r

abbrev pub cancel_verdict_at : Option ℤ → Option Standing → Result (Unit {0}) Refusal
cancel_verdict_at high None = Err NoSuchEvent
cancel_verdict_at high (Some s) = if has_begun high s then Err TooLate else Ok tt

-- of a cancel (splice_insert_type 5, splice_cancel)
abbrev pub cancel_verdict : Option ℤ → List Standing → SpliceRequest → Result (Unit {0}) Refusal
cancel_verdict high standing r = cancel_verdict_at high (find (has_id r.splice_event_id) standing)

abbrev pub verdict_of : Option ℤ → List Standing → SpliceRequest → Result (Unit {0}) Refusal
verdict_of high standing r =
    if is_start r then start_verdict high standing r
    else (if r.splice_insert_type == 3 then end_verdict high standing r
    else cancel_verdict high standing r)

-- of what a message asks for
abbrev pub verdict_by : Option ℤ → List Standing → Result ServedRequest Refusal → Result (Unit {0}) Refusal
verdict_by high standing (Ok a) = verdict_of high standing a.request
verdict_by high standing (Err e) = Err e

-- What an accepted request makes of a list of events: a start adds one behind all others; an end or a cancel changes the first one that
-- passes the test.
abbrev pub with_start : Option ℤ → List Standing → SpliceRequest → List Standing
with_start None events r = events
with_start (Some high) events r = events ++ start_event high r ∷ []

abbrev pub ended : Option ℤ → (Standing → Bool) → List Standing → SpliceRequest → List Standing
ended None test events r = events
ended (Some high) test events r = with_first test (ending_at (time_at high r)) events

abbrev pub accepted : Option ℤ → (Standing → Bool) → List Standing → SpliceRequest → List Standing
accepted high test events r =
    if is_start r then with_start high events r
    else (if r.splice_insert_type == 3 then ended high test events r
    else with_first test cancelled_one events)

-- a refused one changes nothing
abbrev pub changed :
    Option ℤ → (Standing → Bool) → List Standing → SpliceRequest → Result (Unit {0}) Refusal → List Standing
changed high test events r (Ok u) = accepted high test events r
changed high test events r (Err e) = events

-- of the events that stand
abbrev pub after : Option ℤ → List Standing → SpliceRequest → Result (Unit {0}) Refusal → List Standing
after high standing r verdict = changed high (has_id r.splice_event_id) standing r verdict

abbrev pub after_by : Option ℤ → List Standing → Result ServedRequest Refusal → List Standing
after_by high standing (Ok a) = after high standing a.request (verdict_of high standing a.request)
after_by high standing (Err e) = standing
