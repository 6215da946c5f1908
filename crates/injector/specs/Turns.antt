-- The history of an injector: messages judged and packets passed, newest first. All is said by whole lists: no event is ever left out of
-- `events`, and those that stand are a filter of it.
use Rattle.std.specs.Prelude.{ℕ, ℤ, List, [], ◌∷◌, Option, None, Result, Ok, Err}
use Rattle.std.specs.Prelude.{filter}
use Rattle.scte104_codec.specs.Reading.{MessageReading, Multiple}
use Rattle.event_table.specs.Standing.{Standing, stands, is_of}
use Rattle.injector.specs.declared.asked.ServedRequest.{ServedRequest}
use Rattle.injector.specs.declared.refusal.Refusal.{Refusal}
use Rattle.injector.specs.Asking.{asked_of, asked_of_multiple}
use Rattle.injector.specs.Verdicts.{verdict_of, verdict_by, changed}

-- a message was judged; a packet passed, behind which this is the greatest time of the units so far
pub data Turn : Type 0 where
  Judged : MessageReading → Turn
  Passed : Option ℤ → Turn

-- the greatest time
abbrev pub greatest_in : List Turn → Option ℤ
greatest_in [] = None
greatest_in (Judged m ∷ past) = greatest_in past
greatest_in (Passed h ∷ past) = h

-- the events, with one request more
abbrev pub with_asked : Option ℤ → List Standing → Result ServedRequest Refusal → List Standing
with_asked h events (Err e) = events
with_asked h events (Ok a) =
    changed h (is_of h a.request.splice_event_id) events a.request
    (verdict_of h (filter (stands h) events) a.request)

-- THE EVENTS that were accepted, in order of acceptance, each with its present end, the cancelled ones among them
abbrev pub events : ℕ → List Turn → List Standing
events index [] = []
events index (Judged m ∷ past) = with_asked (greatest_in past) (events index past) (asked_of index m)
events index (Passed h ∷ past) = events index past

-- those that stand
abbrev pub standing : ℕ → List Turn → List Standing
standing index past = filter (stands (greatest_in past)) (events index past)

-- THE VERDICT on a multiple operation
abbrev pub verdict : ℕ → Multiple → List Turn → Result (Unit {0}) Refusal
verdict index m past = verdict_by (greatest_in past) (standing index past) (asked_of_multiple index m)
