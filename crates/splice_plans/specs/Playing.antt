-- What is played of the armed events in one stream. All is said by the packets behind the head that came before, newest first, and by what
-- the events were then: a unit is judged by the ends that are in force when it begins.
use Rattle.std.specs.Prelude.{ℕ, ◌∷◌, List, [], Bool, false, not, ◌&&◌, ◌||◌, if◌then◌else◌, Option, None, Some, option_map, ℤ, int_lt, length, drop, filter, find}
use Rattle.std.specs.List.{list_any}
use Rattle.std.specs.Ordering.{int_eq}
use Rattle.event_table.specs.Standing.{Standing, end_of}
use Rattle.splice_laws.specs.Splicing.{PlayedEvent, SliceUnit, TimedStream, holds, below, passed}
use Rattle.splice_laws.specs.Settled.{begun_now, closed_now}
use Rattle.splice_laws.specs.Ends.{up_to_end, longest_front}

-- What the advertisements say of events: whether an event's advertisement fits the length first asked for, and the units of the
-- advertisement that go with a PID, with their times where the event plays them, whatever its end.
pub record Adverts : Type 0 where
  pub fits : Standing → Bool
  pub units : Standing → ℕ → List SliceUnit

-- the events, at each past
abbrev pub History : Type 0
History = List (List ℕ) → List Standing

-- ---- the played events

-- it is not cancelled, and its advertisement fits
abbrev pub is_played : Adverts → Standing → Bool
is_played ads e = not e.cancelled && ads.fits e

abbrev pub put_by_start : Standing → List Standing → List Standing
put_by_start x [] = x ∷ []
put_by_start x (e ∷ es) = if int_lt x.start e.start then x ∷ e ∷ es else e ∷ put_by_start x es

-- in order of their starts
abbrev pub by_start : List Standing → List Standing
by_start [] = []
by_start (e ∷ es) = put_by_start e (by_start es)

abbrev pub played : Adverts → List Standing → List Standing
played ads es = by_start (filter (is_played ads) es)

abbrev pub as_played : Standing → PlayedEvent
as_played e = record { start = e.start; stop = end_of e; name = e.program }

-- No two events ever have one start, so the start says which event is meant: the end in force of the one that is played, at a past.
abbrev pub end_known : Adverts → History → ℤ → List (List ℕ) → Option ℤ
end_known ads events start past = option_map end_of (find (λ e. int_eq e.start start && is_played ads e) (events past))

-- the time lies in a played event
abbrev pub is_inside : Adverts → List Standing → Option ℤ → Bool
is_inside ads es time = list_any (λ e. is_played ads e && holds (as_played e) time) es

-- ---- one event in one stream

abbrev pub up_to_known : Option ℤ → List SliceUnit → List SliceUnit
up_to_known None units = []
up_to_known (Some stop) units = up_to_end stop units

-- What goes out changes at unit starts alone: `turns` says of a packet whether it begins a unit of some switched stream.
abbrev pub Turns : Type 0
Turns = List ℕ → List (List ℕ) → Bool

module _ (turns : Turns) (r : TimedStream) (x : PlayedEvent) (known : List (List ℕ) → Option ℤ) (units : List SliceUnit) where
  -- what is out of an event that has begun and was not closed before, with a unit start
  abbrev pub sent_of_begun : List ℕ → List (List ℕ) → List SliceUnit
  sent_of_begun p past = if closed_now r x known (p ∷ past) then up_to_known (known (p ∷ past)) units
      else longest_front (up_to_known (known (p ∷ past)) units) (r.high (p ∷ past))

  -- WHAT IS OUT of an event's units: none before its begin; while it runs, the longest front of those before its end that have come due;
  -- once it is closed, all that lay before the end in force then
  abbrev pub sent_known : List (List ℕ) → List SliceUnit
  sent_known [] = []
  sent_known (p ∷ past) = if turns p past && (not (closed_now r x known past) && begun_now r x known (p ∷ past)) then sent_of_begun p past else sent_known past

  -- what goes out with the packet, before it
  abbrev pub due_at : List ℕ → List (List ℕ) → List SliceUnit
  due_at p past = drop (length (sent_known past)) (sent_known (p ∷ past))

  -- of an event that the packet closes, and of one that runs on
  abbrev pub closing_at : List ℕ → List (List ℕ) → List SliceUnit
  closing_at p past = if closed_now r x known (p ∷ past) then due_at p past else []

  abbrev pub running_at : List ℕ → List (List ℕ) → List SliceUnit
  running_at p past = if closed_now r x known (p ∷ past) then [] else due_at p past

  -- what is left at the end
  abbrev pub left_at_end : List (List ℕ) → List SliceUnit
  left_at_end past = if begun_now r x known past && not (closed_now r x known past) then drop (length (sent_known past)) (up_to_known (known past) units) else []

-- a unit below the edge began after one at or past it
abbrev pub is_crossed : TimedStream → ℤ → List (List ℕ) → Bool
is_crossed r edge [] = false
is_crossed r edge (p ∷ past) = is_crossed r edge past || (r.begins p past && (passed r edge past && below edge (r.time (p ∷ past))))
