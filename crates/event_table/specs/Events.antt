-- An event on the ring: what the code asks of it, and the condition under which it may be armed.
use Rattle.std.specs.Prelude.{◌≡◌, ℕ, ◌+◌, ◌%◌, ◌^◌, ◌<◌, ◌≤◌, ◌==◌, Bool, true, false, not, ◌&&◌, pos, int_le, int_lt, unsigned_abs, Option, None, Some, List, count_by}
use Rattle.pes_time.specs.Line.{signed}
use Rattle.event_table.specs.declared.event.Event.{Event}
use Rattle.event_table.specs.Rings.{is_before_on_ring, IsAheadOnRing}

-- what fills an unused place of a table
abbrev pub no_event : Event
no_event = record { id = 0; start = 0; length = 0; asked = 0; program = 0; cancelled = false }

-- the end on the ring
abbrev pub ring_end : Event → ℕ
ring_end e = (e.start + e.length) % 2 ^ 33

-- an uncancelled event holds the time
abbrev pub covers_on_ring : Event → ℕ → Bool
covers_on_ring e time = not e.cancelled && int_le (pos 0) (signed time e.start) && int_lt (signed time e.start) (pos e.length)

-- it is not cancelled, and its end lies past this time
abbrev pub is_open_on_ring : ℕ → Event → Bool
is_open_on_ring high e = not e.cancelled && is_before_on_ring high (ring_end e)

-- how many of the events are so at the high time; none is before the first
abbrev pub open_count_of : Option ℕ → List Event → ℕ
open_count_of None events = 0
open_count_of (Some high) events = count_by (is_open_on_ring high) events

-- each begins before the other ends
abbrev pub meets_on_ring : Event → Event → Bool
meets_on_ring a b = is_before_on_ring a.start (ring_end b) && is_before_on_ring b.start (ring_end a)

-- the same request
abbrev pub repeats_on_ring : Event → Event → Bool
repeats_on_ring a b = a.id == b.id && a.start == b.start && a.asked == b.asked && a.program == b.program

-- the time lies past the start and before the end
abbrev pub ends_early_on_ring : Event → ℕ → Bool
ends_early_on_ring e time = int_lt (pos 0) (signed time e.start) && is_before_on_ring time (ring_end e)

-- the event, cancelled
abbrev pub cancelled_event : Event → Event
cancelled_event e = record e { cancelled = true }

-- the event with this end
abbrev pub ended_on_ring : ℕ → Event → Event
ended_on_ring time e = record e { length = unsigned_abs (signed time e.start) }

-- the event is as it is when it is first asked for
pub record IsFresh (event : Event) : Type 0 where
  pub uncancelled : event.cancelled ≡ false
  pub whole : event.length ≡ event.asked
  pub some : 0 < event.length
  pub most : event.length ≤ 2 ^ 30

pub record IsArmable (high : ℕ) (event : Event) : Type 0 where
  pub fresh : IsFresh event
  pub ahead : IsAheadOnRing high event.start

-- an event may be armed: there is a high time, the event is fresh, and its start lies 1 to 2^29 ticks past the high time
abbrev pub CanArm : Option ℕ → Event → Type 0
CanArm None event = ⊥
CanArm (Some high) event = IsArmable high event
