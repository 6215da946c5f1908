-- Standing events as intervals of integers, and the answers that a list of them gives.
-- A line time is an integer, and a time of the ring stands for the one that is nearest the high time.
use Rattle.std.specs.Prelude.{◌≡◌, ℕ, ◌^◌, ◌<◌, ◌≤◌, ◌==◌, Bool, true, false, not, ◌&&◌, if◌then◌else◌, List, [], ◌∷◌, length, ℤ, pos, ◌+ℤ◌, ◌-ℤ◌, ◌≤ℤ◌, ◌<ℤ◌, int_le, int_lt, unsigned_abs, Option, None, Some, Result, Ok, Err, find, filter}
use Rattle.std.specs.List.{list_any}
use Rattle.std.specs.Ordering.{int_eq}
use Rattle.pes_time.specs.Line.{ring_of, lift, place}
use Rattle.event_table.specs.declared.event.Event.{Event}
use Rattle.event_table.specs.declared.table.Armed.{Armed}
use Rattle.event_table.specs.declared.table.Armed.TheVariants.{New, Same}
use Rattle.event_table.specs.declared.table.ArmRefusal.{ArmRefusal}
use Rattle.event_table.specs.declared.table.ArmRefusal.TheVariants.{InUse, Full, Overlap}
use Rattle.event_table.specs.declared.table.CancelRefusal.{CancelRefusal}
use Rattle.event_table.specs.declared.table.CancelRefusal.TheVariants.{NoSuchEvent, TooLate}
use Rattle.event_table.specs.declared.table.ShortenRefusal.{ShortenRefusal}
use Rattle.event_table.specs.declared.table.ShortenRefusal.TheVariants.{NoSuchEvent as NothingToShorten, BadEnd}

-- an event on the line: it holds the integers from its start, as many as its length
pub record Standing : Type 0 where
  pub id : ℕ
  pub start : ℤ
  pub length : ℕ
  pub asked : ℕ
  pub program : ℕ
  pub cancelled : Bool

-- the first integer past the event
abbrev pub end_of : Standing → ℤ
end_of s = s.start +ℤ pos s.length

-- the high time at which it is forgotten: 900,000 ticks (ten seconds) past its end
abbrev pub forgotten_at : Standing → ℤ
forgotten_at s = end_of s +ℤ pos 900000

-- where the event stands on the ring
abbrev pub on_ring : Standing → Event
on_ring s = record { id = s.id; start = ring_of s.start; length = s.length; asked = s.asked; program = s.program; cancelled = s.cancelled }

-- the event of the line that an event of the ring means, by the high time
abbrev pub on_line : Option ℤ → Event → Standing
on_line latest e = record { id = e.id; start = place latest e.start; length = e.length; asked = e.asked; program = e.program; cancelled = e.cancelled }

-- the integer t is one that stands at the next high time: by the last high time, or any where there was none
abbrev pub IsTimeAt : Option ℤ → ℕ → ℤ → Type 0
IsTimeAt None p t = ring_of t ≡ p
IsTimeAt (Some high) p t = t ≡ lift high p

-- the interval holds the time
pub record Holds (s : Standing) (time : ℤ) : Type 0 where
  pub from : s.start ≤ℤ time
  pub to : time <ℤ end_of s

abbrev pub has_id : ℕ → Standing → Bool
has_id id s = s.id == id

-- the event is not yet forgotten; before the first time none is
abbrev pub stands : Option ℤ → Standing → Bool
stands None s = true
stands (Some high) s = int_lt high (forgotten_at s)

-- it stands, with this id; those that are forgotten may have had the same
abbrev pub is_of : Option ℤ → ℕ → Standing → Bool
is_of latest id s = stands latest s && has_id id s

-- the event is not cancelled and holds the time
abbrev pub covers : ℤ → Standing → Bool
covers time s = not s.cancelled && int_le s.start time && int_lt time (end_of s)

-- the two intervals have a time in common: each begins before the other's present end
abbrev pub meets : Standing → Standing → Bool
meets a b = int_lt a.start (end_of b) && int_lt b.start (end_of a)

-- the same request: equal in id, start, length first asked and program
abbrev pub repeats : Standing → Standing → Bool
repeats a b = a.id == b.id && int_eq a.start b.start && a.asked == b.asked && a.program == b.program

-- no event may be armed beside these 32
abbrev pub is_full : List Standing → Bool
is_full standing = length standing == 32

-- the answer to a request for an event
abbrev pub arm_answer : List Standing → Standing → Result Armed ArmRefusal
arm_answer standing event =
    if list_any (repeats event) standing then Ok Same
    else if list_any (has_id event.id) standing then Err InUse
    else if is_full standing then Err Full
    else if list_any (meets event) standing then Err Overlap
    else Ok New

-- the high time is at or past the start
abbrev pub has_begun : Option ℤ → Standing → Bool
has_begun None s = false
has_begun (Some high) s = int_le s.start high

abbrev pub cancel_answer_of : Option ℤ → Option Standing → Result (Unit {0}) CancelRefusal
cancel_answer_of latest None = Err NoSuchEvent
cancel_answer_of latest (Some s) = if has_begun latest s then Err TooLate else Ok tt

-- the answer to a cancel
abbrev pub cancel_answer : Option ℤ → List Standing → ℕ → Result (Unit {0}) CancelRefusal
cancel_answer latest standing id = cancel_answer_of latest (find (has_id id) standing)

-- the time lies 1 to 2^29 ticks past the high time
abbrev pub is_ahead_of : Option ℤ → ℤ → Bool
is_ahead_of None time = false
is_ahead_of (Some high) time = int_lt high time && int_le time (high +ℤ pos (2 ^ 29))

-- a new end lies above the start, and below the present end
abbrev pub is_early_end : Standing → ℤ → Bool
is_early_end s time = int_lt s.start time && int_lt time (end_of s)

abbrev pub shorten_answer_of : Option ℤ → ℤ → Option Standing → Result Armed ShortenRefusal
shorten_answer_of latest time None = Err NothingToShorten
shorten_answer_of latest time (Some s) =
    if not (is_ahead_of latest time) then Err BadEnd
    else if s.cancelled then Err BadEnd
    else if int_eq time (end_of s) then Ok Same
    else if is_early_end s time then Ok New
    else Err BadEnd

-- the answer to an early end
abbrev pub shorten_answer : Option ℤ → List Standing → ℕ → ℤ → Result Armed ShortenRefusal
shorten_answer latest standing id time = shorten_answer_of latest time (find (has_id id) standing)

-- the list with its first element that passes the test changed, and all others as they were
abbrev pub with_first : {X : Type 0} → (X → Bool) → (X → X) → List X → List X
with_first test change [] = []
with_first test change (x ∷ later) = if test x then change x ∷ later else x ∷ with_first test change later

abbrev pub cancelled_one : Standing → Standing
cancelled_one s = record s { cancelled = true }

-- the event with this end
abbrev pub ending_at : ℤ → Standing → Standing
ending_at time s = record s { length = unsigned_abs (time -ℤ s.start) }

-- the list in which the event of this id is cancelled
abbrev pub with_cancelled : ℕ → List Standing → List Standing
with_cancelled id standing = with_first (has_id id) cancelled_one standing

-- the list in which the event of this id ends at this time
abbrev pub with_end : ℕ → ℤ → List Standing → List Standing
with_end id time standing = with_first (has_id id) (ending_at time) standing

-- those that are not yet forgotten at this high time
abbrev pub still_standing : ℤ → List Standing → List Standing
still_standing high standing = filter (λ s. int_lt high (forgotten_at s)) standing

-- two events have different ids, and no time in common
pub record IsApart (a b : Standing) : Type 0 where
  pub ids : (a.id == b.id) ≡ false
  pub times : meets a b ≡ false

-- how far an event that stands lies from the high time: its start at most 2^29 past it, its end at most 900,000 before it, and between
-- them at least one tick and at most the 2^30 that could be asked for
pub record IsInReach (high : ℤ) (s : Standing) : Type 0 where
  pub some : 0 < s.length
  pub shortened : s.length ≤ s.asked
  pub most : s.asked ≤ 2 ^ 30
  pub start : s.start ≤ℤ (high +ℤ pos (2 ^ 29))
  pub stands : high <ℤ forgotten_at s

-- before the first high time nothing stands
abbrev pub IsWithin : Option ℤ → Standing → Type 0
IsWithin None s = ⊥
IsWithin (Some high) s = IsInReach high s
