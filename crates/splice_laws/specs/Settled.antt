-- Breaks that become known while the stream runs, and whose end may come earlier than it was said first.
use Rattle.std.specs.Prelude.{◌≡◌, ℕ, ℤ, ◌≤ℤ◌, ◌<ℤ◌, ◌⊎◌, ◌∷◌, List, [], Bool, false, not, ◌&&◌, ◌||◌, Option, None, Some, Contains, All, pos, ◌+ℤ◌, true}
use Rattle.splice_laws.specs.Splicing.{PlayedEvent, SliceUnit, out_of, TimedStream, stream, comes, holds, break_stands, begun, closed}
use Rattle.splice_laws.specs.Laws.{Risen, IsStream}

-- the event, with another end
abbrev pub ending : PlayedEvent → ℤ → PlayedEvent
ending x stop = record x { stop = stop }

abbrev pub holds_now : PlayedEvent → Option ℤ → Option ℤ → Bool
holds_now x None t = false
holds_now x (Some stop) t = holds (ending x stop) t

abbrev pub stands_now : PlayedEvent → Option ℤ → Option ℤ → Bool
stands_now x None h = false
stands_now x (Some stop) h = break_stands (ending x stop) h

-- The same flags, by what is known at each packet: `known` gives the end in force, none where the event is not known. A packet that
-- begins a unit tells of no event, so what is known with it is what was known before it.
abbrev pub begun_now : TimedStream → PlayedEvent → (List (List ℕ) → Option ℤ) → List (List ℕ) → Bool
begun_now r x known [] = false
begun_now r x known (p ∷ past) = begun_now r x known past || (comes r x.start p past && stands_now x (known (p ∷ past)) (r.high past))

abbrev pub closed_now : TimedStream → PlayedEvent → (List (List ℕ) → Option ℤ) → List (List ℕ) → Bool
closed_now r x known [] = false
closed_now r x known (p ∷ past) = closed_now r x known past || (begun_now r x known (p ∷ past) && (r.begins p past && not (holds_now x (known (p ∷ past)) (r.time (p ∷ past)))))

-- the greatest time is below
abbrev pub IsAhead : Option ℤ → ℤ → Type 0
IsAhead None edge = Unit {0}
IsAhead (Some h) edge = h <ℤ edge

-- What is known so far of an event that is x in the end: all; or a later end, and x's end is still to come; or nothing, and so is x's start.
abbrev pub IsSettled : PlayedEvent → Option ℤ → Option ℤ → Type 0
IsSettled x None h = IsAhead h x.start
IsSettled x (Some stop) h = (stop ≡ x.stop) ⊎ (IsAhead h x.stop × (x.stop ≤ℤ stop))

-- The event is forgotten with the packet: it stands no more, and a unit that begins does not lie in it. (One with a stamp does not where
-- times do not jump; one without has the time of the unit before it, so whether it lies in the event is to be kept, not asked for.)
pub record IsForgotten (r : TimedStream) (x : PlayedEvent) (known : Option ℤ) (p : List ℕ) (past : List (List ℕ)) : Type 0 where
  pub unknown : known ≡ None
  pub stands_not : break_stands x (r.high past) ≡ false
  pub holds_not : r.begins p past ≡ true → holds x (r.time (p ∷ past)) ≡ false

abbrev pub IsSettledSince : TimedStream → PlayedEvent → (List (List ℕ) → Option ℤ) → List (List ℕ) → Type 0
IsSettledSince r x known [] = Unit {0}
IsSettledSince r x known (p ∷ past) = (IsSettled x (known (p ∷ past)) (r.high (p ∷ past)) ⊎ IsForgotten r x (known (p ∷ past)) p past) × IsSettledSince r x known past

-- no unit's time is past the greatest: the stream is one of those whose times it is
abbrev pub NeverPassesHigh : TimedStream → Type 0
NeverPassesHigh r = (past : List (List ℕ)) → Risen (r.time past) (r.high past)

-- THE LAW OF SETTLEMENT: what was said of a unit by what was known then is what the events of the end say of it
abbrev pub FlagsSettle : Type 0
FlagsSettle = (r : TimedStream) → IsStream r → NeverPassesHigh r → (x : PlayedEvent) (known : List (List ℕ) → Option ℤ) (past : List (List ℕ)) →
    IsSettledSince r x known past → (begun_now r x known past ≡ begun r x past) × (closed_now r x known past ≡ closed r x past)

-- and whether the running unit lies in it
abbrev pub HoldsSettle : Type 0
HoldsSettle = (r : TimedStream) → NeverPassesHigh r → (x : PlayedEvent) (known : Option ℤ) (past : List (List ℕ)) →
    IsSettled x known (r.high past) → holds_now x known (r.time past) ≡ holds x (r.time past)

abbrev pub SwitchedPidsNeverPassHigh : Type 0
SwitchedPidsNeverPassHigh = (switched : List ℕ) (pid : ℕ) → Contains switched pid → NeverPassesHigh (stream switched pid)

-- ---- what a table of events may leave out

-- THE LAW OF BREAKS TO COME: one whose start is still to come holds nothing and has not begun, so it may be cancelled, or not be known yet
abbrev pub NothingEarly : Type 0
NothingEarly = (r : TimedStream) → IsStream r → NeverPassesHigh r → (x : PlayedEvent) (past : List (List ℕ)) → IsAhead (r.high past) x.start →
    (begun r x past ≡ false) × (holds x (r.time past) ≡ false)

-- THE LAW OF FORGETTING: of one that stands no more nothing goes out, if all of its slice lies below its end
abbrev pub NothingLate : Type 0
NothingLate = (r : TimedStream) → IsStream r → (x : PlayedEvent) (units : List SliceUnit) → All (λ (u : SliceUnit). u.time <ℤ x.stop) units → (p : List ℕ) (past : List (List ℕ)) →
    break_stands x (r.high past) ≡ false → out_of r x units (p ∷ past) ≡ out_of r x units past

-- a time at most ten seconds below the greatest does not lie in an event that stands no more
abbrev pub NearIsPastForgotten : Type 0
NearIsPastForgotten = (x : PlayedEvent) (h t : ℤ) → h ≤ℤ (t +ℤ pos 900000) → break_stands x (Some h) ≡ false → holds x (Some t) ≡ false
