-- What holds of every splice, over the definitions alone.
use Rattle.std.specs.Prelude.{◌≡◌, ℕ, ℤ, ◌≤◌, ◌≤ℤ◌, ◌∷◌, List, [], true, false, Option, None, Some, is_some, All, length}
use Rattle.ts_packet.specs.Runs.{Seen, seen_after}
use Rattle.splice_laws.specs.Splicing.{PlayedEvent, SliceUnit, TimedStream, stream, passed, begun, closed, below, out_of, carried, carried_by, placed, splice}

-- a greatest time that has not fallen
abbrev pub Risen : Option ℤ → Option ℤ → Type 0
Risen None h = Unit {0}
Risen (Some a) None = ⊥
Risen (Some a) (Some b) = a ≤ℤ b

-- what the laws need of a stream: each PID of a run has it
pub record IsStream (r : TimedStream) : Type 0 where
  pub fresh : r.time [] ≡ None
  pub steady : (p : List ℕ) (past : List (List ℕ)) → r.begins p past ≡ false → r.time (p ∷ past) ≡ r.time past
  pub timed : (p : List ℕ) (past : List (List ℕ)) → is_some (r.time past) ≡ true → is_some (r.time (p ∷ past)) ≡ true
  pub rises : (p : List ℕ) (past : List (List ℕ)) → Risen (r.high past) (r.high (p ∷ past))

-- this event ends before each of those begins
abbrev pub EndsBeforeAll : PlayedEvent → List PlayedEvent → Type 0
EndsBeforeAll x [] = Unit {0}
EndsBeforeAll x (y ∷ ys) = (x.stop ≤ℤ y.start) × EndsBeforeAll x ys

-- no two meet, and they stand in order of start
abbrev pub AreOrdered : List PlayedEvent → Type 0
AreOrdered [] = Unit {0}
AreOrdered (x ∷ xs) = (x.start ≤ℤ x.stop) × EndsBeforeAll x xs × AreOrdered xs

-- THE LAW OF GROWTH: what is out stays out
abbrev pub OutGrows : Type 0
OutGrows = (r : TimedStream) → IsStream r → (x : PlayedEvent) (units : List SliceUnit) (p : List ℕ) (past : List (List ℕ)) →
    out_of r x units past ≤ out_of r x units (p ∷ past)

-- a count of what is out, at a past: nothing before the begin, all once closed
pub record CountsAt (r : TimedStream) (x : PlayedEvent) (units : List SliceUnit) (out : List (List ℕ) → ℕ) (past : List (List ℕ)) : Type 0 where
  pub starts : begun r x past ≡ false → out past ≡ 0
  pub ends : closed r x past ≡ true → out past ≡ length units

-- and at a packet: it does not fall
pub record CountsOver (r : TimedStream) (x : PlayedEvent) (units : List SliceUnit) (out : List (List ℕ) → ℕ) (s : Seen) : Type 0 where
  pub before : CountsAt r x units out s.past
  pub grows : out s.past ≤ out (s.packet ∷ s.past)
  pub after : CountsAt r x units out (s.packet ∷ s.past)

-- THE LAW OF PLACES, FOR ANY COUNT: whenever the pieces of a slice go out, from its begin to its close, they join before the first unit at or past the event's start
abbrev pub CountedIsPlaced : Type 0
CountedIsPlaced = (r : TimedStream) → IsStream r → (xs : List PlayedEvent) → AreOrdered xs → (slice : PlayedEvent → List SliceUnit) (out : PlayedEvent → List (List ℕ) → ℕ) (ps : List (List ℕ)) →
    All (λ (x : PlayedEvent). All (CountsOver r x (slice x) (out x)) (seen_after [] ps)) xs → carried_by r xs slice out ps ≡ placed r xs slice ps

-- THE LAW OF PLACES: the pieces of each slice join, before the first unit at or past the event's start
abbrev pub CarriedIsPlaced : Type 0
CarriedIsPlaced = (r : TimedStream) → IsStream r → (xs : List PlayedEvent) → AreOrdered xs → (slice : PlayedEvent → List SliceUnit) (ps : List (List ℕ)) →
    carried r xs slice ps ≡ placed r xs slice ps

-- no unit below the edge comes after one at or past it
abbrev pub IsCrossedOnce : TimedStream → ℤ → List (List ℕ) → Type 0
IsCrossedOnce r edge ps = All (λ (s : Seen). r.begins s.packet s.past ≡ true → passed r edge s.past ≡ true → below edge (r.time (s.packet ∷ s.past)) ≡ false) (seen_after [] ps)

-- so it is at the start of each event
abbrev pub IsConditioned : TimedStream → List PlayedEvent → List (List ℕ) → Type 0
IsConditioned r xs ps = All (λ (x : PlayedEvent). IsCrossedOnce r x.start ps) xs

-- THE LAW OF THE SPLICE: in a conditioned stream the places are those by time
abbrev pub PlacedIsSplice : Type 0
PlacedIsSplice = (r : TimedStream) → IsStream r → (xs : List PlayedEvent) → AreOrdered xs → (slice : PlayedEvent → List SliceUnit) (ps : List (List ℕ)) →
    IsConditioned r xs ps → placed r xs slice ps ≡ splice r xs slice ps

-- each PID of a run, with any list of switched ones, is such a stream
abbrev pub PidsAreStreams : Type 0
PidsAreStreams = (switched : List ℕ) (pid : ℕ) → IsStream (stream switched pid)
