-- Small streams, by computation: a packet is a unit of the time that its first byte tells; a second byte says whether another stream's, or,
-- as 2, that it is a cue by which the event ends at 20.
use Rattle.std.specs.Prelude.{ℤ, pos}
use Rattle.std.specs.Int.{int_max}
use Rattle.std.proofs.Common.{◌≡◌, ℕ, zero, suc, List, [], ◌∷◌, Bool, true, false, not, refl, Option, None, Some}
use Rattle.event_table.specs.Standing.{Standing}
use Rattle.splice_laws.specs.Splicing.{SliceUnit, TimedStream}
use Rattle.splice_plans.specs.Playing.{Adverts, History, played, as_played, end_known, is_inside, due_at, closing_at, left_at_end, is_crossed}

abbrev is_own : List ℕ → Bool
is_own [] = false
is_own (t ∷ []) = true
is_own (t ∷ o ∷ bs) = false

abbrev is_cue : List ℕ → Bool
is_cue [] = false
is_cue (t ∷ []) = false
is_cue (t ∷ zero ∷ bs) = false
is_cue (t ∷ suc zero ∷ bs) = false
is_cue (t ∷ suc (suc o) ∷ bs) = true

abbrev told : List ℕ → ℤ
told [] = pos 0
told (t ∷ bs) = pos t

abbrev time_of : List (List ℕ) → Option ℤ
time_of [] = None
time_of (p ∷ past) = elim (is_own p) as (λ _. Option ℤ) [ true ↦ Some (told p) | false ↦ time_of past ]

abbrev more : Option ℤ → ℤ → Option ℤ
more None t = Some t
more (Some h) t = Some (int_max h t)

abbrev high_of : List (List ℕ) → Option ℤ
high_of [] = None
high_of (p ∷ past) = more (high_of past) (told p)

abbrev toy : TimedStream
toy = record { begins = λ p past. is_own p; time = time_of; high = high_of; carries = is_own }

-- [10, 30), and the same ended at 20
abbrev event : ℕ → Standing
event length = record { id = 1; start = pos 10; length = length; asked = 20; program = 7; cancelled = false }

abbrev later_event : Standing
later_event = record { id = 2; start = pos 40; length = 5; asked = 5; program = 7; cancelled = false }

abbrev taken_back : Standing
taken_back = record { id = 3; start = pos 4; length = 2; asked = 2; program = 7; cancelled = true }

abbrev events : History
events [] = []
events (p ∷ past) = elim (is_cue p) as (λ _. List Standing) [ true ↦ later_event ∷ event 10 ∷ taken_back ∷ [] | false ↦ elim (events past) as (λ _. List Standing) [ [] ↦ later_event ∷ event 20 ∷ taken_back ∷ [] | e ∷ es ↦ e ∷ es ] ]

abbrev u : ℕ → SliceUnit
u t = record { time = pos t; payload = []; random_access = false }

abbrev units : List SliceUnit
units = u 10 ∷ u 16 ∷ u 13 ∷ u 24 ∷ u 31 ∷ []

abbrev ads : Adverts
ads = record { fits = λ e. true; units = λ e pid. units }

abbrev one : ℕ → List ℕ
one t = t ∷ []

abbrev other : ℕ → List ℕ
other t = t ∷ 1 ∷ []

abbrev cue : ℕ → List ℕ
cue t = t ∷ 2 ∷ []

abbrev turns : List ℕ → List (List ℕ) → Bool
turns p past = not (is_cue p)

abbrev due : List ℕ → List (List ℕ) → List SliceUnit
due = due_at turns toy (as_played (event 20)) (end_known ads events (pos 10)) units

abbrev closing : List ℕ → List (List ℕ) → List SliceUnit
closing = closing_at turns toy (as_played (event 20)) (end_known ads events (pos 10)) units

abbrev left : List (List ℕ) → List SliceUnit
left = left_at_end turns toy (as_played (event 20)) (end_known ads events (pos 10)) units

-- those that are not cancelled, in order of start
in_order : played ads (events (one 5 ∷ [])) ≡ event 20 ∷ later_event ∷ []
in_order = refl

-- the unit that begins it brings what is due, another stream's unit brings more, and a unit behind the end the rest
at_begin : due (one 14) (one 5 ∷ []) ≡ u 10 ∷ []
at_begin = refl

by_another : due (other 16) (one 14 ∷ one 5 ∷ []) ≡ u 16 ∷ u 13 ∷ []
by_another = refl

at_close : closing (one 30) (other 16 ∷ one 14 ∷ one 5 ∷ []) ≡ u 24 ∷ []
at_close = refl

-- jumped over, it goes out whole, and once
jumped : closing (one 35) (one 5 ∷ []) ≡ u 10 ∷ u 16 ∷ u 13 ∷ u 24 ∷ []
jumped = refl

jumped_once : due (one 36) (one 35 ∷ one 5 ∷ []) ≡ []
jumped_once = refl

-- a unit below the start closes it
went_back : closing (one 9) (one 14 ∷ one 5 ∷ []) ≡ u 16 ∷ u 13 ∷ u 24 ∷ []
went_back = refl

-- ended early, it is closed by the unit at its new end, and what lies behind that is never played
ended_early : closing (one 20) (cue 15 ∷ one 14 ∷ one 5 ∷ []) ≡ u 16 ∷ u 13 ∷ []
ended_early = refl

-- and what came due by that waits for the next unit start
waits : due (cue 15) (one 14 ∷ one 5 ∷ []) ≡ []
waits = refl

ended_inside : is_inside ads (events (one 20 ∷ cue 15 ∷ one 14 ∷ one 5 ∷ [])) (Some (pos 20)) ≡ false
ended_inside = refl

-- a unit that is not due holds back those behind it; where an early end takes it away, they go out with the next unit that begins
abbrev held_units : List SliceUnit
held_units = u 10 ∷ u 24 ∷ u 13 ∷ []

held : due_at turns toy (as_played (event 20)) (end_known ads events (pos 10)) held_units (one 14) (one 5 ∷ []) ≡ u 10 ∷ []
held = refl

let_go : due_at turns toy (as_played (event 20)) (end_known ads events (pos 10)) held_units (one 16) (cue 15 ∷ one 14 ∷ one 5 ∷ []) ≡ u 13 ∷ []
let_go = refl

-- at the end of the network the rest goes out
at_the_end : left (one 14 ∷ one 5 ∷ []) ≡ u 16 ∷ u 13 ∷ u 24 ∷ []
at_the_end = refl

-- forgotten before the stream came to it, it is not played there
forgotten : due (one 900031) (other 900030 ∷ one 5 ∷ []) ≡ []
forgotten = refl

-- a unit below the start after one past it
crossed : is_crossed toy (pos 10) (one 9 ∷ one 14 ∷ one 5 ∷ []) ≡ true
crossed = refl

not_crossed : is_crossed toy (pos 10) (one 14 ∷ one 9 ∷ one 5 ∷ []) ≡ false
not_crossed = refl
