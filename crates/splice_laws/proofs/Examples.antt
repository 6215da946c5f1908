-- Small streams, by computation: a packet is a unit of the time that its first byte tells; a second byte says whether another stream's.
use Rattle.std.specs.Prelude.{ℤ, pos}
use Rattle.std.specs.Int.{int_max}
use Rattle.std.proofs.Common.{◌≡◌, ℕ, zero, suc, List, [], ◌∷◌, Bool, true, false, refl, Option, None, Some}
use Rattle.splice_laws.specs.Ends.{carried_now}
use Rattle.splice_laws.specs.Splicing.{PlayedEvent, SliceUnit, Out, Network, Inserted, TimedStream, carried, splice}

abbrev is_own : List ℕ → Bool
is_own [] = false
is_own (t ∷ []) = true
is_own (t ∷ o ∷ bs) = false

abbrev told : List ℕ → ℤ
told [] = pos 0
told (t ∷ bs) = pos t

abbrev time_of : List (List ℕ) → Option ℤ
time_of [] = None
time_of (p ∷ past) = elim (is_own p) as (λ _. Option ℤ) [ true ↦ Some (told p) | false ↦ time_of past ]

abbrev more : Option ℤ → ℤ → Option ℤ
more None t = Some t
more (Some h) t = Some (int_max h t)

abbrev high_of : List (List ℕ) → Option ℤ
high_of [] = None
high_of (p ∷ past) = more (high_of past) (told p)

abbrev toy : TimedStream
toy = record { begins = λ p past. is_own p; time = time_of; high = high_of; carries = is_own }

abbrev x1 : PlayedEvent
x1 = record { start = pos 10; stop = pos 20; name = 1 }

abbrev x2 : PlayedEvent
x2 = record { start = pos 20; stop = pos 30; name = 2 }

abbrev u : ℕ → SliceUnit
u t = record { time = pos t; payload = []; random_access = false }

abbrev slices : PlayedEvent → List SliceUnit
slices x = elim x.name as (λ _. List SliceUnit) [ zero ↦ [] | suc n ↦ elim n as (λ _. List SliceUnit) [ zero ↦ u 10 ∷ u 16 ∷ u 13 ∷ [] | suc m ↦ u 20 ∷ u 25 ∷ [] ] ]

abbrev one : ℕ → List ℕ
one t = t ∷ []

abbrev other : ℕ → List ℕ
other t = t ∷ 1 ∷ []

abbrev n : ℕ → Out
n t = Network (t ∷ [])

abbrev i : ℕ → Out
i t = Inserted (u t)

-- in pieces, two events that touch
two : carried toy (x1 ∷ x2 ∷ []) slices (one 5 ∷ one 10 ∷ one 14 ∷ one 20 ∷ one 31 ∷ []) ≡ (n 5 ∷ i 10 ∷ i 16 ∷ i 13 ∷ i 20 ∷ i 25 ∷ n 31 ∷ [])
two = refl

-- jumped over; ended inside; forgotten by another stream's times
jumped : carried toy (x1 ∷ x2 ∷ []) slices (one 5 ∷ one 31 ∷ []) ≡ (n 5 ∷ i 10 ∷ i 16 ∷ i 13 ∷ i 20 ∷ i 25 ∷ n 31 ∷ [])
jumped = refl

inside : carried toy (x1 ∷ x2 ∷ []) slices (one 5 ∷ one 11 ∷ []) ≡ (n 5 ∷ i 10 ∷ i 16 ∷ i 13 ∷ [])
inside = refl

forgotten : carried toy (x1 ∷ x2 ∷ []) slices (one 5 ∷ other 900025 ∷ one 31 ∷ []) ≡ (n 5 ∷ i 20 ∷ i 25 ∷ n 31 ∷ [])
forgotten = refl

-- not conditioned: the event is closed by a unit below it, and not begun anew
back : carried toy (x1 ∷ []) slices (one 5 ∷ one 10 ∷ one 7 ∷ one 13 ∷ one 8 ∷ one 20 ∷ []) ≡ (n 5 ∷ i 10 ∷ i 16 ∷ i 13 ∷ n 7 ∷ n 8 ∷ n 20 ∷ [])
back = refl

back_sorted : splice toy (x1 ∷ []) slices (one 5 ∷ one 10 ∷ one 7 ∷ one 13 ∷ one 8 ∷ one 20 ∷ []) ≡ (n 5 ∷ n 7 ∷ n 8 ∷ i 10 ∷ i 16 ∷ i 13 ∷ n 20 ∷ [])
back_sorted = refl

-- an end that comes earlier while the slice runs: another stream's packet tells of it
abbrev told_end : PlayedEvent → List (List ℕ) → ℤ
told_end x [] = pos 20
told_end x (p ∷ past) = elim (is_own p) as (λ _. ℤ) [ true ↦ told_end x past | false ↦ pos 14 ]

abbrev shortened : PlayedEvent
shortened = record { start = pos 10; stop = pos 14; name = 1 }

earlier : carried_now toy (shortened ∷ []) slices told_end (one 5 ∷ one 10 ∷ other 10 ∷ one 12 ∷ one 14 ∷ []) ≡ (n 5 ∷ i 10 ∷ i 13 ∷ n 14 ∷ [])
earlier = refl

-- a unit below the start closes it before its end comes earlier: the slice for the first end is out
closed_before : carried_now toy (shortened ∷ []) slices told_end (one 5 ∷ one 10 ∷ one 7 ∷ other 10 ∷ one 14 ∷ []) ≡ (n 5 ∷ i 10 ∷ i 16 ∷ i 13 ∷ n 7 ∷ n 14 ∷ [])
closed_before = refl
