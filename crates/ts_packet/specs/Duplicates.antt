-- Duplicate packets and continuous counters (ISO/IEC 13818-1, 2.4.3.3, continuity_counter), by the packets that came before,
-- newest first. Where a stream has a head that these rules pass over, the past begins after it.
use Rattle.std.specs.Prelude.{◌≡◌, ℕ, ◌+◌, ◌%◌, ◌∷◌, List, [], Bool, true, false, not, ◌&&◌, ◌==◌, if◌then◌else◌, Option, None, Some}
use Rattle.ts_packet.specs.declared.follower.Last.{Last}
use Rattle.ts_packet.specs.Fields.{on, payload_on, number, alike}

-- a duplicate: like the payload packet before it on the PID, which is no duplicate itself
abbrev pub repeats : ℕ → List ℕ → List (List ℕ) → Bool
repeats pid p [] = false
repeats pid p (q ∷ past) = if payload_on pid q then alike q p && not (repeats pid q past) else repeats pid p past

-- a payload packet of the PID that is no duplicate
abbrev pub original : ℕ → List ℕ → List (List ℕ) → Bool
original pid p past = payload_on pid p && not (repeats pid p past)

-- the nearest payload packet of the PID, and whether it is a duplicate
abbrev pub last_of : ℕ → List (List ℕ) → Option Last
last_of pid [] = None
last_of pid (p ∷ past) = if payload_on pid p then Some (record { packet = p; is_repeat = repeats pid p past }) else last_of pid past

-- what that one says of a packet
abbrev pub repeats_last : List ℕ → Option Last → Bool
repeats_last p None = false
repeats_last p (Some l) = alike l.packet p && not l.is_repeat

-- its counter is one past that of the payload packet before it; so it is where there is none
abbrev pub follows_on : List ℕ → Option Last → Bool
follows_on p None = true
follows_on p (Some l) = number p == (number l.packet + 1) % 16

-- a gap: a payload packet that is no duplicate, and not one past the payload packet before it on the PID
abbrev pub is_gap : ℕ → List ℕ → List (List ℕ) → Bool
is_gap pid p past = original pid p past && not (follows_on p (last_of pid past))

-- the nearest payload packet, in the past or, where there is none in it, the one given: the last of the head
abbrev pub nearest : Option (List ℕ) → ℕ → List (List ℕ) → Option (List ℕ)
nearest before pid [] = before
nearest before pid (p ∷ past) = if payload_on pid p then Some p else nearest before pid past

-- one past that packet's counter
abbrev pub IsNext : List ℕ → Option (List ℕ) → Type 0
IsNext p None = Unit {0}
IsNext p (Some q) = number p ≡ (number q + 1) % 16

-- that packet's counter
abbrev pub IsSame : List ℕ → Option (List ℕ) → Type 0
IsSame p None = Unit {0}
IsSame p (Some q) = number p ≡ number q

-- The packet's counter is in step: an original is one past the payload packet before it, a packet without payload has its counter.
pub record InStep (before : Option (List ℕ)) (pid : ℕ) (p : List ℕ) (past : List (List ℕ)) : Type 0 where
  pub next : original pid p past ≡ true → IsNext p (nearest before pid past)
  pub same : on pid p ≡ true → payload_on pid p ≡ false → IsSame p (nearest before pid past)

-- every packet of the past was in step
abbrev pub Gapless : Option (List ℕ) → ℕ → List (List ℕ) → Type 0
Gapless before pid [] = Unit {0}
Gapless before pid (p ∷ past) = InStep before pid p past × Gapless before pid past
