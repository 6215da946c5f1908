-- SEVERAL SERVICES ON AIR: each has stretches of its own, and all is said by the network's packets, newest first. What is wrong with a packet
-- for one of them changes nothing of the others.
use Rattle.std.specs.Prelude.{ℕ, ◌+◌, ◌==◌, List, [], ◌∷◌, map, length, Bool, true, false, not, ◌||◌, if◌then◌else◌, Some}
use Rattle.std.specs.List.{list_any}
use Rattle.ts_packet.specs.Fields.{is_among, on_one}
use Rattle.psi_tables.specs.declared.config.Config.{Config}
use Rattle.program_follower.specs.Program.{known_pids}
use Rattle.program_follower.specs.Purposes.{writing_cues}
use Rattle.on_air.specs.Stretches.{Entry, is_judged, as_read, first_entry, with_next}
use Rattle.on_air.specs.AirRuns.{newest}

-- a service: the stretches of the network for it, newest first, and whether the newest has ended, since the service shares a PID
pub record Airing : Type 0 where
  pub config : Config
  pub stretches : List (List Entry)
  pub shares : Bool

abbrev pub begins : Config → Airing
begins c = record { config = c; stretches = []; shares = false }

-- ---- the next packet

abbrev pub stretches_with : Bool → Config → List ℕ → List (List Entry) → List (List Entry)
stretches_with shares c p ss = if shares then (first_entry (writing_cues c) p ∷ []) ∷ ss else with_next (writing_cues c) p ss

abbrev pub next_of : List ℕ → Airing → Airing
next_of p a = record { config = a.config; stretches = stretches_with a.shares a.config p a.stretches; shares = false }

-- where another stretch begins with it, behind these
abbrev pub anew_with : List ℕ → Config → List (List Entry) → Airing
anew_with p c ss = record { config = c; stretches = (first_entry (writing_cues c) p ∷ []) ∷ ss; shares = false }

abbrev pub nexts : List ℕ → List Airing → List Airing
nexts p xs = map (next_of p) xs

-- ---- behind it

abbrev pub before_last : List Entry → List Entry
before_last [] = []
before_last (e ∷ past) = past

abbrev pub is_last_left : List Entry → Bool
is_last_left [] = false
is_last_left (e ∷ past) = not (is_judged e.judgement)

-- the PIDs that are known of its program in its newest stretch, and those that were before the last packet
abbrev pub known_of : Airing → List ℕ
known_of a = known_pids (Some a.config.program) (as_read (newest a.stretches))

abbrev pub known_before : Airing → List ℕ
known_before a = known_pids (Some a.config.program) (as_read (before_last (newest a.stretches)))

-- the packet is on one of its PIDs; the service leaves it unjudged; and it makes PIDs known
abbrev pub owns : List ℕ → Airing → Bool
owns p a = on_one (known_before a) p

abbrev pub leaves : Airing → Bool
leaves a = is_last_left (newest a.stretches)

abbrev pub learns : Airing → Bool
learns a = not (length (known_of a) == length (known_before a))

-- THE PACKET IS LEFT UNJUDGED by the service on whose PIDs it is; where it is on none's, by one of them
abbrev pub is_left : List ℕ → List Airing → Bool
is_left p [] = false
is_left p (a ∷ xs) = if owns p a then leaves a else (if list_any (owns p) xs then is_left p xs else (leaves a || is_left p xs))

-- ---- PIDs of two services

-- a PID that is known of the first is known of the second, or the PID of its cues
abbrev pub meets : Airing → Airing → Bool
meets a b = list_any (λ pid. is_among pid (b.config.cue_pid ∷ known_of b)) (known_of a)

abbrev pub share_one : Airing → Airing → Bool
share_one a b = meets a b || meets b a

abbrev pub parted_from : Airing → Airing → Airing
parted_from a b = record { config = b.config; stretches = b.stretches; shares = if share_one a b then true else b.shares }

-- of each two that share one the later one's stretch has ended
abbrev pub parted : List Airing → List Airing
parted [] = []
parted (a ∷ xs) = a ∷ map (parted_from a) (parted xs)

-- ---- a network

-- it is asked for where more PIDs are known
abbrev pub settled : List Airing → List Airing
settled xs = if list_any learns xs then parted xs else xs

-- THE SERVICES behind these packets, newest first
abbrev pub airings : List Config → List (List ℕ) → List Airing
airings cs [] = map begins cs
airings cs (p ∷ past) = settled (nexts p (airings cs past))

abbrev pub count_if : Bool → ℕ
count_if b = if b then 1 else 0

-- how many of the packets are left unjudged
abbrev pub unjudged_among : List Config → List (List ℕ) → ℕ
unjudged_among cs [] = 0
unjudged_among cs (p ∷ past) = unjudged_among cs past + count_if (is_left p (nexts p (airings cs past)))

abbrev pub behind_first : List (List Entry) → ℕ
behind_first [] = 0
behind_first (past ∷ earlier) = length earlier

-- how many stretches began behind another of the same service
abbrev pub begun_in : List Airing → ℕ
begun_in [] = 0
begun_in (a ∷ xs) = behind_first a.stretches + begun_in xs

abbrev pub one_if_some : List (List ℕ) → ℕ
one_if_some [] = 0
one_if_some (p ∷ past) = 1
