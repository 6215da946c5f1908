-- What a follower of a PID stands for, where its caller keeps the last payload packet.
use Rattle.std.specs.Prelude.{◌≡◌, ℕ, List, Option, None, Some, if◌then◌else◌}
use Rattle.ts_packet.specs.declared.follower.Follower.{Follower}
use Rattle.ts_packet.specs.declared.follower.Mark.{Mark}
use Rattle.ts_packet.specs.declared.follower.Last.{Last}
use Rattle.ts_packet.specs.Fields.{number, payload_on, carries_as}
use Rattle.ts_packet.specs.Duplicates.{last_of}

-- whatever the other carries as, it does: it may stand in its place
abbrev pub CarriesSame : List ℕ → List ℕ → Type 0
CarriesSame q p = (r : List ℕ) → carries_as q r ≡ carries_as p r

-- what is remembered of the last payload packet, and the packet that is kept of it, whose counter may be another
abbrev pub Marks : Option Mark → List ℕ → Option Last → Type 0
Marks None kept None = Unit {0}
Marks None kept (Some l) = ⊥
Marks (Some m) kept None = ⊥
Marks (Some m) kept (Some l) = (m.counter ≡ number l.packet) × (m.is_repeat ≡ l.is_repeat) × CarriesSame kept l.packet

-- it has followed the PID over this past, newest first
pub record Follows (follower : Follower) (kept : List ℕ) (pid : ℕ) (past : List (List ℕ)) : Type 0 where
  pub same : follower.pid ≡ pid
  pub last : Marks follower.last kept (last_of pid past)

-- what is said of each PID and past that it has followed, where this packet is kept
abbrev pub OfFollowed : Follower → List ℕ → (ℕ → List (List ℕ) → Type 0) → Type 0
OfFollowed follower kept says = (pid : ℕ) (past : List (List ℕ)) → Follows follower kept pid past → says pid past

-- which packet is kept after this one, of which q is what it has become
abbrev pub kept_after : ℕ → List ℕ → List ℕ → List ℕ → List ℕ
kept_after pid p q kept = if payload_on pid p then q else kept
