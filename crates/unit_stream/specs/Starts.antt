-- What a reader of the begins of units stands for, and what it answers.
use Rattle.std.specs.Prelude.{◌≡◌, ℕ, ◌∷◌, List, [], true, false, not, ◌&&◌, if◌then◌else◌, Option, Some, None}
use Rattle.std.specs.Borrow.{Bor}
use Rattle.ts_packet.specs.Fields.{payload_on, unit_start, bytes}
use Rattle.ts_packet.specs.Following.{Follows}
use Rattle.unit_stream.specs.Times.{begins}
use Rattle.unit_stream.specs.declared.starts.StartReader.{StartReader}

-- The packets since the PID's last payload packet without the start bit. A packet with the start bit repeats none before them: it is
-- the payload packet before it that it repeats, and that has the start bit then (2.4.3.3, continuity_counter).
abbrev pub since_more : ℕ → List (List ℕ) → List (List ℕ)
since_more pid [] = []
since_more pid (p ∷ past) = if payload_on pid p && not (unit_start p) then [] else p ∷ since_more pid past

-- the reader has followed the PID over this past, newest first
pub record ReadsStarts (reader : StartReader) (pid : ℕ) (past : List (List ℕ)) : Type 0 where
  pub same : reader.pid ≡ pid
  pub follows : Follows reader.follower reader.last pid (since_more pid past)

-- what is said of each PID and past that the reader has followed
abbrev pub OfStarts : StartReader → (ℕ → List (List ℕ) → Type 0) → Type 0
OfStarts reader says = (pid : ℕ) (past : List (List ℕ)) → ReadsStarts reader pid past → says pid past

-- the packet begins a unit with this payload, or it begins none
abbrev pub IsBegin : Option (Bor (List ℕ)) → ℕ → List ℕ → List (List ℕ) → Type 0
IsBegin None pid p past = begins pid p past ≡ false
IsBegin (Some b) pid p past = (begins pid p past ≡ true) × (b.now ≡ bytes p)
