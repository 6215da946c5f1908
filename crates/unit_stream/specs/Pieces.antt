-- What a packet brings to the units of its PID.
use Rattle.std.specs.Prelude.{◌≡◌, ℕ, ◌++◌, ◌∷◌, List, [], true, false, reverse, is_some}
use Rattle.ts_packet.specs.Fields.{in_error, payload, payload_on, bytes, unit_start}
use Rattle.ts_packet.specs.Duplicates.{original, repeats}
use Rattle.ts_packet.specs.Following.{Follows}
use Rattle.unit_stream.specs.Times.{begins, in_unit}
use Rattle.unit_stream.specs.Units.{units, payloads}
use Rattle.unit_stream.specs.declared.reader.UnitFollower.{UnitFollower}
use Rattle.unit_stream.specs.declared.reader.UnitReader.{UnitReader}
use Rattle.unit_stream.specs.declared.reader.Piece.{Piece}
use Rattle.unit_stream.specs.declared.reader.Piece.TheVariants.{Start, More, Duplicate, NoPayload, Lead, Error}

-- it has followed the PID over this past, newest first, and its caller keeps the last payload packet
pub record FollowsUnits (units : UnitFollower) (kept : List ℕ) (pid : ℕ) (past : List (List ℕ)) : Type 0 where
  pub same : units.pid ≡ pid
  pub follows : Follows units.follower kept pid past
  pub begun : units.has_begun ≡ in_unit pid past

-- what is said of each PID and past that it has followed, where this packet is kept
abbrev pub OfUnits : UnitFollower → List ℕ → (ℕ → List (List ℕ) → Type 0) → Type 0
OfUnits units kept says = (pid : ℕ) (past : List (List ℕ)) → FollowsUnits units kept pid past → says pid past

-- the reader has followed the PID over this past, newest first
abbrev pub Reads : UnitReader → ℕ → List (List ℕ) → Type 0
Reads reader pid past = FollowsUnits reader.units reader.last pid past

-- what is said of each PID and past that the reader has followed
abbrev pub OfReader : UnitReader → (ℕ → List (List ℕ) → Type 0) → Type 0
OfReader reader says = (pid : ℕ) (past : List (List ℕ)) → Reads reader pid past → says pid past

-- the piece is the one that this packet brings behind this past
abbrev pub Brings : Piece → ℕ → List ℕ → List (List ℕ) → Type 0
Brings (Start b) pid p past = (begins pid p past ≡ true) × (original pid p past ≡ true) × (payload_on pid p ≡ true) × (b.now ≡ bytes p)
Brings (More b) pid p past = (original pid p past ≡ true) × (payload_on pid p ≡ true) × (unit_start p ≡ false) × (in_unit pid past ≡ true) × (b.now ≡ bytes p)
Brings Lead pid p past = (original pid p past ≡ true) × (payload_on pid p ≡ true) × (unit_start p ≡ false) × (in_unit pid past ≡ false)
Brings Duplicate pid p past = (payload_on pid p ≡ true) × (repeats pid p past ≡ true)
Brings NoPayload pid p past = (in_error p ≡ false) × (payload_on pid p ≡ false)
Brings Error pid p past = in_error p ≡ true

-- a piece with payload comes of a packet with payload
abbrev pub HasPayload : Piece → List ℕ → Type 0
HasPayload (Start b) p = is_some (payload p) ≡ true
HasPayload (More b) p = is_some (payload p) ≡ true
HasPayload Lead p = is_some (payload p) ≡ true
HasPayload Duplicate p = is_some (payload p) ≡ true
HasPayload NoPayload p = Unit {0}
HasPayload Error p = Unit {0}

-- the last of some byte strings made longer
abbrev pub first_longer : List (List ℕ) → List ℕ → List (List ℕ)
first_longer [] bs = []
first_longer (u ∷ us) bs = (u ++ bs) ∷ us

-- the units after one piece more
abbrev pub with_piece : List (List ℕ) → Piece → List (List ℕ)
with_piece us (Start b) = us ++ b.now ∷ []
with_piece us (More b) = reverse (first_longer (reverse us) b.now)
with_piece us Lead = us
with_piece us Duplicate = us
with_piece us NoPayload = us
with_piece us Error = us

-- THE LAW OF PIECES: what a reader gives joins to the units of its PID, whatever streams their times are read by
abbrev pub PiecesJoin : Type 0
PiecesJoin = (switched : List ℕ) (pid : ℕ) (ps : List (List ℕ)) (p : List ℕ) (piece : Piece) → Brings piece pid p (reverse ps) →
    payloads (units switched pid (ps ++ p ∷ [])) ≡ with_piece (payloads (units switched pid ps)) piece
