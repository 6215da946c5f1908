-- The random access points of a PID in a run of packets: exactly the units with a mark in their first packet, in their order.
use Rattle.std.specs.Prelude.{◌≡◌, ℕ, ◌-◌, ◌^◌, List, [], ◌∷◌, ◌++◌, Bool, if◌then◌else◌, Option, None, Some, option_map, filter, map, length, min}
use Rattle.std.specs.List.{filter_map}
use Rattle.ts_packet.specs.Runs.{Seen, seen_after}
use Rattle.unit_stream.specs.Times.{begins, stamp}
use Rattle.unit_stream.specs.Starts.{ReadsStarts}
use Rattle.random_access.specs.Marks.{marks_of, mark_for, is_marked}
use Rattle.random_access.specs.declared.coding.VideoCoding.{VideoCoding}
use Rattle.random_access.specs.declared.marks.Mark.{Mark}
use Rattle.random_access.specs.declared.begins.UnitBegin.{UnitBegin}
use Rattle.random_access.specs.declared.begins.Point.{Point}
use Rattle.random_access.specs.declared.begins.UnitBegins.{UnitBegins}
use Rattle.random_access.specs.declared.reader.PointReader.{PointReader}

-- ---- the definition, over whole runs

-- the packet begins a unit of the PID
abbrev pub is_begin : ℕ → Seen → Bool
is_begin pid s = begins pid s.packet s.past

-- the begin of a unit: its packet's place in the run, from 0, its PTS and what its first packet says
abbrev pub begin_at : Seen → UnitBegin
begin_at s = record { packet = length s.past; pts = stamp s.packet; marks = marks_of s.packet }

-- the begins of the units of a PID
abbrev pub begins_of : ℕ → List (List ℕ) → List UnitBegin
begins_of pid ps = map begin_at (filter (is_begin pid) (seen_after [] ps))

-- a point with this mark
abbrev pub marked_by : UnitBegin → Mark → Point
marked_by b mark = record { packet = b.packet; pts = b.pts; by = mark }

-- the point that a begin is, in a stream of this coding
abbrev pub point_of : Option VideoCoding → UnitBegin → Option Point
point_of coding b = option_map (marked_by b) (mark_for coding b.marks)

-- THE RANDOM ACCESS POINTS of a PID
abbrev pub points : Option VideoCoding → ℕ → List (List ℕ) → List Point
points coding pid ps = filter_map (point_of coding) (begins_of pid ps)

-- one stamp, or else the other
abbrev pub or_else : Option ℕ → Option ℕ → Option ℕ
or_else None other = other
or_else (Some t) other = Some t

-- the first PTS of some units, and the last
abbrev pub first_stamp : List UnitBegin → Option ℕ
first_stamp [] = None
first_stamp (b ∷ bs) = or_else b.pts (first_stamp bs)

abbrev pub last_stamp : List UnitBegin → Option ℕ
last_stamp [] = None
last_stamp (b ∷ bs) = or_else (last_stamp bs) b.pts

-- ---- the same, one packet at a time, newest first

abbrev pub begin_behind : ℕ → List ℕ → List (List ℕ) → List UnitBegin
begin_behind pid p past = if begins pid p past then begin_at (record { packet = p; past = past }) ∷ [] else []

abbrev pub begins_back : ℕ → List (List ℕ) → List UnitBegin
begins_back pid [] = []
begins_back pid (p ∷ past) = begins_back pid past ++ begin_behind pid p past

-- a unit with a mark
abbrev pub has_mark : UnitBegin → Bool
has_mark b = is_marked b.marks

-- What is kept of these begins of units: those with a mark, the first and the last stamp, and how many there were, a number that stops
-- at the greatest.
pub record Keeps (kept : UnitBegins) (bs : List UnitBegin) : Type 0 where
  pub marked : kept.marked.items ≡ filter has_mark bs
  pub units : kept.units ≡ min (length bs) (2 ^ 64 - 1)
  pub first : kept.first ≡ first_stamp bs
  pub last : kept.last ≡ last_stamp bs

-- what is said of all that is kept
abbrev pub OfKept : UnitBegins → (List UnitBegin → Type 0) → Type 0
OfKept kept says = (bs : List UnitBegin) → Keeps kept bs → says bs

-- The reader has followed the PID over this past, newest first.
pub record ReadsPoints (reader : PointReader) (pid : ℕ) (past : List (List ℕ)) : Type 0 where
  pub starts : ReadsStarts reader.starts pid past
  pub kept : Keeps reader.kept (begins_back pid past)

-- what is said of each PID and past that the reader has followed
abbrev pub OfPoints : PointReader → (ℕ → List (List ℕ) → Type 0) → Type 0
OfPoints reader says = (pid : ℕ) (past : List (List ℕ)) → ReadsPoints reader pid past → says pid past
