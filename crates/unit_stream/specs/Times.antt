-- Units begin, and have times (ISO/IEC 13818-1, 2.4.3.6 and 2.4.3.7: a unit is one PES packet, its time is its PTS). All is said by the
-- packets that came before, newest first; `switched` is the list of the PIDs whose units count. The past begins after the head.
-- Times are integers: a line on which the 33-bit clock wraps any number of times.
use Rattle.std.specs.Prelude.{ℕ, ℤ, ◌∷◌, List, [], Bool, false, ◌&&◌, ◌||◌, if◌then◌else◌, Option, None, Some}
use Rattle.pes_time.specs.Line.{place, raise}
use Rattle.pes_time.specs.Stamps.{stamp_of, is_split}
use Rattle.ts_packet.specs.Fields.{unit_start, bytes}
use Rattle.ts_packet.specs.Duplicates.{original}

-- the PTS of the unit that the packet begins, where it has one
unfoldable pub stamp : List ℕ → Option ℕ
stamp p = stamp_of (bytes p)

-- the packet's payload ends before the end of the unit's stamps
unfoldable pub splits : List ℕ → Bool
splits p = is_split (bytes p)

-- it begins a unit of the PID
abbrev pub begins : ℕ → List ℕ → List (List ℕ) → Bool
begins pid p past = original pid p past && unit_start p

-- of one of the switched PIDs
abbrev pub begins_one : List ℕ → List ℕ → List (List ℕ) → Bool
begins_one [] p past = false
begins_one (pid ∷ pids) p past = begins pid p past || begins_one pids p past

-- the greatest time, after a unit start with this stamp
abbrev pub raised : Option ℤ → Option ℕ → Option ℤ
raised h None = h
raised h (Some t) = raise h (place h t)

-- the greatest time of the units of switched PIDs that have begun
abbrev pub high : List ℕ → List (List ℕ) → Option ℤ
high switched [] = None
high switched (p ∷ past) = if begins_one switched p past then raised (high switched past) (stamp p) else high switched past

-- the time of a unit with this stamp, after one of time `before` in its stream: without a PTS it has that one's time
abbrev pub timed : Option ℤ → Option ℕ → Option ℤ → Option ℤ
timed h None before = before
timed h (Some t) before = Some (place h t)

-- the time of the PID's unit that has begun last
abbrev pub unit_time : List ℕ → ℕ → List (List ℕ) → Option ℤ
unit_time switched pid [] = None
unit_time switched pid (p ∷ past) = if begins pid p past then timed (high switched past) (stamp p) (unit_time switched pid past) else unit_time switched pid past

-- some unit of the PID has begun
abbrev pub in_unit : ℕ → List (List ℕ) → Bool
in_unit pid [] = false
in_unit pid (p ∷ past) = begins pid p past || in_unit pid past

-- the time of the first timed unit of the switched PIDs, which is its PTS
abbrev pub first_after : Option ℤ → Option ℕ → Option ℤ
first_after (Some f) s = Some f
first_after None None = None
first_after None (Some t) = Some (place None t)

abbrev pub first_time : List ℕ → List (List ℕ) → Option ℤ
first_time switched [] = None
first_time switched (p ∷ past) = if begins_one switched p past then first_after (first_time switched past) (stamp p) else first_time switched past
