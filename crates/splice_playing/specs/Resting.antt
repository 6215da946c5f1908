-- Until when the events that stand wait: up to the earliest of their starts, where none has begun in a stream.
use Rattle.std.specs.Prelude.{ℕ, ◌+◌, ◌%◌, ◌^◌, List, [], ◌∷◌, length, ◌==◌, Bool, true, false, not, ◌&&◌, ◌||◌, if◌then◌else◌, ℤ, pos, int_le, int_lt, Option, None, Some}
use Rattle.std.specs.List.{list_all, list_any}
use Rattle.pes_time.specs.Line.{signed, place}
use Rattle.event_table.specs.Rings.{is_before_on_ring}
use Rattle.event_table.specs.Events.{ring_end}
use Rattle.event_table.specs.Standing.{Standing, forgotten_at}
use Rattle.event_table.specs.declared.table.Entry.{Entry}
use Rattle.event_table.specs.declared.table.Table.{Table}
use Rattle.event_table.specs.Tables.{high_time_of}
use Rattle.splice_plans.specs.declared.plan.Plan.{Plan}
use Rattle.splice_plans.specs.Waiting.{waits_in_all, runs_in_any}

-- ---- on the ring

-- the event starts past the greatest time, and waits in all streams
abbrev pub waits_ahead : ℕ → Entry Plan → Bool
waits_ahead high entry = int_lt (pos 0) (signed entry.event.start high) && waits_in_all entry.value

-- of a start and the first of those before it, if there were any, the earlier one
abbrev pub first_start : ℕ → Option ℕ → ℕ → ℕ
first_start high None start = start
first_start high (Some first) start = if int_lt (signed start high) (signed first high) then start else first

-- the first start of these and of those before them, where all of these wait ahead
abbrev pub rest_behind : ℕ → Option ℕ → List (Entry Plan) → Option ℕ
rest_behind high first [] = first
rest_behind high first (entry ∷ entries) =
    if waits_ahead high entry then rest_behind high (Some (first_start high first entry.event.start)) entries else None

-- where no event stands, any time will do: this one is half of what lies ahead on the ring past the greatest time
abbrev pub far_ahead : ℕ → ℕ
far_ahead high = (high + 2 ^ 31) % 2 ^ 33

abbrev pub rest_by : Option ℕ → List (Entry Plan) → Option ℕ
rest_by None entries = None
rest_by (Some high) [] = Some (far_ahead high)
rest_by (Some high) (entry ∷ entries) = rest_behind high None (entry ∷ entries)

-- the first start of all that stand, where each waits in all streams and starts past the greatest time, or a time far ahead where none
-- stands
abbrev pub first_rest : Table Plan → Option ℕ
first_rest table = rest_by (high_time_of table) table.entries.items

-- the event waits in all streams, and does not start before this time, which lies past the greatest one
abbrev pub waits_until : ℕ → ℕ → Entry Plan → Bool
waits_until rest high entry =
    waits_in_all entry.value && (int_lt (pos 0) (signed rest high) && int_le (signed rest high) (signed entry.event.start high))

abbrev pub all_wait_until : ℕ → Option ℕ → List (Entry Plan) → Bool
all_wait_until rest None entries = list_all (λ entry. false) entries
all_wait_until rest (Some high) entries = list_all (waits_until rest high) entries

-- all that stand wait until this time, where one is known
abbrev pub is_rest : Option ℕ → Table Plan → Bool
is_rest None table = true
is_rest (Some rest) table = all_wait_until rest (high_time_of table) table.entries.items

-- a unit of this time, or of none, comes before it
abbrev pub comes_before : Option ℕ → Option ℕ → Bool
comes_before None time = false
comes_before (Some rest) None = true
comes_before (Some rest) (Some time) = is_before_on_ring time rest

-- where it is said that no event runs, none that stands does in any stream
abbrev pub is_idle : Bool → Table Plan → Bool
is_idle runs table = runs || not (list_any (λ entry. runs_in_any entry.value) table.entries.items)

-- the event is not forgotten where this is the greatest time
abbrev pub is_kept_at : ℕ → Entry Plan → Bool
is_kept_at high entry = is_before_on_ring high ((ring_end entry.event + 900000) % 2 ^ 33)

-- events stand, and none of them is
abbrev pub keeps_all : Table Plan → ℕ → Bool
keeps_all table high = not (length table.entries.items == 0) && list_all (is_kept_at high) table.entries.items

-- ---- on the line

abbrev pub all_wait : List Plan → Bool
all_wait plans = list_all waits_in_all plans

-- none of them runs in a stream
abbrev pub none_run : List Plan → Bool
none_run plans = list_all (λ plan. not (runs_in_any plan)) plans

-- none of the events is forgotten where this is the greatest time
abbrev pub all_kept : ℤ → List Standing → Bool
all_kept time es = list_all (λ e. int_lt time (forgotten_at e)) es

-- they start past this time
abbrev pub all_start_past : ℤ → List Standing → Bool
all_start_past time es = list_all (λ e. int_lt time e.start) es

-- or past that of a unit, where it has one
abbrev pub all_start_behind : Option ℤ → Option ℕ → List Standing → Bool
all_start_behind latest None es = true
all_start_behind latest (Some time) es = all_start_past (place latest time) es

-- a unit before all events is not left out; one without a time lies where that before it does
abbrev pub is_left_at_rest : Option ℕ → Bool → Bool
is_left_at_rest None was = was
is_left_at_rest (Some time) was = false
