-- Where units stand among the bytes of their stream. Times are held as natural numbers.
use Rattle.std.specs.Prelude.{ℕ, ◌-◌, pos, List, [], ◌∷◌, length, slice_range, Bool, true, not, ◌&&◌, ◌==◌, max, nat_le, nat_lt}
use Rattle.std.specs.List.{list_all}
use Rattle.pes_time.specs.Stamps.{is_split}
use Rattle.ad_library.specs.declared.store.UnitPlace.{UnitPlace}
use Rattle.ad_library.specs.Advertisements.{AdvertUnit}

-- where the first of these units starts, or else the bytes end
abbrev pub start_or : List UnitPlace → ℕ → ℕ
start_or [] n = n
start_or (p ∷ ps) n = p.start

-- the unit at a place, up to where it stops, by the least time
abbrev pub unit_at : ℕ → UnitPlace → ℕ → List ℕ → AdvertUnit
unit_at least p stop bs = record { offset = pos (p.time - least); payload = slice_range bs p.start stop; random_access = p.random_access }

-- the units at these places in the bytes
abbrev pub units_at : ℕ → List UnitPlace → List ℕ → List AdvertUnit
units_at least [] bs = []
units_at least (p ∷ ps) bs = unit_at least p (start_or ps (length bs)) bs ∷ units_at least ps bs

-- a unit stands within the bytes, not before the least time, and its stamps can be read
abbrev pub is_placed : ℕ → UnitPlace → ℕ → List ℕ → Bool
is_placed least p stop bs = nat_le p.start stop && (nat_le stop (length bs) && (nat_le least p.time && not (is_split (slice_range bs p.start stop))))

abbrev pub are_placed : ℕ → List UnitPlace → List ℕ → Bool
are_placed least [] bs = true
are_placed least (p ∷ ps) bs = is_placed least p (start_or ps (length bs)) bs && are_placed least ps bs

-- the greatest times do not fall, and none is below the unit's own
abbrev pub is_topped : UnitPlace → UnitPlace → Bool
is_topped p q = nat_le p.top q.top

abbrev pub tops_rise : List UnitPlace → Bool
tops_rise [] = true
tops_rise (p ∷ ps) = nat_le p.time p.top && (list_all (is_topped p) ps && tops_rise ps)

-- the first of these units is of lower offset than the limit, if there is one
abbrev pub begins_below : ℕ → ℕ → List UnitPlace → Bool
begins_below least limit [] = true
begins_below least limit (p ∷ ps) = nat_lt (p.time - least) limit

-- each place has the greatest time up to it, `before` being that of the units before these
abbrev pub tops_are : ℕ → List UnitPlace → Bool
tops_are before [] = true
tops_are before (p ∷ ps) = (p.top == max before p.time) && tops_are p.top ps
