-- What is left of a run when units of one PID go. `goes` is any test on a unit's time: an interval, or more of them.
use Rattle.std.specs.Prelude.{ℕ, ℤ, pos, ◌+ℤ◌, ◌++◌, ◌∷◌, List, [], Bool, false, not, ◌&&◌, if◌then◌else◌, Option, None, Some, filter, map, reverse}
use lib.Signed.{le_z, lt_z}
use Rattle.pes_time.specs.Line.{lift}
use Rattle.ts_packet.specs.Runs.{Seen, seen_after}
use Rattle.unit_stream.specs.Times.{first_time}
use Rattle.unit_stream.specs.Fates.{is_cut, steps, numbered}
use Rattle.unit_stream.specs.Units.{TimedUnit, Row}

-- the time lies in [from, from + length); a unit without time lies outside
abbrev pub inside : ℤ → ℕ → Option ℤ → Bool
inside from length None = false
inside from length (Some t) = le_z from t && lt_z t (from +ℤ pos length)

-- The begin of an interval that is given by its ring time: the integer that stands there, within [-2^32, 2^32) of the first timed unit.
-- Where no unit is timed none lies inside, whatever the begin.
abbrev pub begin_of : ℕ → Option ℤ → ℤ
begin_of from None = pos from
begin_of from (Some first) = lift first from

-- THE CUT: the packets in order without those of the units that go, with the counters that they go out with
abbrev pub cut : (Option ℤ → Bool) → List ℕ → ℕ → List (List ℕ) → List (List ℕ)
cut goes switched pid ps =
    map (λ (s : Seen). numbered pid s.packet (steps goes switched pid s.past)) (filter (λ (s : Seen). not (is_cut goes switched pid s.packet s.past)) (seen_after [] ps))

-- THE CUT OF AN INTERVAL: the PID's units whose time lies in it go. The PID is the only switched stream.
abbrev pub cut_between : ℕ → ℕ → ℕ → List (List ℕ) → List (List ℕ)
cut_between from length pid ps = cut (inside (begin_of from (first_time (pid ∷ []) (reverse ps))) length) (pid ∷ []) pid ps

-- the units that stay
abbrev pub staying : (Option ℤ → Bool) → List TimedUnit → List TimedUnit
staying goes us = filter (λ (u : TimedUnit). not (goes u.time)) us

-- the packets of the rows that stay
abbrev pub packets_staying : (Option ℤ → Bool) → List Row → List (List ℕ)
packets_staying goes [] = []
packets_staying goes (r ∷ rs) = if goes r.time then packets_staying goes rs else r.packets ++ packets_staying goes rs
