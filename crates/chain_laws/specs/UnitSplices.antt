-- THE SPLICE OF A STREAM, over whole lists: the network's units sorted by time, with what is played of each break in its place.
use Rattle.std.specs.Prelude.{◌≡◌, ℕ, ℤ, ◌++◌, ◌∷◌, List, [], Bool, false, if◌then◌else◌, Option, None, Some, filter, map, reverse}
use Rattle.unit_stream.specs.Units.{TimedUnit, units, payloads}
use Rattle.splice_laws.specs.Splicing.{PlayedEvent, SliceUnit, stream, begun}
use Rattle.splice_laws.specs.Laws.{AreOrdered}
use Rattle.splice_laws.specs.Rows.{is_between}
use Rattle.output_laws.specs.Spliced.{placed_payloads}
use Rattle.splice_plans.specs.Playing.{is_crossed}
use Rattle.std.specs.List.{AllByRecursion}

-- the units of times from `low` on and below `high`, as their bytes; without `low` also those that have no time
abbrev pub payloads_between : Option ℤ → Option ℤ → List TimedUnit → List (List ℕ)
payloads_between low high us = payloads (filter (λ (u : TimedUnit). is_between low high u.time) us)

abbrev pub slice_payloads : List SliceUnit → List (List ℕ)
slice_payloads us = map (λ (u : SliceUnit). u.payload) us

-- from the edge `low` on: the units up to the first break's start, what is played of it where it is reached, and then from its end on
abbrev pub splice_from : Option ℤ → List PlayedEvent → (PlayedEvent → Bool) → (PlayedEvent → List SliceUnit) → List TimedUnit → List (List ℕ)
splice_from low [] is_reached slice us = payloads_between low None us
splice_from low (x ∷ xs) is_reached slice us =
    payloads_between low (Some x.start) us ++ ((if is_reached x then slice_payloads (slice x) else []) ++ splice_from (Some x.stop) xs is_reached slice us)

-- THE SPLICE: the units without time or below the first start; what is played there, where that break is reached; the units from its end
-- to below the second start; and so on
abbrev pub unit_splice : List ℕ → ℕ → List PlayedEvent → (PlayedEvent → List SliceUnit) → List (List ℕ) → List (List ℕ)
unit_splice switched pid xs slice ps = splice_from None xs (λ (x : PlayedEvent). begun (stream switched pid) x (reverse ps)) slice (units switched pid ps)

-- no unit below the start of one of the breaks begins after one at or past it
abbrev pub IsConditionedAt : List ℕ → ℕ → List PlayedEvent → List (List ℕ) → Type 0
IsConditionedAt switched pid xs past = AllByRecursion (λ (x : PlayedEvent). is_crossed (stream switched pid) x.start past ≡ false) xs

-- THE LAW OF UNITS: where the stream is conditioned at the starts, what is placed in it is the splice of its units
abbrev pub PlacedIsUnitSplice : Type 0
PlacedIsUnitSplice = (switched : List ℕ) (pid : ℕ) (xs : List PlayedEvent) → AreOrdered xs → (slice : PlayedEvent → List SliceUnit) (ps : List (List ℕ)) →
    IsConditionedAt switched pid xs (reverse ps) → placed_payloads switched pid xs slice [] ps ≡ unit_splice switched pid xs slice ps
