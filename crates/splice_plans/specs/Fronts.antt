-- What goes out before a packet that begins a unit, by the plans beside the events, and what becomes of the plans.
use Rattle.std.specs.Prelude.{◌≡◌, ◌<◌, ◌==◌, if◌then◌else◌, slice_index_or, ℕ, ◌+◌, ◌++◌, List, [], ◌∷◌, map, Bool, not, ◌&&◌, ℤ, Option, None, Some}
use Rattle.std.specs.List.{list_any}
use Rattle.pes_time.specs.Line.{place}
use Rattle.ts_packet.specs.Numbering.{Step, Counts}
use Rattle.psi_tables.specs.declared.stream.Stream.{Stream}
use Rattle.event_table.specs.Standing.{Standing, covers}
use Rattle.ad_library.specs.Advertisements.{Advertisement}
use Rattle.splice_plans.specs.declared.plan.Plan.{Plan}
use Rattle.splice_plans.specs.declared.stream.SwitchedStream.{SwitchedStream}
use Rattle.splice_plans.specs.Adverts.{adverts_of}
use Rattle.splice_plans.specs.Turning.{IsNearHigh, part_of}
use Rattle.splice_plans.specs.Parts.{all_turned, is_waiting, beside, closing_pairs, rest_packets, closed_plan, running_packets, ran_plans}

-- the unit has no stamp, or may begin at this time
abbrev pub IsNearTime : Option ℤ → Option ℕ → Type 0
IsNearTime latest None = Unit {0}
IsNearTime latest (Some t) = IsNearHigh latest (place latest t)

abbrev pub IsOther : ℕ → ℕ → Type 0
IsOther i number = i ≡ number → ⊥

module _ (filed : ℕ → Option Advertisement) (streams : List Stream) (stream : ℕ) (of : Stream) where
  -- what goes out of the events that a unit of this time in the stream closes, behind these steps of its counter
  abbrev pub closing_packets : Option ℤ → Option ℕ → List Step → List Standing → List Plan → List (List ℕ)
  closing_packets latest None steps es plans = []
  closing_packets latest (Some t) steps es plans = rest_packets filed streams stream of steps (closing_pairs stream (beside es (all_turned (adverts_of filed streams) stream (place latest t) es plans)))

  -- each event comes as far as it does with the unit, and those that it closes are over
  abbrev pub closed_plans : Option ℤ → Option ℕ → List Standing → List Plan → List Plan
  closed_plans latest None es plans = plans
  closed_plans latest (Some t) es plans = map (closed_plan filed streams stream of) (beside es (all_turned (adverts_of filed streams) stream (place latest t) es plans))

module _ (filed : ℕ → Option Advertisement) (streams : List Stream) (high : Option ℤ) (es : List Standing) where
  -- what goes out of the events that run in these streams, from this number on, each behind the steps of its counter
  abbrev pub all_running : (ℕ → List Step) → List Plan → ℕ → List Stream → List (List ℕ)
  all_running steps plans number [] = []
  all_running steps plans number (of ∷ rest) =
      running_packets filed streams number of high (steps number) (beside es plans) ++ all_running steps (ran_plans filed streams number of high (beside es plans)) (number + 1) rest

  -- in one of them
  abbrev pub running_of : (ℕ → List Step) → List Plan → ℕ → List Stream → ℕ → List (List ℕ)
  running_of steps plans number [] i = []
  running_of steps plans number (of ∷ rest) i =
      if number == i then running_packets filed streams number of high (steps number) (beside es plans) else running_of steps (ran_plans filed streams number of high (beside es plans)) (number + 1) rest i

  -- the plans behind that
  abbrev pub all_ran : List Plan → ℕ → List Stream → List Plan
  all_ran plans number [] = plans
  all_ran plans number (of ∷ rest) = all_ran (ran_plans filed streams number of high (beside es plans)) (number + 1) rest

-- each of the eight counters has counted these steps
abbrev pub AllCount : List SwitchedStream → (ℕ → List Step) → Type 0
AllCount streams steps = (i : ℕ) (s : SwitchedStream) → i < 8 → Counts (slice_index_or streams i s).counter (steps i)

-- a played event holds the unit, of which a stamp says so; a unit without one lies where that before it does
abbrev pub is_left : ℕ → Option ℤ → Option ℕ → Bool → List Standing → List Plan → Bool
is_left stream latest None was es plans = was
is_left stream latest (Some t) was es plans = list_any (λ x. covers (place latest t) x.0 && not (is_waiting (part_of x.1 stream).stage)) (beside es plans)
