-- The moves of a splice, and the units that its output has.
use Rattle.std.specs.Prelude.{◌≡◌, ℕ, ◌++◌, ◌∷◌, List, [], ◌&&◌, if◌then◌else◌, Option, map, filter, flat_map, reverse, length, All}
use Rattle.ts_packet.specs.Fields.{payload_on, bytes}
use Rattle.ts_packet.specs.Runs.{seen_after, IsGaplessAfter}
use Rattle.unit_stream.specs.Times.{begins, unit_time}
use Rattle.unit_stream.specs.Units.{is_original, rest_of_unit, lead_in, units, payloads}
use Rattle.unit_stream.specs.Carrying.{CarriesUnits}
use Rattle.splice_laws.specs.Splicing.{PlayedEvent, SliceUnit, Out, Network, Inserted, stream, out_of, inserted, rest, outside, all_slices_at}
use Rattle.splice_laws.specs.Laws.{AreOrdered}
use Rattle.splice_laws.specs.Streams.{all_closing, all_running, is_dropped, spliced, IsOnce}
use Rattle.output_laws.specs.Output.{Move, Keep, Leave, Put, acts, network, Packing, output, Sound, HasComeBefore, AlongMoves}
use Rattle.output_laws.specs.Others.{is_off}

abbrev pub puts_on : ℕ → List SliceUnit → List Move
puts_on pid us = map (λ (u : SliceUnit). Put pid u) us

abbrev pub puts_each : List ℕ → (ℕ → List SliceUnit) → List Move
puts_each pids f = flat_map (λ (pid : ℕ). puts_on pid (f pid)) pids

-- before a packet the slices that it closes, then by stream what has come due of those that run
abbrev pub puts_at : List ℕ → List PlayedEvent → (ℕ → PlayedEvent → List SliceUnit) → (ℕ → PlayedEvent → List (List ℕ) → ℕ) → List ℕ → List (List ℕ) → List Move
puts_at switched xs slice out p past =
    puts_each switched (λ (pid : ℕ). all_closing (stream switched pid) xs (λ (x : PlayedEvent). inserted (slice pid x) (out pid x)) p past)
    ++ puts_each switched (λ (pid : ℕ). all_running (stream switched pid) xs (λ (x : PlayedEvent). inserted (slice pid x) (out pid x)) p past)

-- and the packet
abbrev pub fate : List ℕ → List PlayedEvent → List ℕ → List (List ℕ) → Move
fate switched xs p past = if is_dropped switched xs p past switched then Leave p else Keep p

-- the moves at packets behind a past, by a count
abbrev pub moves_after : List ℕ → List PlayedEvent → (ℕ → PlayedEvent → List SliceUnit) → (ℕ → PlayedEvent → List (List ℕ) → ℕ) → List (List ℕ) → List (List ℕ) → List Move
moves_after switched xs slice out past [] = puts_each switched (λ (pid : ℕ). flat_map (λ (x : PlayedEvent). rest (stream switched pid) x (slice pid x) (out pid x) past) xs)
moves_after switched xs slice out past (p ∷ ps) = puts_at switched xs slice out p past ++ (fate switched xs p past ∷ moves_after switched xs slice out (p ∷ past) ps)

-- THE MOVES OF THE SPLICE OF A RUN
abbrev pub splice_moves : List ℕ → List PlayedEvent → (ℕ → PlayedEvent → List SliceUnit) → List (List ℕ) → List Move
splice_moves switched xs slice ps = moves_after switched xs slice (λ (pid : ℕ) (x : PlayedEvent). out_of (stream switched pid) x (slice pid x)) [] ps

-- they are its acts, and what is left out; and they bring the run's packets
abbrev pub MovesAreSpliced : Type 0
MovesAreSpliced = (switched : List ℕ) (xs : List PlayedEvent) (slice : ℕ → PlayedEvent → List SliceUnit) (ps : List (List ℕ)) →
    (acts (splice_moves switched xs slice ps) ≡ spliced switched xs slice ps) × (network (splice_moves switched xs slice ps) ≡ ps)

abbrev pub inserted_payloads : List Out → List (List ℕ)
inserted_payloads [] = []
inserted_payloads (Network p ∷ outs) = inserted_payloads outs
inserted_payloads (Inserted u ∷ outs) = u.payload ∷ inserted_payloads outs

-- the payload of the unit that a packet begins, where it lies in no event
abbrev pub unit_at : List ℕ → ℕ → List PlayedEvent → List (List ℕ) → List ℕ → List (List ℕ) → List (List ℕ)
unit_at switched pid xs past p ps = if begins pid p past && outside xs (unit_time switched pid (p ∷ past))
    then (bytes p ++ rest_of_unit (filter (is_original pid) (seen_after (p ∷ past) ps))) ∷ []
    else []

-- PLACED, as payloads: the units outside all events, in order, with the slice of each reached event before the first unit at or past its start
abbrev pub placed_payloads : List ℕ → ℕ → List PlayedEvent → (PlayedEvent → List SliceUnit) → List (List ℕ) → List (List ℕ) → List (List ℕ)
placed_payloads switched pid xs slice past [] = []
placed_payloads switched pid xs slice past (p ∷ ps) =
    inserted_payloads (all_slices_at (stream switched pid) xs slice p past) ++ (unit_at switched pid xs past p ps ++ placed_payloads switched pid xs slice (p ∷ past) ps)

-- THE OUTPUT OF A SPLICE CARRIES WHAT IS PLACED, on any network
abbrev pub SplicedCarries : Type 0
SplicedCarries = (packed : Packing) (switched : List ℕ) (xs : List PlayedEvent) → AreOrdered xs → (slice : ℕ → PlayedEvent → List SliceUnit) (ps : List (List ℕ)) (pid : ℕ) → IsOnce pid switched →
    AlongMoves (λ (s : Move) (past : List Move). Sound packed s) (reverse (splice_moves switched xs slice ps)) → All (λ (p : List ℕ). length p ≡ 188) ps →
    (carried : List (List ℕ)) × (filter (payload_on pid) (output packed (splice_moves switched xs slice ps)) ≡ lead_in pid ps ++ carried)
    × CarriesUnits carried (placed_payloads switched pid xs (slice pid) [] ps)

-- WHERE THE NETWORK IS GAPLESS on the PID, and it has a payload packet before its first unit put in, so is the output, and its units are what is placed
abbrev pub SplicedHasUnits : Type 0
SplicedHasUnits = (packed : Packing) (switched : List ℕ) (xs : List PlayedEvent) → AreOrdered xs → (slice : ℕ → PlayedEvent → List SliceUnit) (ps : List (List ℕ)) (pid : ℕ) → IsOnce pid switched →
    AlongMoves (λ (s : Move) (past : List Move). Sound packed s) (reverse (splice_moves switched xs slice ps)) → AlongMoves (HasComeBefore pid) (reverse (splice_moves switched xs slice ps)) →
    (before : Option (List ℕ)) → IsGaplessAfter before pid ps → (switched' : List ℕ) →
    IsGaplessAfter before pid (output packed (splice_moves switched xs slice ps))
    × (payloads (units switched' pid (output packed (splice_moves switched xs slice ps))) ≡ placed_payloads switched pid xs (slice pid) [] ps)

-- in the output of a splice the packets of all but the switched PIDs, and those marked in error, are the run's
abbrev pub SplicedOthersPass : Type 0
SplicedOthersPass = (packed : Packing) (switched : List ℕ) (xs : List PlayedEvent) (slice : ℕ → PlayedEvent → List SliceUnit) (ps : List (List ℕ)) →
    AlongMoves (λ (s : Move) (past : List Move). Sound packed s) (reverse (splice_moves switched xs slice ps)) → All (λ (p : List ℕ). length p ≡ 188) ps →
    filter (is_off switched) (output packed (splice_moves switched xs slice ps)) ≡ filter (is_off switched) ps
