-- What each switched stream of the output carries.
use Rattle.std.specs.Prelude.{◌≡◌, ℕ, ℤ, ◌≤ℤ◌, ◌++◌, ◌∷◌, List, [], Bool, true, false, if◌then◌else◌, Option, None, Some, filter}
use Rattle.std.specs.List.{AllByRecursion}
use Rattle.ts_packet.specs.Fields.{payload_on, is_among}
use Rattle.unit_stream.specs.Units.{TimedUnit, units}
use Rattle.unit_stream.specs.Carrying.{CarriesUnits}
use Rattle.psi_tables.specs.declared.config.Config.{Config}
use Rattle.event_table.specs.Standing.{Standing, end_of}
use Rattle.program_follower.specs.Program.{behind_head}
use Rattle.ad_library.specs.Advertisements.{Advertisement}
use Rattle.injector.specs.Steps.{Step, cued}
use Rattle.splice_laws.specs.Splicing.{PlayedEvent, SliceUnit, stream, begun}
use Rattle.splice_laws.specs.Ends.{up_to_end}
use Rattle.output_laws.specs.Spliced.{placed_payloads}
use Rattle.splice_plans.specs.Playing.{Adverts, played, as_played, is_crossed, end_known}
use Rattle.splice_plans.specs.Adverts.{setting_of}
use Rattle.splice_plans.specs.Switching.{history_at}
use Rattle.switch_laws.specs.Slices.{IsOverBehind}
use Rattle.chain_laws.specs.Breaks.{accepted_by}
use Rattle.chain_laws.specs.Runs.{switched_by, behind_by, run_by, lead_by, adverts_by, played_by, output_by, IsWholeRun}
use Rattle.chain_laws.specs.UnitSplices.{payloads_between, slice_payloads, IsConditionedAt}

-- THE SLICE of a break on a PID: the units of its advertisement's stream that lie before the break's last end, at network times
abbrev pub slice_of : Adverts → ℕ → Standing → List SliceUnit
slice_of ads pid e = up_to_end (end_of e) (ads.units e pid)

-- the break is reached in the stream: a unit of it at or past the start begins, before the greatest time is ten seconds past the end
abbrev pub is_reached : List ℕ → ℕ → List (List ℕ) → Standing → Bool
is_reached switched pid past e = begun (stream switched pid) (as_played e) past

-- ---- on any network

-- all of the slice goes out, where the stream reaches the break, and no unit below its start begins after one at or past it
abbrev pub GoesOutWhole : Config → (ℕ → Option Advertisement) → List Step → ℕ → (PlayedEvent → List SliceUnit) → Standing → Type 0
GoesOutWhole c filed steps pid sent e = is_crossed (stream (switched_by c steps) pid) e.start (behind_by c steps) ≡ false →
    sent (as_played e) ≡ (if is_reached (switched_by c steps) pid (behind_by c steps) e then slice_of (adverts_by c filed steps) pid e else [])

-- the end of a break that the cues of the cued stream had put in force behind some packets
abbrev pub end_behind : Config → (ℕ → Option Advertisement) → List Step → Standing → List (List ℕ) → Option ℤ
end_behind c filed steps e before = end_known (adverts_by c filed steps) (history_at (setting_of c filed) (cued c steps)) e.start before

-- The end of the break that was in force as it was over for the stream: with the unit that closed it, the first to begin outside it once it
-- had begun, or where no unit did with the last packet.
abbrev pub IsInForce : Config → (ℕ → Option Advertisement) → List Step → ℕ → Standing → ℤ → Type 0
IsInForce c filed steps pid e stop = (later : List (List ℕ)) × (before : List (List ℕ)) × (behind_head (Some c.program) (cued c steps) ≡ later ++ before)
    × IsOverBehind (stream (switched_by c steps) pid) (as_played e) (end_behind c filed steps e) (behind_head (Some c.program) (cued c steps)) before
    × (end_behind c filed steps e before ≡ Some stop)

-- Whatever units step back, what goes out is a slice: where the stream reaches the break, all units of its advertisement's stream before the
-- end that was in force as it was over, which is not before the last one; and nothing where it does not reach it.
pub record GoesOutToAnEnd (c : Config) (filed : ℕ → Option Advertisement) (steps : List Step) (pid : ℕ) (sent : PlayedEvent → List SliceUnit) (e : Standing) : Type 0 where
  pub stop : ℤ
  pub in_force : IsInForce c filed steps pid e stop
  pub last : end_of e ≤ℤ stop
  pub goes : sent (as_played e) ≡ (if is_reached (switched_by c steps) pid (behind_by c steps) e then up_to_end stop ((adverts_by c filed steps).units e pid) else [])

-- PLACED, in these packets: the stream's payload packets are its lead, unchanged, and then packets that carry its units outside all played
-- breaks, in order, with what goes out of each reached break before the first unit at or past its start
pub record CarriesPlacedIn (out : List (List ℕ)) (c : Config) (filed : ℕ → Option Advertisement) (steps : List Step) (pid : ℕ) : Type 0 where
  pub sent : PlayedEvent → List SliceUnit
  pub slices : AllByRecursion (GoesOutToAnEnd c filed steps pid sent) (played (adverts_by c filed steps) (accepted_by c steps))
  pub whole : AllByRecursion (GoesOutWhole c filed steps pid sent) (played (adverts_by c filed steps) (accepted_by c steps))
  pub carried : List (List ℕ)
  pub packets : filter (payload_on pid) out ≡ lead_by c steps pid ++ carried
  pub carries : CarriesUnits carried (placed_payloads (switched_by c steps) pid (played_by c filed steps) sent [] (run_by c steps))

-- in the output of a run
abbrev pub CarriesPlaced : Config → (ℕ → Option Advertisement) → List Step → ℕ → Type 0
CarriesPlaced c filed steps pid = CarriesPlacedIn (output_by c filed steps) c filed steps pid

-- THE LAW OF STREAMS, on any network without a fault
abbrev pub StreamsCarryPlaced : Type 0
StreamsCarryPlaced = (c : Config) (filed : ℕ → Option Advertisement) (steps : List Step) → IsWholeRun c filed steps → (pid : ℕ) → is_among pid (switched_by c steps) ≡ true →
    CarriesPlaced c filed steps pid

-- ---- on a conditioned network

-- from the edge `low` on: the units up to the first break's start, its slice where it is reached, and then those from its end on
abbrev pub break_splice : Option ℤ → List Standing → (Standing → Bool) → (Standing → List SliceUnit) → List TimedUnit → List (List ℕ)
break_splice low [] reached slice us = payloads_between low None us
break_splice low (e ∷ es) reached slice us =
    payloads_between low (Some e.start) us ++ ((if reached e then slice_payloads (slice e) else []) ++ break_splice (Some (end_of e)) es reached slice us)

-- THE SPLICE: the network's units below the first played break; its slice, where it is reached; the units from its end to below the second
-- break; and so on
abbrev pub splice_by : Config → (ℕ → Option Advertisement) → List Step → ℕ → List (List ℕ)
splice_by c filed steps pid =
    break_splice None (played (adverts_by c filed steps) (accepted_by c steps)) (is_reached (switched_by c steps) pid (behind_by c steps)) (slice_of (adverts_by c filed steps) pid)
    (units (switched_by c steps) pid (run_by c steps))

-- in these packets the stream's payload packets are its lead, unchanged, and then packets that carry the splice
pub record CarriesSpliceIn (out : List (List ℕ)) (c : Config) (filed : ℕ → Option Advertisement) (steps : List Step) (pid : ℕ) : Type 0 where
  pub carried : List (List ℕ)
  pub packets : filter (payload_on pid) out ≡ lead_by c steps pid ++ carried
  pub carries : CarriesUnits carried (splice_by c filed steps pid)

-- in the output of a run
abbrev pub CarriesSplice : Config → (ℕ → Option Advertisement) → List Step → ℕ → Type 0
CarriesSplice c filed steps pid = CarriesSpliceIn (output_by c filed steps) c filed steps pid

-- THE LAW OF THE SPLICE: so it is with each switched stream that is conditioned at the starts of the played breaks
abbrev pub StreamsCarrySplice : Type 0
StreamsCarrySplice = (c : Config) (filed : ℕ → Option Advertisement) (steps : List Step) → IsWholeRun c filed steps → (pid : ℕ) → is_among pid (switched_by c steps) ≡ true →
    IsConditionedAt (switched_by c steps) pid (played_by c filed steps) (behind_by c steps) → CarriesSplice c filed steps pid
