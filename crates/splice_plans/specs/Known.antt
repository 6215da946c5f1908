-- What is known of a network: how far the events have come in each stream, and what is counted of those that are forgotten.
use Rattle.std.specs.Prelude.{◌≡◌, ℕ, ◌-◌, ◌<◌, ◌≤◌, List, [], ◌∷◌, ◌++◌, length, map, replicate, count_by, find, Bool, true, false, not, ◌&&◌, ◌||◌, if◌then◌else◌, slice_index_or, slice_get, ℤ, Option, None, Some}
use Rattle.std.specs.List.{list_any}
use Rattle.std.specs.Ordering.{int_eq}
use Rattle.ts_packet.specs.Numbering.{Step, Counts}
use Rattle.unit_stream.specs.Times.{begins_one, unit_time}
use Rattle.event_table.specs.Standing.{Standing, stands}
use Rattle.program_follower.specs.Program.{behind_head}
use Rattle.splice_laws.specs.Splicing.{PlayedEvent, TimedStream, stream, below}
use Rattle.ts_packet.specs.Fields.{is_among}
use Rattle.splice_laws.specs.Streams.{IsOnce}
use Rattle.splice_laws.specs.Settled.{begun_now, closed_now}
use Rattle.output_laws.specs.Output.{Move}
use Rattle.splice_plans.specs.declared.plan.Stage.{Stage}
use Rattle.splice_plans.specs.declared.plan.Stage.TheVariants.{Waiting, Running, Closing, Over}
use Rattle.splice_plans.specs.declared.plan.Part.{Part}
use Rattle.splice_plans.specs.declared.plan.Plan.{Plan}
use Rattle.splice_plans.specs.declared.stream.SwitchedStream.{SwitchedStream}
use Rattle.splice_plans.specs.Playing.{Adverts, History, is_played, as_played, end_known, is_inside, sent_known}
use Rattle.splice_plans.specs.Counters.{PidSteps}
use Rattle.splice_plans.specs.Switching.{Setting, puts_before, fate, moves, switched_at, streams_at, events_at, history_at}
use Rattle.splice_plans.specs.Reporting.{EventCounts as Reported, is_not_fitted}
use Rattle.splice_plans.specs.Turning.{waiting}

-- ---- one event in one stream

module _ (r : TimedStream) (x : PlayedEvent) (known : List (List ℕ) → Option ℤ) where
  abbrev pub stage_known : List (List ℕ) → Stage
  stage_known past = if closed_now r x known past then Over else (if begun_now r x known past then Running else Waiting)

  abbrev pub below_known : Option ℤ → Option ℤ → Bool
  below_known None t = false
  below_known (Some stop) t = below stop t

  abbrev pub crosses_known : Stage → Option ℤ → Option ℤ → Bool
  crosses_known Waiting stop t = false
  crosses_known Running stop t = below x.start t
  crosses_known Closing stop t = below_known stop t
  crosses_known Over stop t = below_known stop t

  -- a unit below its start or its end has begun after one at or past that, by the end in force then
  abbrev pub crossed_known : List (List ℕ) → Bool
  crossed_known [] = false
  crossed_known (p ∷ past) = crossed_known past || (r.begins p past && crosses_known (stage_known past) (known (p ∷ past)) (r.time (p ∷ past)))

-- ---- one event in all streams

abbrev pub nothing_known : Plan
nothing_known = record { parts = replicate 8 waiting; is_crossed = false }

abbrev pub padded : List Part → List Part
padded parts = parts ++ replicate (8 - length parts) waiting

module _ (switched : List ℕ) (ads : Adverts) (events : History) where
  abbrev pub part_known : Standing → List (List ℕ) → ℕ → Part
  part_known e past pid =
      record {
        stage = stage_known (stream switched pid) (as_played e) (end_known ads events e.start) past;
        sent = length (sent_known (begins_one switched) (stream switched pid) (as_played e) (end_known ads events e.start) (ads.units e pid) past);
      }

  abbrev pub is_crossed_known : List (List ℕ) → Standing → Bool
  is_crossed_known past e = list_any (λ pid. crossed_known (stream switched pid) (as_played e) (end_known ads events e.start) past) switched

  abbrev pub plan_known : List (List ℕ) → Standing → Plan
  plan_known past e = record { parts = padded (map (part_known e past) switched); is_crossed = is_crossed_known past e }

  abbrev pub plan_found : List (List ℕ) → Option Standing → Plan
  plan_found past None = nothing_known
  plan_found past (Some e) = plan_known past e

  -- of the event that starts then
  abbrev pub plan_at : List (List ℕ) → List Standing → ℤ → Plan
  plan_at past es start = plan_found past (find (λ e. int_eq e.start start) es)

-- ---- one stream

-- the switched streams: at most eight, each on a PID of its own
pub record AreSeparate (switched : List ℕ) : Type 0 where
  pub few : length switched ≤ 8
  pub alone : (pid : ℕ) → is_among pid switched ≡ true → IsOnce pid switched

pub record Goes (s : SwitchedStream) (steps : List Step) (is_in : Bool) : Type 0 where
  pub counter : Counts s.counter steps
  pub leaving : s.is_leaving ≡ is_in

-- the stream of a PID, or one that is not used
abbrev pub GoesAs : SwitchedStream → (ℕ → Bool) → PidSteps → Option ℕ → Type 0
GoesAs s is_in steps None = Counts s.counter [] × (s.is_leaving ≡ false)
GoesAs s is_in steps (Some pid) = Goes s (steps pid) (is_in pid)

abbrev pub AllGo : List SwitchedStream → (ℕ → Bool) → PidSteps → List ℕ → Type 0
AllGo streams is_in steps switched = (i : ℕ) (s : SwitchedStream) → i < 8 → GoesAs (slice_index_or streams i s) is_in steps (slice_get switched i)

-- ---- the network

-- what the advertisements say of the streams that are switched behind a past
abbrev pub adverts_at : Setting → List (List ℕ) → Adverts
adverts_at k past = k.adverts (streams_at k past)

abbrev pub behind_at : Setting → List (List ℕ) → List (List ℕ)
behind_at k past = behind_head (Some k.program) past

-- the plans by a past, behind these packets of it
abbrev pub plans_at : Setting → List (List ℕ) → List (List ℕ) → ℤ → Plan
plans_at k past behind start = plan_at (switched_at k past) (adverts_at k past) (history_at k past) behind (events_at k past) start

-- the unit that has begun last behind these packets lies in a played event
abbrev pub inside_at : Setting → List (List ℕ) → List (List ℕ) → ℕ → Bool
inside_at k past behind pid = is_inside (adverts_at k past) (events_at k past) (unit_time (switched_at k past) pid behind)

abbrev pub moves_at : Setting → List (List ℕ) → List Move
moves_at k past = moves (switched_at k past) (adverts_at k past) (history_at k past) (behind_at k past)

-- what is put in before a packet
abbrev pub puts_at : Setting → List ℕ → List (List ℕ) → List Move
puts_at k p past = puts_before (switched_at k past) (adverts_at k past) (history_at k past) p (behind_at k past)

-- what becomes of it
abbrev pub fate_at : Setting → List ℕ → List (List ℕ) → Move
fate_at k p past = fate (switched_at k past) (adverts_at k past) (history_at k past) p (behind_at k past)

-- counts over those events that the test takes
abbrev pub counts_known : Setting → List (List ℕ) → (Standing → Bool) → Reported
counts_known k past takes =
    record {
      played = count_by (λ e. takes e && is_played (adverts_at k past) e) (events_at k past);
      not_fitted = count_by (λ e. takes e && is_not_fitted (adverts_at k past) e) (events_at k past);
      unconditioned = count_by (λ e. takes e && (is_played (adverts_at k past) e && is_crossed_known (switched_at k past) (adverts_at k past) (history_at k past) (behind_at k past) e)) (events_at k past);
      ignored = 0;
    }

abbrev pub is_forgotten : Option ℤ → Standing → Bool
is_forgotten high e = not (stands high e)
