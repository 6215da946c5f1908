-- The joined laws of a unit start: the plans, the front and the counters.
use Rattle.std.proofs.Common.{◌≡◌, ℕ, List, [], ◌∷◌, ◌++◌, Bool, true, false, refl, sym, ap, ◌∙◌, subst, Option, Some, if◌then◌else◌}
use Rattle.std.specs.Prelude.{ℤ, slice_get, slice_index_or}
use Rattle.std.proofs.lemmas.Bool.{true≢false}
use Rattle.ts_packet.specs.Numbering.{Step}
use Rattle.unit_stream.specs.Times.{stamp, high}
use Rattle.unit_stream.specs.UnitPackets.{put_in}
use Rattle.psi_tables.specs.declared.stream.Stream.{Stream}
use Rattle.event_table.specs.Standing.{Standing}
use Rattle.armed_events.specs.Arming.{standing_at}
use Rattle.armed_events.specs.Valuing.{values_by}
use Rattle.ad_library.specs.Advertisements.{Advertisement}
use Rattle.output_laws.specs.Output.{Packing}
use Rattle.splice_plans.specs.declared.plan.Plan.{Plan}
use Rattle.splice_plans.specs.Playing.{Adverts, History}
use Rattle.splice_plans.specs.Counters.{PidSteps, counted_after, out_behind}
use Rattle.splice_plans.specs.Switching.{Setting, puts_before, switched_at, streams_at, high_at, events_at, history_at, is_behind_head}
use Rattle.splice_plans.specs.Histories.{IsHistory}
use Rattle.splice_plans.specs.Adverts.{adverts_of, packed_units}
use Rattle.splice_plans.specs.Fronts.{closing_packets, closed_plans, all_running, running_of, all_ran}
use Rattle.splice_plans.specs.Known.{AreSeparate, plan_at, behind_at}
use Rattle.splice_plans.specs.Stepping.{front_by}
use Rattle.splice_plans.proofs.HistoryLemmas.{armed_is_history}
use Rattle.program_follower.specs.Faults.{pids_in}
use Rattle.plan_laws.specs.Laws.{Starts, FrontGoesOut, PlansGoOn, CountersGoOn, steps_of, steps_with}
use Rattle.plan_laws.proofs.RunLemmas.{events-are, events-stay, pids-are, has-head, high-is, behind-are}
use Rattle.plan_laws.proofs.FrontLemmas.{front-is, counters-are}

module _ (k : Setting) (filed : ℕ → Option Advertisement) (n pid : ℕ) (p : List ℕ) (past : List (List ℕ)) (s : Starts k filed n pid p past) where
  abbrev pub streams : List Stream
  streams = streams_at k past

  abbrev pub behind : List (List ℕ)
  behind = behind_at k past

  abbrev pub hist : History
  hist = history_at k past

  pub adverts-are : k.adverts streams ≡ adverts_of filed streams
  adverts-are = ap (λ (f : List Stream → Adverts). f streams) s.adverts_are

  pub there : slice_get (pids_in streams) n ≡ Some pid
  there = subst (λ sw. slice_get sw n ≡ Some pid) (pids-are k p past) s.of

  pub separate : AreSeparate (pids_in streams)
  separate = subst AreSeparate (pids-are k p past) s.separate

  pub history : IsHistory (high (pids_in streams)) hist
  history = subst (λ sw. IsHistory (high sw) hist) (pids-are k p past) (armed_is_history k past (has-head k p past n pid s.of))

  pub high-now : high (pids_in streams) (p ∷ behind) ≡ high_at k (p ∷ past)
  high-now = sym (high-is k p past (has-head k p past n pid s.of) ∙ ap (λ sw. high sw (p ∷ behind)) (pids-are k p past))

  pub stay : hist (p ∷ behind) ≡ hist behind
  stay = events-stay k p past s.cue

  -- the law of plans, where these are the switched PIDs, the advertisements, the greatest time with the packet and the events
  abbrev PlansWith : Stream → List ℕ → Adverts → Option ℤ → List Standing → Type 0
  PlansWith of sw av top evs =
      all_ran filed streams top (standing_at (high sw behind) evs)
      (closed_plans filed streams n of (high sw behind) (stamp p) (standing_at (high sw behind) evs) (values_by (plan_at sw av hist behind evs) (standing_at (high sw behind) evs))) 0 streams
      ≡ values_by (plan_at sw av hist (p ∷ behind) evs) (standing_at (high sw behind) evs)

  pub plans-go-on : (of : Stream) → of ≡ slice_index_or streams n of → PlansWith of (switched_at k past) (k.adverts streams) (high_at k (p ∷ past)) (events_at k past)
  plans-go-on of is =
      subst (λ sw. PlansWith of sw (k.adverts streams) (high_at k (p ∷ past)) (events_at k past)) (sym (pids-are k p past))
      (subst (λ av. PlansWith of (pids_in streams) av (high_at k (p ∷ past)) (events_at k past)) (sym adverts-are)
      (subst (λ top. PlansWith of (pids_in streams) (adverts_of filed streams) top (events_at k past)) high-now
      (subst (λ evs. PlansWith of (pids_in streams) (adverts_of filed streams) (high (pids_in streams) (p ∷ behind)) evs) (events-are k p past)
      (behind-are filed streams hist p behind history stay separate n pid there s.begins_it of is))))

  -- ---- the front and the counters

  -- a law by the switched PIDs, the advertisements, the packing, the greatest time with the packet and the events
  go-over : (P : List ℕ → Adverts → Packing → Option ℤ → List Standing → Type 0) → P (pids_in streams) (adverts_of filed streams) packed_units (high (pids_in streams) (p ∷ behind)) (hist behind)
      → P (switched_at k past) (k.adverts streams) k.packed (high_at k (p ∷ past)) (events_at k past)
  go-over P x =
      subst (λ sw. P sw (k.adverts streams) k.packed (high_at k (p ∷ past)) (events_at k past)) (sym (pids-are k p past))
      (subst (λ av. P (pids_in streams) av k.packed (high_at k (p ∷ past)) (events_at k past)) (sym adverts-are)
      (subst (λ packed. P (pids_in streams) (adverts_of filed streams) packed (high_at k (p ∷ past)) (events_at k past)) (sym s.packed_is)
      (subst (λ top. P (pids_in streams) (adverts_of filed streams) packed_units top (events_at k past)) high-now
      (subst (λ evs. P (pids_in streams) (adverts_of filed streams) packed_units (high (pids_in streams) (p ∷ behind)) evs) (events-are k p past) x))))

  module _ (of : Stream) (of_is : of ≡ slice_index_or streams n of) (steps : PidSteps) (sw : List ℕ) (av : Adverts) (packed : Packing) (top : Option ℤ) (evs : List Standing) where
    abbrev standing_with : List Standing
    standing_with = standing_at (high sw behind) evs

    abbrev plans_with : List Plan
    plans_with = values_by (plan_at sw av hist behind evs) standing_with

    abbrev steps_before_with : ℕ → List Step
    steps_before_with i = steps_of steps (slice_get sw i)

    abbrev closing_with : List (List ℕ)
    closing_with = closing_packets filed streams n of (high sw behind) (stamp p) (steps_before_with n) standing_with plans_with

    abbrev steps_between_with : ℕ → List Step
    steps_between_with = steps_with n closing_with steps_before_with

    abbrev plans_between_with : List Plan
    plans_between_with = closed_plans filed streams n of (high sw behind) (stamp p) standing_with plans_with

    abbrev FrontWith : Type 0
    FrontWith = out_behind packed steps (puts_before sw av hist p behind) ≡ closing_with ++ all_running filed streams top standing_with steps_between_with plans_between_with 0 streams

    abbrev CountersWith : Type 0
    CountersWith = (i : ℕ) → put_in (running_of filed streams top standing_with steps_between_with plans_between_with 0 streams i) (steps_between_with i)
        ≡ steps_of (counted_after packed steps (puts_before sw av hist p behind)) (slice_get sw i)

  front-at : (steps : PidSteps) → front_by k steps p past ≡ out_behind k.packed steps (puts_before (switched_at k past) (k.adverts streams) hist p behind)
  front-at steps = by (is_behind_head k past) (has-head k p past n pid s.of)
    where
      by : (c : Bool) → c ≡ true → (if c then out_behind k.packed steps (puts_before (switched_at k past) (k.adverts streams) hist p behind) else []) ≡ out_behind k.packed steps (puts_before (switched_at k past) (k.adverts streams) hist p behind)
      by true h = refl
      by false h = absurd (true≢false (sym h))

  pub front-goes-out : (of : Stream) (is : of ≡ slice_index_or streams n of) (steps : PidSteps)
      → front_by k steps p past ≡ closing_with of is steps (switched_at k past) (k.adverts streams) k.packed (high_at k (p ∷ past)) (events_at k past)
      ++ all_running filed streams (high_at k (p ∷ past)) (standing_with of is steps (switched_at k past) (k.adverts streams) k.packed (high_at k (p ∷ past)) (events_at k past))
      (steps_between_with of is steps (switched_at k past) (k.adverts streams) k.packed (high_at k (p ∷ past)) (events_at k past))
      (plans_between_with of is steps (switched_at k past) (k.adverts streams) k.packed (high_at k (p ∷ past)) (events_at k past)) 0 streams
  front-goes-out of is steps = front-at steps ∙ go-over (FrontWith of is steps) (front-is filed streams hist p behind history stay separate n pid there s.begins_it of is steps)

  pub counters-go-on : (of : Stream) (is : of ≡ slice_index_or streams n of) (steps : PidSteps) → CountersWith of is steps (switched_at k past) (k.adverts streams) k.packed (high_at k (p ∷ past)) (events_at k past)
  counters-go-on of is steps = go-over (CountersWith of is steps) (counters-are filed streams hist p behind history stay separate n pid there s.begins_it of is steps)

pub plans_go_on : PlansGoOn
plans_go_on k filed n pid of p past r = plans-go-on k filed n pid p past r.starts of r.of_is

pub front_goes_out : FrontGoesOut
front_goes_out k filed n pid of p past r steps = front-goes-out k filed n pid p past r.starts of r.of_is steps

pub counters_go_on : CountersGoOn
counters_go_on k filed n pid of p past r steps = counters-go-on k filed n pid p past r.starts of r.of_is steps
