-- What one packet more does to what is known of a network, and what it comes to in the end.
use Rattle.std.specs.Prelude.{◌≡◌, ℕ, ◌≤◌, List, [], ◌∷◌, ◌++◌, length, map, reverse, true, false, ℤ, None, Some}
use Rattle.ts_packet.specs.Fields.{on, on_one}
use Rattle.unit_stream.specs.Faults.{unit_fault}
use Rattle.event_table.specs.Standing.{Standing}
use Rattle.event_table.specs.Laws.{MayAdvance}
use Rattle.armed_events.specs.Arming.{standing}
use Rattle.armed_events.specs.Valuing.{values_by, IsFreshAhead}
use Rattle.splice_plans.specs.declared.plan.Plan.{Plan}
use Rattle.splice_plans.specs.declared.stream.SwitchedStream.{SwitchedStream}
use Rattle.splice_plans.specs.Counters.{PidSteps}
use Rattle.splice_plans.specs.Switching.{Setting, fate, switched_at, high_at, events_at, history_at, is_behind_head, front_at, place_at, rest_at, switched_at_packet}
use Rattle.splice_plans.specs.Histories.{AreSteady}
use Rattle.splice_plans.specs.Parts.{beside}
use Rattle.splice_plans.specs.Known.{nothing_known, is_crossed_known, AllGo, adverts_at, behind_at, plans_at, inside_at, moves_at, puts_at, counts_known, is_forgotten}
use Rattle.splice_plans.specs.Stepping.{steps_at, front_by, place_by, rest_by, counted_next, journey_at, puts_next, journey_next}
use Rattle.splice_plans.specs.Reporting.{EventCounts, with_counted, is_out_at, is_any, report_of}

-- the events that stand behind a past
abbrev pub standing_behind : Setting → List (List ℕ) → List Standing
standing_behind k past = standing k.cue_pid (high_at k) past

-- the plans beside them
abbrev pub plans_beside : Setting → List (List ℕ) → List Plan
plans_beside k past = values_by (plans_at k past (behind_at k past)) (standing_behind k past)

-- and with a packet more
abbrev pub plans_with : Setting → List ℕ → List (List ℕ) → List Plan
plans_with k p past = values_by (plans_at k past (p ∷ behind_at k past)) (standing_behind k past)

-- the counts over the events that are forgotten
abbrev pub forgotten_counts : Setting → List (List ℕ) → EventCounts
forgotten_counts k past = counts_known k past (is_forgotten (high_at k past))

-- ---- a packet of no switched stream, as one with cues

pub record ChangesNothing (k : Setting) (p : List ℕ) (past : List (List ℕ)) : Type 0 where
  pub high : high_at k (p ∷ past) ≡ high_at k past
  pub fresh : IsFreshAhead (plans_at k (p ∷ past) (behind_at k (p ∷ past))) (high_at k past) nothing_known
  pub plans : plans_beside k past ≡ values_by (plans_at k (p ∷ past) (behind_at k (p ∷ past))) (standing_behind k past)
  pub streams : (streams : List SwitchedStream) (steps : PidSteps) →
      AllGo streams (inside_at k past (behind_at k past)) steps (switched_at k past) →
      AllGo streams (inside_at k (p ∷ past) (behind_at k (p ∷ past))) (counted_next k steps p past) (switched_at k (p ∷ past))
  pub forgotten : forgotten_counts k (p ∷ past) ≡ forgotten_counts k past

-- THE LAW OF OTHER PACKETS: where the advertisements are steady, and no more than eight streams are switched
abbrev pub UnswitchedChangeNothing : Type 0
UnswitchedChangeNothing = (k : Setting) (p : List ℕ) (past : List (List ℕ)) → on_one (switched_at k past) p ≡ false →
    AreSteady (adverts_at k past) → length (switched_at k past) ≤ 8 → ChangesNothing k p past

-- ---- a packet behind the head that is none of the cues

-- what is known is what was known with it; with the events that were forgotten count those that stand no longer
pub record PassesOn (k : Setting) (p : List ℕ) (past : List (List ℕ)) : Type 0 where
  pub plans : plans_at k (p ∷ past) (behind_at k (p ∷ past)) ≡ plans_at k past (p ∷ behind_at k past)
  pub inside : inside_at k (p ∷ past) (behind_at k (p ∷ past)) ≡ inside_at k past (p ∷ behind_at k past)
  pub moves : moves_at k (p ∷ past) ≡
      fate (switched_at k past) (adverts_at k past) (history_at k past) p (behind_at k past) ∷ (reverse (puts_at k p past) ++ moves_at k past)
  pub switched : switched_at k (p ∷ past) ≡ switched_at k past
  pub events : events_at k (p ∷ past) ≡ events_at k past
  pub unheard : high_at k (p ∷ past) ≡ None → high_at k past ≡ None
  pub higher : (later : ℤ) → high_at k (p ∷ past) ≡ Some later → MayAdvance (high_at k past) later
  pub same : high_at k (p ∷ past) ≡ high_at k past → forgotten_counts k (p ∷ past) ≡ forgotten_counts k past
  pub counted : (later : ℤ) → high_at k (p ∷ past) ≡ Some later → forgotten_counts k (p ∷ past) ≡
      with_counted (is_out_at later) (adverts_at k past) (beside (standing_behind k past) (plans_with k p past)) (forgotten_counts k past)

abbrev pub PacketsPass : Type 0
PacketsPass = (k : Setting) (p : List ℕ) (past : List (List ℕ)) → is_behind_head k past ≡ true → on k.cue_pid p ≡ false →
    AreSteady (adverts_at k past) → unit_fault (switched_at k past) p (behind_at k past) ≡ None → PassesOn k p past

-- ---- what has been counted

-- where all packets went through the switch, what goes out by the steps that were counted is what goes out by the moves
pub record GoesByMoves (k : Setting) (past : List (List ℕ)) : Type 0 where
  pub front : (p : List ℕ) → front_by k (steps_at k past) p past ≡ front_at k p past
  pub place : (p : List ℕ) → place_by k (steps_at k past) p past ≡ place_at k p past
  pub rest : rest_by k (steps_at k past) past ≡ rest_at k past
  pub next : (p : List ℕ) → counted_next k (steps_at k past) p past ≡ steps_at k (p ∷ past)
  pub puts : (p : List ℕ) → puts_next k (journey_at k past) p ≡ switched_at_packet k p past
  pub journey : (p : List ℕ) → journey_next k (journey_at k past) p ≡ journey_at k (p ∷ past)

-- THE LAW OF STEPS
abbrev pub StepsAreOfMoves : Type 0
StepsAreOfMoves = (k : Setting) (past : List (List ℕ)) → GoesByMoves k past

-- ---- the report

-- no packet behind the head has a fault
abbrev pub AreFaultless : List ℕ → List (List ℕ) → Type 0
AreFaultless switched [] = Unit {0}
AreFaultless switched (p ∷ past) = (unit_fault switched p past ≡ None) × AreFaultless switched past

-- counts over the events that stand, each beside its plan, on top of those over the events that are forgotten
abbrev pub counted_in_all : Setting → List (List ℕ) → List Plan → EventCounts
counted_in_all k past plans = with_counted is_any (adverts_at k past) (beside (standing_behind k past) plans) (forgotten_counts k past)

-- they are the report's; the ignored cues are the table's
pub record IsWholeReport (k : Setting) (past : List (List ℕ)) (plans : List Plan) : Type 0 where
  pub played : (counted_in_all k past plans).played ≡ (report_of k past).played
  pub not_fitted : (counted_in_all k past plans).not_fitted ≡ (report_of k past).not_fitted
  pub unconditioned : (counted_in_all k past plans).unconditioned ≡ (report_of k past).unconditioned

-- THE LAW OF REPORTS, on a network whose times do not jump
abbrev pub ReportsAreWhole : Type 0
ReportsAreWhole = (k : Setting) (past : List (List ℕ)) (plans : List Plan) → AreSteady (adverts_at k past) →
    AreFaultless (switched_at k past) (behind_at k past) →
    map (λ (plan : Plan). plan.is_crossed) plans
    ≡ map (is_crossed_known (switched_at k past) (adverts_at k past) (history_at k past) (behind_at k past)) (standing_behind k past) →
    IsWholeReport k past plans

-- THE LAW OF CROSSINGS: the plans beside the events that stand say which of these a stream has crossed
abbrev pub PlansTellCrossings : Type 0
PlansTellCrossings = (k : Setting) (past : List (List ℕ)) → map (λ (plan : Plan). plan.is_crossed) (plans_beside k past)
    ≡ map (is_crossed_known (switched_at k past) (adverts_at k past) (history_at k past) (behind_at k past)) (standing_behind k past)
