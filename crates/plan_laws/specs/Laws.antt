-- What a packet that begins a unit does in a switch, by the plans beside the events that stand.
use Rattle.std.specs.Prelude.{◌≡◌, ◌==◌, ℕ, ◌++◌, ◌∷◌, [], List, if◌then◌else◌, slice_get, slice_index_or, All, Option, None, Some, option_map, true, false}
use Rattle.pes_time.specs.Line.{ring_of}
use Rattle.ts_packet.specs.Fields.{on}
use Rattle.ts_packet.specs.Numbering.{Step}
use Rattle.unit_stream.specs.Times.{begins, stamp}
use Rattle.unit_stream.specs.Faults.{unit_fault}
use Rattle.unit_stream.specs.UnitPackets.{put_in}
use Rattle.psi_tables.specs.declared.stream.Stream.{Stream}
use Rattle.event_table.specs.Standing.{Standing, IsWithin}
use Rattle.armed_events.specs.Arming.{standing}
use Rattle.armed_events.specs.Valuing.{values_by}
use Rattle.ad_library.specs.Advertisements.{Advertisement}
use Rattle.splice_plans.specs.declared.plan.Plan.{Plan}
use Rattle.splice_plans.specs.Counters.{PidSteps}
use Rattle.splice_plans.specs.Switching.{Setting, switched_at, streams_at, high_at}
use Rattle.splice_plans.specs.Adverts.{adverts_of, packed_units}
use Rattle.splice_plans.specs.Parts.{IsReached}
use Rattle.splice_plans.specs.Fronts.{IsNearTime, IsOther, closing_packets, closed_plans, all_running, running_of, all_ran, is_left}
use Rattle.splice_plans.specs.Known.{AreSeparate, behind_at, plans_at, inside_at}
use Rattle.splice_plans.specs.Stepping.{counted_before, front_by}

-- the steps of a stream's counter; none where no stream is
abbrev pub steps_of : PidSteps → Option ℕ → List Step
steps_of steps None = []
steps_of steps (Some pid) = steps pid

-- of each of the streams
abbrev pub steps_known : Setting → List (List ℕ) → PidSteps → ℕ → List Step
steps_known k past steps i = steps_of steps (slice_get (switched_at k past) i)

-- the same once these packets are out in the stream of this number
abbrev pub steps_with : ℕ → List (List ℕ) → (ℕ → List Step) → ℕ → List Step
steps_with n put steps i = if i == n then put_in put (steps i) else steps i

-- the packet begins a sound unit in the stream of this number and PID
pub record Starts (k : Setting) (filed : ℕ → Option Advertisement) (n pid : ℕ) (p : List ℕ) (past : List (List ℕ)) : Type 0 where
  pub of : slice_get (switched_at k past) n ≡ Some pid
  pub begins_it : begins pid p (behind_at k past) ≡ true
  pub sound : unit_fault (switched_at k past) p (behind_at k past) ≡ None
  pub cue : on k.cue_pid p ≡ false
  pub separate : AreSeparate (switched_at k past)
  pub adverts_are : k.adverts ≡ adverts_of filed
  pub packed_is : k.packed ≡ packed_units

-- ---- its time

-- it is near the greatest time
abbrev pub StartsAreNear : Type 0
StartsAreNear = (k : Setting) (filed : ℕ → Option Advertisement) (n pid : ℕ) (p : List ℕ) (past : List (List ℕ)) → Starts k filed n pid p past →
    IsNearTime (high_at k past) (stamp p)

-- the greatest time with it is at or past that before it, and near
abbrev pub HighIsReached : Type 0
HighIsReached = (k : Setting) (filed : ℕ → Option Advertisement) (n pid : ℕ) (p : List ℕ) (past : List (List ℕ)) → Starts k filed n pid p past →
    IsReached (high_at k past) (option_map ring_of (high_at k (p ∷ past))) (high_at k (p ∷ past))

-- ---- what goes out

module _ (k : Setting) (filed : ℕ → Option Advertisement) (n : ℕ) (of : Stream) (p : List ℕ) (past : List (List ℕ)) where
  -- the events that stand before it
  abbrev pub standing_before : List Standing
  standing_before = standing k.cue_pid (high_at k) past

  abbrev pub plans_before : List Plan
  plans_before = values_by (plans_at k past (behind_at k past)) standing_before

  -- once the events that it closes are out
  abbrev pub plans_between : List Plan
  plans_between = closed_plans filed (streams_at k past) n of (high_at k past) (stamp p) standing_before plans_before

  -- and then what is due of those that run on
  abbrev pub plans_behind : List Plan
  plans_behind = all_ran filed (streams_at k past) (high_at k (p ∷ past)) standing_before plans_between 0 (streams_at k past)

  -- the events that stand are near the greatest time, and `of` is the stream in which the unit begins
  pub record IsReady (pid : ℕ) : Type 0 where
    pub starts : Starts k filed n pid p past
    pub within : All (IsWithin (high_at k past)) standing_before
    pub of_is : of ≡ slice_index_or (streams_at k past) n of

  -- ---- where the counters have counted these steps

  module _ (steps : PidSteps) where
    abbrev pub steps_before : ℕ → List Step
    steps_before = steps_known k past steps

    -- of the events that it closes
    abbrev pub closing_before : List (List ℕ)
    closing_before = closing_packets filed (streams_at k past) n of (high_at k past) (stamp p) (steps_before n) standing_before plans_before

    abbrev pub steps_between : ℕ → List Step
    steps_between = steps_with n closing_before steps_before

    -- of the events that run on, by stream
    abbrev pub running_before : List (List ℕ)
    running_before = all_running filed (streams_at k past) (high_at k (p ∷ past)) standing_before steps_between plans_between 0 (streams_at k past)

    abbrev pub running_in : ℕ → List (List ℕ)
    running_in = running_of filed (streams_at k past) (high_at k (p ∷ past)) standing_before steps_between plans_between 0 (streams_at k past)

-- THE LAW OF THE FRONT: what goes out before the packet is the rest of the events that it closes, and then what is due of those that run on
abbrev pub FrontGoesOut : Type 0
FrontGoesOut = (k : Setting) (filed : ℕ → Option Advertisement) (n pid : ℕ) (of : Stream) (p : List ℕ) (past : List (List ℕ)) → IsReady k filed n of p past pid → (steps : PidSteps) →
    front_by k steps p past ≡ closing_before k filed n of p past steps ++ running_before k filed n of p past steps

-- THE LAW OF PLANS: the plans once that is out are those by the past with the packet
abbrev pub PlansGoOn : Type 0
PlansGoOn = (k : Setting) (filed : ℕ → Option Advertisement) (n pid : ℕ) (of : Stream) (p : List ℕ) (past : List (List ℕ)) → IsReady k filed n of p past pid →
    plans_behind k filed n of p past ≡ values_by (plans_at k past (p ∷ behind_at k past)) (standing_before k filed n of p past)

-- THE LAW OF COUNTERS: each stream's counter has counted what went out in the stream
abbrev pub CountersGoOn : Type 0
CountersGoOn = (k : Setting) (filed : ℕ → Option Advertisement) (n pid : ℕ) (of : Stream) (p : List ℕ) (past : List (List ℕ)) → IsReady k filed n of p past pid → (steps : PidSteps) →
    (i : ℕ) → put_in (running_in k filed n of p past steps i) (steps_between k filed n of p past steps i) ≡ steps_known k past (counted_before k steps p past) i

-- where there is no greatest time with the packet either, nothing goes out, and no event stands
abbrev pub NothingStands : Type 0
NothingStands = (k : Setting) (filed : ℕ → Option Advertisement) (n pid : ℕ) (of : Stream) (p : List ℕ) (past : List (List ℕ)) → IsReady k filed n of p past pid →
    high_at k (p ∷ past) ≡ None → ((steps : PidSteps) → (running_before k filed n of p past steps ≡ []) × ((i : ℕ) → running_in k filed n of p past steps i ≡ []))
    × (plans_behind k filed n of p past ≡ plans_between k filed n of p past)

-- ---- whether the packet's unit, and those that go on in the other streams, lie in played events

abbrev pub UnitsLieAsLeft : Type 0
UnitsLieAsLeft = (k : Setting) (filed : ℕ → Option Advertisement) (n pid : ℕ) (of : Stream) (p : List ℕ) (past : List (List ℕ)) → IsReady k filed n of p past pid →
    is_left n (high_at k past) (stamp p) (inside_at k past (behind_at k past) pid) (standing_before k filed n of p past) (plans_between k filed n of p past)
    ≡ inside_at k past (p ∷ behind_at k past) pid

abbrev pub OthersLieAsBefore : Type 0
OthersLieAsBefore = (k : Setting) (filed : ℕ → Option Advertisement) (n pid : ℕ) (p : List ℕ) (past : List (List ℕ)) → Starts k filed n pid p past →
    (i q : ℕ) → slice_get (switched_at k past) i ≡ Some q → IsOther i n → inside_at k past (p ∷ behind_at k past) q ≡ inside_at k past (behind_at k past) q
