-- What is due of the events that run: by the plans beside the events that stand, and by a past. All that is due goes out where a unit begins in
-- some stream, so that then nothing is due any more; and it stays so up to the next cue, as long as the greatest time stays and no event changes.
use Rattle.std.specs.Prelude.{◌≡◌, ℕ, ◌∷◌, List, [], find, slice_get, ℤ, Option, None, Some, option_map}
use Rattle.pes_time.specs.Line.{ring_of}
use Rattle.psi_tables.specs.declared.stream.Stream.{Stream}
use Rattle.event_table.specs.Standing.{Standing, on_ring}
use Rattle.armed_events.specs.Arming.{standing}
use Rattle.armed_events.specs.Valuing.{values_by}
use Rattle.ad_library.specs.Advertisements.{Advertisement}
use Rattle.splice_plans.specs.declared.plan.Plan.{Plan}
use Rattle.splice_plans.specs.Turning.{part_of}
use Rattle.splice_plans.specs.Parts.{units_in, beside, runs_in, reached_by}
use Rattle.splice_plans.specs.Adverts.{adverts_of}
use Rattle.splice_plans.specs.Switching.{Setting, streams_at, high_at}
use Rattle.splice_plans.specs.Known.{behind_at, plans_at}

module _ (filed : ℕ → Option Advertisement) (streams : List Stream) (high : Option ℤ) where
  -- of this event nothing is due in the stream of this number, where this is the greatest time; nor where there is no event
  abbrev pub NoneDueOf : ℕ → Stream → Option (Standing × Plan) → Type 0
  NoneDueOf number of None = Unit {0}
  NoneDueOf number of (Some x) = units_in filed streams number of (on_ring x.0) (part_of x.1 number).sent (reached_by high x.0) ≡ []

  -- of the event that runs in the stream
  abbrev pub NoneDueIn : List Standing → List Plan → ℕ → Stream → Type 0
  NoneDueIn es plans number of = NoneDueOf number of (find (runs_in filed streams number of) (beside es plans))

  -- in all of them
  abbrev pub NoneDue : List Standing → List Plan → Type 0
  NoneDue es plans = (number : ℕ) (of : Stream) → slice_get streams number ≡ Some of → NoneDueIn es plans number of

-- behind a past, by each library that says of its events what the setting says
abbrev pub NoneDueAt : Setting → List (List ℕ) → Type 0
NoneDueAt k past = (filed : ℕ → Option Advertisement) → k.adverts ≡ adverts_of filed →
    NoneDue filed (streams_at k past) (high_at k past) (standing k.cue_pid (high_at k) past)
    (values_by (plans_at k past (behind_at k past)) (standing k.cue_pid (high_at k) past))

-- and once all is out that goes out before a packet, where its time is among those that have come
abbrev pub NoneDueWith : Setting → List ℕ → List (List ℕ) → Type 0
NoneDueWith k p past = (filed : ℕ → Option Advertisement) → k.adverts ≡ adverts_of filed →
    NoneDue filed (streams_at k past) (high_at k (p ∷ past)) (standing k.cue_pid (high_at k) past)
    (values_by (plans_at k past (p ∷ behind_at k past)) (standing k.cue_pid (high_at k) past))

-- what was due at this time of the ring is out, and it is the greatest time
abbrev pub IsAllOut : Option ℕ → Option ℤ → Type 0
IsAllOut all_out high = (time : ℕ) × (all_out ≡ Some time) × (option_map ring_of high ≡ Some time)
