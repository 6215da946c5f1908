-- What goes out of the events that stand, and what is kept of them, by the state of the code.
use Rattle.std.specs.Prelude.{◌≡◌, ℕ, ◌%◌, List, slice_index_or, ℤ, Option, Some}
use Rattle.ts_packet.specs.Numbering.{Step}
use Rattle.unit_stream.specs.UnitPackets.{put_in}
use Rattle.psi_tables.specs.declared.stream.Stream.{Stream}
use Rattle.event_table.specs.Standing.{Standing}
use Rattle.event_table.specs.Tables.{StandsFor, values_of}
use Rattle.ad_library.specs.Advertisements.{Advertisement}
use Rattle.splice_plans.specs.declared.plan.Plan.{Plan}
use Rattle.splice_plans.specs.declared.stream.SwitchedStream.{SwitchedStream}
use Rattle.splice_plans.specs.Fronts.{closing_packets, closed_plans, AllCount, all_running, running_of, all_ran, is_left}
use Rattle.splice_playing.specs.declared.playing.Playing.{Playing}
use Rattle.splice_playing.specs.Resting.{is_left_at_rest}
use Rattle.splice_playing.specs.Dues.{NoneDue, IsAllOut}

-- the plans beside the events that stand
abbrev pub plans_in : Playing → List Plan
plans_in playing = values_of playing.events.obeyed.table

-- these events stand, where this is the greatest time
abbrev pub HasEvents : Playing → Option ℤ → List Standing → Type 0
HasEvents playing latest es = StandsFor playing.events.obeyed.table latest es

-- it is the stream of this number
abbrev pub IsStreamAt : Playing → ℕ → SwitchedStream → Type 0
IsStreamAt playing number s = s ≡ slice_index_or playing.streams (number % 8) s

abbrev pub stream_at : Playing → ℕ → SwitchedStream → SwitchedStream
stream_at playing number s = slice_index_or playing.streams number s

-- a stream before and behind the start of a unit of this time, or of none, before all events
pub record KeepsUnit (time : Option ℕ) (s t : SwitchedStream) : Type 0 where
  pub counter : t.counter ≡ s.counter
  pub leaving : t.is_leaving ≡ is_left_at_rest time s.is_leaving

-- and of a unit of this time that leaves all events as they are
pub record HoldsUnit (number : ℕ) (latest : Option ℤ) (time : ℕ) (es : List Standing) (plans : List Plan) (s t : SwitchedStream) : Type 0 where
  pub counter : t.counter ≡ s.counter
  pub leaving : t.is_leaving ≡ is_left number latest (Some time) s.is_leaving es plans

-- the streams' counters have counted these steps
abbrev pub HasCounted : Playing → (ℕ → List Step) → Type 0
HasCounted playing steps = AllCount playing.streams steps

-- the steps of each stream once this is out in it
abbrev pub steps_with : (ℕ → List (List ℕ)) → (ℕ → List Step) → ℕ → List Step
steps_with put steps number = put_in (put number) (steps number)

module _ (playing : Playing) (filed : ℕ → Option Advertisement) (streams : List Stream) where
  -- what goes out of the events that a unit of this time in the stream closes, and the plans then
  abbrev pub closing_in : ℕ → Stream → Option ℤ → Option ℕ → List Step → List Standing → List (List ℕ)
  closing_in number of latest time steps es = closing_packets filed streams number of latest time steps es (plans_in playing)

  abbrev pub closed_in : ℕ → Stream → Option ℤ → Option ℕ → List Standing → List Plan
  closed_in number of latest time es = closed_plans filed streams number of latest time es (plans_in playing)

  -- what goes out of the events that run, in all streams and in one, and the plans then
  abbrev pub running_in_all : Option ℤ → List Standing → (ℕ → List Step) → List (List ℕ)
  running_in_all high es steps = all_running filed streams high es steps (plans_in playing) 0 streams

  abbrev pub running_in_one : Option ℤ → List Standing → (ℕ → List Step) → ℕ → List (List ℕ)
  running_in_one high es steps number = running_of filed streams high es steps (plans_in playing) 0 streams number

  abbrev pub ran_in_all : Option ℤ → List Standing → List Plan
  ran_in_all high es = all_ran filed streams high es (plans_in playing) 0 streams

  -- where what was due at this greatest time is out, nothing is
  abbrev pub LeavesNoneDue : Option ℤ → List Standing → Type 0
  LeavesNoneDue high es = IsAllOut playing.all_out high → NoneDue filed streams high es (plans_in playing)
