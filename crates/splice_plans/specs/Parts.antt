-- What goes out of an event in one stream, and what that does to the plans beside the events.
use Rattle.std.specs.Prelude.{◌≡◌, ℕ, ◌+◌, ◌<◌, List, [], ◌∷◌, length, drop, take, Bool, true, false, not, ◌&&◌, if◌then◌else◌, slice_index_or, ℤ, pos, ◌≤ℤ◌, ◌-ℤ◌, ◌+ℤ◌, int_lt, unsigned_abs, filter, find, map, ◌++◌, Option, None, Some}
use Rattle.psi_tables.specs.declared.stream.Stream.{Stream}
use Rattle.pes_time.specs.Line.{ring_of}
use Rattle.ts_packet.specs.Numbering.{Step}
use Rattle.event_table.specs.declared.event.Event.{Event}
use Rattle.event_table.specs.Events.{no_event, covers_on_ring}
use Rattle.event_table.specs.Rings.{is_before_on_ring}
use Rattle.event_table.specs.Standing.{Standing, on_ring}
use Rattle.unit_stream.specs.UnitPackets.{put_in}
use Rattle.event_table.specs.declared.table.Entry.{Entry}
use Rattle.event_table.specs.Tables.{StandsFor, events_of, high_time_of, values_of}
use Rattle.armed_events.specs.declared.obeying.ArmedEvents.{ArmedEvents}
use Rattle.armed_events.specs.Obeying.{Obeys}
use Rattle.ad_library.specs.Advertisements.{AdvertUnit, Advertisement, count_of_kind}
use Rattle.ad_library.specs.Library.{slice_held}
use Rattle.splice_plans.specs.declared.plan.Stage.{Stage}
use Rattle.splice_plans.specs.declared.plan.Stage.TheVariants.{Waiting, Running, Closing, Over}
use Rattle.splice_plans.specs.declared.plan.Plan.{Plan}
use Rattle.splice_plans.specs.Playing.{Adverts, is_played}
use Rattle.splice_plans.specs.Slicing.{delta_at, due_units, slice_packets}
use Rattle.splice_plans.specs.Turning.{part_of, with_part, plan_turned}

-- ---- the slice of an event in a stream

abbrev pub units_or : Option (List AdvertUnit) → List AdvertUnit
units_or None = []
units_or (Some us) = us

-- the stream of this number has its k-th of its type
abbrev pub slice_in : (ℕ → Option Advertisement) → List Stream → ℕ → Stream → Event → List AdvertUnit
slice_in filed streams stream of e = units_or (slice_held (filed e.program) of.kind (count_of_kind of.kind (take stream streams)) e.length)

-- how far its stamps move
abbrev pub delta_in : ℕ → Option Advertisement → ℕ
delta_in start None = 0
delta_in start (Some ad) = delta_at start ad.zero

-- what is left of it and due
abbrev pub units_in : (ℕ → Option Advertisement) → List Stream → ℕ → Stream → Event → ℕ → Option ℕ → List AdvertUnit
units_in filed streams stream of e sent reached = due_units reached (drop sent (slice_in filed streams stream of e))

abbrev pub packets_in : (ℕ → Option Advertisement) → List Stream → ℕ → Stream → Event → ℕ → Option ℕ → List Step → List (List ℕ)
packets_in filed streams stream of e sent reached steps =
    slice_packets of.pid (delta_in e.start (filed e.program)) steps (units_in filed streams stream of e sent reached)

-- it is the stream of this number
abbrev pub IsStreamOf : List Stream → ℕ → Stream → Type 0
IsStreamOf streams stream of = of ≡ slice_index_or streams stream of

-- ---- the plans beside the events

-- these events stand, where this is the greatest time
abbrev pub HasStanding : ArmedEvents Plan → Option ℤ → List Standing → Type 0
HasStanding events latest es = StandsFor events.obeyed.table latest es

-- it stands at this place, with its plan
abbrev pub IsEntryAt : ArmedEvents Plan → ℕ → Entry Plan → Type 0
IsEntryAt events place entry = entry ≡ slice_index_or events.obeyed.table.entries.items place entry

-- what is left of an event in the stream and due
abbrev pub entry_packets : (ℕ → Option Advertisement) → List Stream → ℕ → Stream → Option ℕ → List Step → Entry Plan → List (List ℕ)
entry_packets filed streams stream of reached steps entry =
    packets_in filed streams stream of entry.event (part_of entry.value stream).sent reached steps

-- the plan of an event of which these units went out in the stream, at this stage
abbrev pub part_put : (ℕ → Option Advertisement) → List Stream → ℕ → Stream → Option ℕ → Stage → Entry Plan → Plan
part_put filed streams stream of reached stage entry =
    with_part entry.value stream (record { stage = stage; sent = (part_of entry.value stream).sent + length (units_in filed streams stream of entry.event (part_of entry.value stream).sent reached) })

-- nothing but values beside the events has changed
pub record KeepsEvents (old new : ArmedEvents Plan) : Type 0 where
  pub obeys : (pid : ℕ) (high : List (List ℕ) → Option ℤ) (past : List (List ℕ)) → Obeys old pid high past → Obeys new pid high past
  pub events : events_of new.obeyed.table ≡ events_of old.obeyed.table
  pub high : high_time_of new.obeyed.table ≡ high_time_of old.obeyed.table
  pub assembler : new.assembler ≡ old.assembler

-- with a unit of this time in the stream
abbrev pub all_turned : Adverts → ℕ → ℤ → List Standing → List Plan → List Plan
all_turned ads stream t [] plans = []
all_turned ads stream t (e ∷ es) [] = []
all_turned ads stream t (e ∷ es) (plan ∷ plans) = plan_turned e t (is_played ads e) stream plan ∷ all_turned ads stream t es plans

abbrev pub is_waiting : Stage → Bool
is_waiting Waiting = true
is_waiting Running = false
is_waiting Closing = false
is_waiting Over = false

-- it has begun in the stream, and holds this time
abbrev pub holds_begun : ℕ → ℕ → Entry Plan → Bool
holds_begun stream time entry = covers_on_ring entry.event time && not (is_waiting (part_of entry.value stream).stage)

abbrev pub is_running : Stage → Bool
is_running Waiting = false
is_running Running = true
is_running Closing = false
is_running Over = false

abbrev pub is_closing : Stage → Bool
is_closing Waiting = false
is_closing Running = false
is_closing Closing = true
is_closing Over = false

-- ---- the events that are to close

abbrev pub closes_in : ℕ → Plan → Bool
closes_in stream plan = is_closing (part_of plan stream).stage

abbrev pub no_entry : Entry Plan
no_entry = record { event = no_event; value = record { parts = []; is_crossed = false } }

abbrev pub no_standing : Standing
no_standing = record { id = 0; start = pos 0; length = 0; asked = 0; program = 0; cancelled = false }

abbrev pub starts_first : List (Entry Plan) → ℕ → Option ℕ → Bool
starts_first entries at None = true
starts_first entries at (Some other) = is_before_on_ring (slice_index_or entries at no_entry).event.start (slice_index_or entries other no_entry).event.start

abbrev pub closes_at : ℕ → List (Entry Plan) → ℕ → Bool
closes_at stream entries at = closes_in stream (slice_index_or entries at no_entry).value

-- of an event and the one that starts first of those before it, if there is one, that which starts first and is to close
abbrev pub sooner : List (Entry Plan) → ℕ → ℕ → Option ℕ → Option ℕ
sooner entries stream at first = if closes_at stream entries at && starts_first entries at first then Some at else first

-- the event at this place is to close, and none that is starts before it
pub record IsFirstClosing (stream : ℕ) (es : List Standing) (plans : List Plan) (at : ℕ) : Type 0 where
  pub below : at < length plans
  pub closes : closes_in stream (slice_index_or plans at no_entry.value) ≡ true
  pub first : (other : ℕ) → other < length plans → closes_in stream (slice_index_or plans other no_entry.value) ≡ true →
      (slice_index_or es at no_standing).start ≤ℤ (slice_index_or es other no_standing).start

-- ---- of several events

abbrev pub beside : List Standing → List Plan → List (Standing × Plan)
beside [] plans = []
beside (e ∷ es) [] = []
beside (e ∷ es) (plan ∷ plans) = (e, plan) ∷ beside es plans

abbrev pub put_pair : Standing × Plan → List (Standing × Plan) → List (Standing × Plan)
put_pair x [] = x ∷ []
put_pair x (y ∷ ys) = if int_lt x.0.start y.0.start then x ∷ y ∷ ys else y ∷ put_pair x ys

abbrev pub pairs_by_start : List (Standing × Plan) → List (Standing × Plan)
pairs_by_start [] = []
pairs_by_start (x ∷ xs) = put_pair x (pairs_by_start xs)

-- those that are to close in the stream, in order of start
abbrev pub closing_pairs : ℕ → List (Standing × Plan) → List (Standing × Plan)
closing_pairs stream xs = pairs_by_start (filter (λ x. closes_in stream x.1) xs)

-- the time on the ring, if one is given, is this one of the line, at most 900,000 ticks past the greatest so far
abbrev pub IsReached : Option ℤ → Option ℕ → Option ℤ → Type 0
IsReached latest None None = Unit {0}
IsReached latest None (Some t) = ⊥
IsReached latest (Some p) None = ⊥
IsReached None (Some p) (Some t) = p ≡ ring_of t
IsReached (Some h) (Some p) (Some t) = (p ≡ ring_of t) × (h ≤ℤ t) × (t ≤ℤ (h +ℤ pos 900000))

-- how far the greatest time lies past the start; no limit where none is given
abbrev pub reached_by : Option ℤ → Standing → Option ℕ
reached_by None e = None
reached_by (Some high) e = Some (if int_lt high e.start then 0 else unsigned_abs (high -ℤ e.start))

module _ (filed : ℕ → Option Advertisement) (streams : List Stream) (stream : ℕ) (of : Stream) where
  -- what goes out of one of them, behind these steps of the stream's counter
  abbrev pub pair_packets : Option ℕ → List Step → Standing × Plan → List (List ℕ)
  pair_packets reached steps x = packets_in filed streams stream of (on_ring x.0) (part_of x.1 stream).sent reached steps

  abbrev pub put_plan : Option ℕ → Stage → Standing × Plan → Plan
  put_plan reached stage x = with_part x.1 stream (record { stage = stage; sent = (part_of x.1 stream).sent + length (units_in filed streams stream of (on_ring x.0) (part_of x.1 stream).sent reached) })

  abbrev pub rest_packets : List Step → List (Standing × Plan) → List (List ℕ)
  rest_packets steps [] = []
  rest_packets steps (x ∷ xs) = pair_packets None steps x ++ rest_packets (put_in (pair_packets None steps x) steps) xs

  -- once those that were to close are over
  abbrev pub closed_plan : Standing × Plan → Plan
  closed_plan x = if closes_in stream x.1 then put_plan None Over x else x.1

  abbrev pub runs_in : Standing × Plan → Bool
  runs_in x = is_running (part_of x.1 stream).stage

  abbrev pub found_packets : Option ℤ → List Step → Option (Standing × Plan) → List (List ℕ)
  found_packets high steps None = []
  found_packets high steps (Some x) = pair_packets (reached_by high x.0) steps x

  -- what goes out of the event that runs, if one does
  abbrev pub running_packets : Option ℤ → List Step → List (Standing × Plan) → List (List ℕ)
  running_packets high steps xs = found_packets high steps (find runs_in xs)

  abbrev pub ran_plan : Option ℤ → Standing × Plan → Plan
  ran_plan high x = put_plan (reached_by high x.0) Running x

  -- the first that runs has moved on
  abbrev pub ran_plans : Option ℤ → List (Standing × Plan) → List Plan
  ran_plans high [] = []
  ran_plans high (x ∷ xs) = if runs_in x then ran_plan high x ∷ map (λ y. y.1) xs else x.1 ∷ ran_plans high xs

-- ---- of all events that stand, each with its plan

abbrev pub pairs_in : ArmedEvents Plan → List Standing → List (Standing × Plan)
pairs_in events es = beside es (values_of events.obeyed.table)

module _ (events : ArmedEvents Plan) (filed : ℕ → Option Advertisement) (streams : List Stream) (stream : ℕ) (of : Stream) where
  -- the rest of those that are to close in the stream, in order of start, and the plans then
  abbrev pub closing_out_of : List Step → List Standing → List (List ℕ)
  closing_out_of steps es = rest_packets filed streams stream of steps (closing_pairs stream (pairs_in events es))

  abbrev pub closed_of : List Standing → List Plan
  closed_of es = map (closed_plan filed streams stream of) (pairs_in events es)

  -- what is due of the one that runs in the stream, or all where no limit is given, and the plans then
  abbrev pub running_out_of : Option ℤ → List Step → List Standing → List (List ℕ)
  running_out_of high steps es = running_packets filed streams stream of high steps (pairs_in events es)

  abbrev pub ran_of : Option ℤ → List Standing → List Plan
  ran_of high es = ran_plans filed streams stream of high (pairs_in events es)
