-- What the events and streams of a switch stand for: behind a past, before a packet that begins a unit, and behind it.
use Rattle.std.specs.Prelude.{◌≡◌, ℕ, List, ◌∷◌, map, Bool, true, false, slice_get, Option, None, Some, option_map}
use Rattle.ts_packet.specs.Fields.{on, on_one}
use Rattle.ts_packet.specs.Numbering.{Step}
use Rattle.pes_time.specs.Line.{ring_of}
use Rattle.unit_stream.specs.Times.{begins, stamp}
use Rattle.unit_stream.specs.Faults.{unit_fault}
use Rattle.psi_tables.specs.declared.stream.Stream.{Stream as ListedStream}
use Rattle.event_table.specs.Tables.{values_of}
use Rattle.armed_events.specs.Arming.{standing, ignored}
use Rattle.armed_events.specs.Obeying.{Obeys}
use Rattle.armed_events.specs.Valuing.{values_by}
use Rattle.ad_library.specs.Advertisements.{Advertisement}
use Rattle.splice_plans.specs.declared.plan.Plan.{Plan}
use Rattle.splice_playing.specs.declared.playing.Playing.{Playing}
use Rattle.splice_playing.specs.Leaving.{AllTaken, OthersTaken}
use Rattle.splice_plans.specs.Counters.{PidSteps, counted_at}
use Rattle.splice_plans.specs.Switching.{Setting, switched_at, streams_at, high_at, history_at}
use Rattle.splice_plans.specs.Histories.{AreSteady}
use Rattle.splice_plans.specs.Reporting.{ReportIs, EventCounts}
use Rattle.splice_plans.specs.Adverts.{adverts_of, packed_units}
use Rattle.splice_plans.specs.Known.{is_crossed_known, AllGo, AreSeparate, adverts_at, behind_at, plans_at, inside_at, fate_at, counts_known, is_forgotten}
use Rattle.splice_plans.specs.Stepping.{counted_before}
use Rattle.known_laws.specs.Laws.{AreFaultless}
use Rattle.splice_playing.specs.Dues.{NoneDueAt, NoneDueWith, IsAllOut}

-- WHAT IT STANDS FOR, behind a past, where the counters have counted these steps
pub record PlaysBy (playing : Playing) (k : Setting) (past : List (List ℕ)) (steps : PidSteps) : Type 0 where
  pub events : Obeys playing.events k.cue_pid (high_at k) past
  pub plans : values_of playing.events.obeyed.table ≡ values_by (plans_at k past (behind_at k past)) (standing k.cue_pid (high_at k) past)
  pub streams : AllGo playing.streams (inside_at k past (behind_at k past)) steps (switched_at k past)
  pub leaving : AllTaken playing.leaving playing.streams (switched_at k past) (behind_at k past)
  pub forgotten : ReportIs playing.forgotten (counts_known k past (is_forgotten (high_at k past)))
  pub all_out : IsAllOut playing.all_out (high_at k past) → NoneDueAt k past

-- what is settled behind a past: what became of the events that are forgotten, and how many cues were ignored
abbrev pub settled_of : Setting → List (List ℕ) → EventCounts
settled_of k past = record (counts_known k past (is_forgotten (high_at k past))) { ignored = ignored k.cue_pid (high_at k) past }

-- the same playing, of which it is open whether what was due of the events that run is out
abbrev pub unasked : Playing → Playing
unasked playing = record playing { all_out = None }

-- the packet is of the PID of cues, and of no switched stream
pub record IsCueOf (k : Setting) (p : List ℕ) (past : List (List ℕ)) : Type 0 where
  pub cue : on k.cue_pid p ≡ true
  pub other : on_one (switched_at k past) p ≡ false
  pub separate : AreSeparate (switched_at k past)
  pub steady : AreSteady (adverts_at k past)

-- the packet begins a unit in the stream of this number, with this stamp; behind it this is the greatest time
pub record BeginsIn (k : Setting) (filed : ℕ → Option Advertisement) (listed : List ListedStream) (number : ℕ) (time high : Option ℕ)
    (p : List ℕ) (past : List (List ℕ)) : Type 0 where
  pub pid : ℕ
  pub of : slice_get (switched_at k past) number ≡ Some pid
  pub begins_it : begins pid p (behind_at k past) ≡ true
  pub stamp_is : stamp p ≡ time
  pub high_is : high ≡ option_map ring_of (high_at k (p ∷ past))
  pub sound : unit_fault (switched_at k past) p (behind_at k past) ≡ None
  pub cue : on k.cue_pid p ≡ false
  pub separate : AreSeparate (switched_at k past)
  pub listed_is : listed ≡ streams_at k past
  pub adverts_are : k.adverts ≡ adverts_of filed
  pub packed_is : k.packed ≡ packed_units

-- the steps once the packet is out, or what stands in its place
abbrev pub counted_with : Setting → PidSteps → List ℕ → List (List ℕ) → ℕ → List Step
counted_with k steps p past = counted_at k.packed (fate_at k p past) (behind_at k past) (counted_before k steps p past)

-- what it stands for once all is out that goes out before a packet that begins a unit
pub record PlaysBefore (playing : Playing) (k : Setting) (p : List ℕ) (past : List (List ℕ)) (steps : PidSteps) : Type 0 where
  pub events : Obeys playing.events k.cue_pid (high_at k) past
  pub plans : values_of playing.events.obeyed.table ≡ values_by (plans_at k past (p ∷ behind_at k past)) (standing k.cue_pid (high_at k) past)
  pub streams : AllGo playing.streams (inside_at k past (p ∷ behind_at k past)) (counted_before k steps p past) (switched_at k past)
  pub leaving : OthersTaken playing.leaving playing.streams (switched_at k past) p (behind_at k past)
  pub forgotten : ReportIs playing.forgotten (counts_known k past (is_forgotten (high_at k past)))
  pub all_out : IsAllOut playing.all_out (high_at k (p ∷ past)) → NoneDueWith k p past

-- and once the packet is out, or what stands in its place, before the greatest time rises
pub record PlaysBehind (playing : Playing) (k : Setting) (p : List ℕ) (past : List (List ℕ)) (steps : PidSteps) : Type 0 where
  pub events : Obeys playing.events k.cue_pid (high_at k) past
  pub plans : values_of playing.events.obeyed.table ≡ values_by (plans_at k past (p ∷ behind_at k past)) (standing k.cue_pid (high_at k) past)
  pub streams : AllGo playing.streams (inside_at k past (p ∷ behind_at k past)) (counted_with k steps p past) (switched_at k past)
  pub leaving : AllTaken playing.leaving playing.streams (switched_at k past) (p ∷ behind_at k past)
  pub forgotten : ReportIs playing.forgotten (counts_known k past (is_forgotten (high_at k past)))
  pub all_out : IsAllOut playing.all_out (high_at k (p ∷ past)) → NoneDueWith k p past

-- the packet is on the PID of the switched stream of this number
pub record IsOnStream (k : Setting) (number : ℕ) (p : List ℕ) (past : List (List ℕ)) : Type 0 where
  pub pid : ℕ
  pub of : slice_get (switched_at k past) number ≡ Some pid
  pub separate : AreSeparate (switched_at k past)
  pub on_pid : on pid p ≡ true

-- the packet is of the stream of this number, and begins a unit or does not
pub record IsPacketOf (k : Setting) (number : ℕ) (is_start : Bool) (p : List ℕ) (past : List (List ℕ)) : Type 0 where
  pub pid : ℕ
  pub of : slice_get (switched_at k past) number ≡ Some pid
  pub separate : AreSeparate (switched_at k past)
  pub on_pid : on pid p ≡ true
  pub start : is_start ≡ begins pid p (behind_at k past)
  pub cue : on k.cue_pid p ≡ false

-- the network ends with these streams, and with these advertisements for them, and no packet behind its head had a fault
pub record EndsWith (k : Setting) (filed : ℕ → Option Advertisement) (listed : List ListedStream) (past : List (List ℕ)) : Type 0 where
  pub faultless : AreFaultless (switched_at k past) (behind_at k past)
  pub separate : AreSeparate (switched_at k past)
  pub listed_is : listed ≡ streams_at k past
  pub adverts_are : k.adverts ≡ adverts_of filed
  pub packed_is : k.packed ≡ packed_units

-- what is left of the relation once the rest of all events is out: all that a report needs
pub record Reports (playing : Playing) (k : Setting) (past : List (List ℕ)) : Type 0 where
  pub events : Obeys playing.events k.cue_pid (high_at k) past
  pub crossed : map (λ (plan : Plan). plan.is_crossed) (values_of playing.events.obeyed.table)
      ≡ map (is_crossed_known (switched_at k past) (adverts_at k past) (history_at k past) (behind_at k past)) (standing k.cue_pid (high_at k) past)
  pub forgotten : ReportIs playing.forgotten (counts_known k past (is_forgotten (high_at k past)))
