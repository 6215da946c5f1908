-- What is put of the events that run, and what it changes.
use Rattle.std.specs.Prelude.{◌≡◌, ℕ, ◌≤◌, List, length, ℤ, Option, Result, OnOk}
use Rattle.ts_packet.specs.Numbering.{Step}
use Rattle.ts_packet.specs.declared.sink.PacketSink as sink
use Rattle.psi_tables.specs.declared.stream.Stream.{Stream}
use Rattle.event_table.specs.Standing.{Standing}
use Rattle.ad_library.specs.Advertisements.{Advertisement}
use Rattle.splice_plans.specs.declared.stream.SwitchedStream.{SwitchedStream}
use Rattle.splice_plans.specs.Parts.{KeepsEvents, IsReached}
use Rattle.splice_playing.specs.declared.playing.Playing.{Playing}
use Rattle.splice_playing.specs.Going.{plans_in, HasEvents, stream_at, HasCounted, steps_with, running_in_all, running_in_one, ran_in_all}
use Rattle.splice_playing.specs.Puts.{OfPuts}

-- but for the plans and the streams' counters all is as it was
pub record RunsOn (old new : Playing) : Type 0 where
  pub leaving : (i : ℕ) (s : SwitchedStream) → (stream_at new i s).is_leaving ≡ (stream_at old i s).is_leaving
  pub turns : new.turns ≡ old.turns
  pub keeps : KeepsEvents old.events new.events
  pub units : new.leaving ≡ old.leaving
  pub forgotten : new.forgotten ≡ old.forgotten

-- what is known beforehand of the events that stand, where this is the greatest time; it may be nothing
abbrev pub OfEvents : Type 1
OfEvents = Option ℤ → List Standing → Type 0

abbrev pub NothingKnown : OfEvents
NothingKnown latest es = Unit {0}

-- So it is said of what is put of the events that run, where this is the greatest time, or of all that is left of them.
abbrev pub OfRunning : {S : Type 0} → Playing → (ℕ → Option Advertisement) → List Stream → Option ℕ → OfEvents → sink.Ghosts S → S → OfPuts → Type 0
OfRunning playing filed listed high known puts out said = (latest latest_behind : Option ℤ) (es : List Standing) (start : Option (List ℕ))
    (before : List (List ℕ)) (steps : ℕ → List Step) → length listed ≤ 8 → HasEvents playing latest es → IsReached latest high latest_behind
    → known latest es → puts.holds out start before → HasCounted playing steps
    → said start before (running_in_all playing filed listed latest_behind es steps)

-- Where the answer is well, the streams' counters have counted these packets, and the plans are those that they make them.
pub record RunsEvents {R F : Type 0} (filed : ℕ → Option Advertisement) (listed : List Stream) (high : Option ℕ) (known : OfEvents) (old new : Playing)
    (answer : Result R F) : Type 0 where
  pub counted : (latest latest_behind : Option ℤ) (es : List Standing) (steps : ℕ → List Step) → length listed ≤ 8 → HasEvents old latest es
      → IsReached latest high latest_behind → known latest es → HasCounted old steps
      → OnOk answer (HasCounted new (steps_with (running_in_one old filed listed latest_behind es steps) steps))
  pub plans : (latest latest_behind : Option ℤ) (es : List Standing) → HasEvents old latest es → IsReached latest high latest_behind
      → known latest es → OnOk answer (plans_in new ≡ ran_in_all old filed listed latest_behind es)
