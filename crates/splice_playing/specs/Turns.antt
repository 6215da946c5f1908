-- What the start of a unit does to the events, and to the stream that it begins in.
use Rattle.std.specs.Prelude.{◌≡◌, ℕ, ◌+◌, ◌%◌, ◌^◌, ◌<◌, ◌≤◌, List, slice_index_or, ℤ, Option, IfSome, Result, OnOk}
use Rattle.ts_packet.specs.Numbering.{Step, Counts}
use Rattle.ts_packet.specs.declared.sink.PacketSink as sink
use Rattle.unit_stream.specs.UnitPackets.{put_in}
use Rattle.psi_tables.specs.declared.stream.Stream.{Stream}
use Rattle.event_table.specs.Standing.{Standing}
use Rattle.ad_library.specs.Advertisements.{Advertisement}
use Rattle.splice_plans.specs.declared.stream.SwitchedStream.{SwitchedStream}
use Rattle.splice_plans.specs.Parts.{KeepsEvents}
use Rattle.splice_plans.specs.Fronts.{IsNearTime, IsOther, is_left}
use Rattle.splice_playing.specs.declared.playing.Playing.{Playing}
use Rattle.splice_playing.specs.Going.{plans_in, HasEvents, IsStreamAt, stream_at, closing_in, closed_in}
use Rattle.splice_playing.specs.Puts.{OfPuts}

-- but for the stream of this number all is as it was
pub record StaysBut (number : ℕ) (old new : Playing) : Type 0 where
  pub others : (i : ℕ) (s : SwitchedStream) → IsOther i (number % 8) → stream_at new i s ≡ stream_at old i s
  pub out : new.all_out ≡ old.all_out
  pub turns : new.turns ≡ old.turns
  pub events : new.events ≡ old.events
  pub units : new.leaving ≡ old.leaving
  pub forgotten : new.forgotten ≡ old.forgotten

-- but for that stream and the plans it is; where the count of turns has not risen, and where what was due stays out, so are the plans
pub record TurnsBut (number : ℕ) (old new : Playing) : Type 0 where
  pub others : (i : ℕ) (s : SwitchedStream) → IsOther i (number % 8) → stream_at new i s ≡ stream_at old i s
  pub out : IfSome new.all_out (λ _. (new.all_out ≡ old.all_out) × (new.events ≡ old.events))
  pub rises : old.turns ≤ new.turns
  pub still : new.turns ≡ old.turns → new.turns + 1 < 2 ^ 64 → new.events ≡ old.events
  pub keeps : KeepsEvents old.events new.events
  pub units : new.leaving ≡ old.leaving
  pub forgotten : new.forgotten ≡ old.forgotten

-- So it is said of what is put of the events that a unit of this time closes in the stream.
abbrev pub OfClosing : {S : Type 0} → Playing → (ℕ → Option Advertisement) → List Stream → ℕ → Option ℕ → sink.Ghosts S → S → OfPuts → Type 0
OfClosing playing filed listed number time puts out said = (of : Stream) (latest : Option ℤ) (es : List Standing) (s : SwitchedStream)
    (start : Option (List ℕ)) (before : List (List ℕ)) (steps : List Step) → of ≡ slice_index_or listed number of
    → HasEvents playing latest es → IsNearTime latest time → IsStreamAt playing number s → puts.holds out start before → Counts s.counter steps
    → said start before (closing_in playing filed listed number of latest time steps es)

-- Where the answer is well, the stream's counter has counted these packets, it is known whether its unit is left out, and the plans are those
-- that the unit makes them.
pub record ClosesEvents {R F : Type 0} (filed : ℕ → Option Advertisement) (listed : List Stream) (number : ℕ) (time : Option ℕ) (old new : Playing)
    (answer : Result R F) : Type 0 where
  pub counted : (of : Stream) (latest : Option ℤ) (es : List Standing) (s t : SwitchedStream) (steps : List Step)
      → of ≡ slice_index_or listed number of → HasEvents old latest es → IsNearTime latest time → IsStreamAt old number s
      → IsStreamAt new number t → Counts s.counter steps
      → OnOk answer (Counts t.counter (put_in (closing_in old filed listed number of latest time steps es) steps))
  pub leaving : (latest : Option ℤ) (es : List Standing) (s t : SwitchedStream) → HasEvents old latest es → IsStreamAt old number s
      → IsStreamAt new number t → OnOk answer (t.is_leaving ≡ is_left number latest time s.is_leaving es (plans_in new))
  pub plans : (of : Stream) (latest : Option ℤ) (es : List Standing) → of ≡ slice_index_or listed number of → HasEvents old latest es
      → IsNearTime latest time → OnOk answer (plans_in new ≡ closed_in old filed listed number of latest time es)
