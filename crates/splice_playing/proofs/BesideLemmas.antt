-- A packet on the PID of a switched stream that goes out beside the events: its stream counts it, and nothing else changes.
use Rattle.std.proofs.Common.{◌≡◌, ℕ, ◌%◌, ◌<◌, ◌==◌, List, ◌∷◌, length, Bool, false, refl, sym, ap, subst, ◌∙◌, arith}
use Rattle.std.specs.Prelude.{slice_index_or, slice_set}
use Rattle.std.proofs.lemmas.Option.{slice_get_within}
use Rattle.ts_packet.specs.Numbering.{Kept, Counts}
use Rattle.splice_laws.specs.Streams.{IsOnce}
use Rattle.plan_laws.proofs.PartLemmas.{small-number}
use Rattle.splice_plans.specs.declared.stream.SwitchedStream.{SwitchedStream}
use Rattle.splice_plans.specs.Counters.{PidSteps}
use Rattle.splice_plans.specs.Switching.{Setting, switched_at}
use Rattle.splice_plans.specs.Known.{GoesAs, AllGo, behind_at, inside_at}
use Rattle.splice_plans.specs.Stepping.{steps_kept}
use Rattle.splice_playing.specs.declared.leaving.LeavingUnit.{LeavingUnit}
use Rattle.splice_playing.specs.declared.playing.Playing.{Playing}
use Rattle.splice_playing.specs.Leaving.{AllTaken}
use Rattle.splice_playing.specs.Relations.{PlaysBy, IsOnStream}
use Rattle.splice_playing.proofs.StreamLemmas.{slot-leaving, slot-old}
use Rattle.splice_playing.proofs.PlaceLemmas.{among-by, off-other, one-goes, stream-of}

module _ (k : Setting) (n : ℕ) (p : List ℕ) (past : List (List ℕ)) (i : IsOnStream k n p past) where
  pub low : n < 8
  low = let within = slice_get_within (switched_at k past) n i.pid i.of in let few = i.separate.few in omega (arith, within, few)

  once : IsOnce i.pid (switched_at k past)
  once = i.separate.alone i.pid (among-by i.pid (switched_at k past) n i.of)

  -- what the counter of its stream has counted
  pub counted-at : (playing : Playing) (steps : PidSteps) (d : SwitchedStream) → PlaysBy playing k past steps → Counts (slice_index_or playing.streams n d).counter (steps i.pid)
  counted-at playing steps d h =
      (subst (λ o. GoesAs (slice_index_or playing.streams n d) (inside_at k past (behind_at k past)) steps o) i.of (h.streams n d low)).counter

  kept-other : (steps : PidSteps) (q : ℕ) → (q == i.pid) ≡ false → steps_kept p steps q ≡ steps q
  kept-other steps q differ = let o = off-other i.pid q p i.on_pid differ in simp o refl

  kept-own : (steps : PidSteps) → steps_kept p steps i.pid ≡ Kept p ∷ steps i.pid
  kept-own steps = let o = i.on_pid in simp o refl

  pub kept-goes : (streams : List SwitchedStream) (y : SwitchedStream) (is_in : ℕ → Bool) (steps : PidSteps) → n % 8 < length streams → Counts y.counter (Kept p ∷ steps i.pid)
      → y.is_leaving ≡ (slice_index_or streams (n % 8) y).is_leaving → AllGo streams is_in steps (switched_at k past) → AllGo (slice_set streams (n % 8) y) is_in (steps_kept p steps) (switched_at k past)
  kept-goes streams y is_in steps below counts same all =
      let was = stream-of streams y n below low is_in steps steps (switched_at k past) i.pid i.of y all in
      one-goes streams y n below low is_in (steps_kept p steps) steps (switched_at k past) i.pid i.of once (kept-other steps)
      (record { counter = subst (Counts y.counter) (sym (kept-own steps)) counts; leaving = same ∙ was.leaving }) all

  -- the units that are left out are those of before
  pub kept-taken : (units : List LeavingUnit) (streams : List SwitchedStream) (y : SwitchedStream) → n % 8 < length streams → y.is_leaving ≡ (slice_index_or streams (n % 8) y).is_leaving
      → AllTaken units streams (switched_at k past) (behind_at k past) → AllTaken units (slice_set streams (n % 8) y) (switched_at k past) (behind_at k past)
  kept-taken units streams y below same all = λ j pid u s l of leaves inside. all j pid u s l of (sym (slot-leaving streams n y below y same j s) ∙ leaves) inside

  -- THE STREAMS with the packet, and the units that are left out of them
  module _ (playing : Playing) (y d : SwitchedStream) (steps : PidSteps) (within : n < length playing.streams) (same : y.is_leaving ≡ (slice_index_or playing.streams n d).is_leaving)
      (h : PlaysBy playing k past steps) where
    small : n % 8 ≡ n
    small = small-number n low

    below : n % 8 < length playing.streams
    below = subst (λ m. m < length playing.streams) (sym small) within

    as-before : y.is_leaving ≡ (slice_index_or playing.streams (n % 8) y).is_leaving
    as-before = same ∙ ap (λ (t : SwitchedStream). t.is_leaving) (slot-old playing.streams n y below y d low)

    pub streams-kept : Counts y.counter (Kept p ∷ steps i.pid) → AllGo (slice_set playing.streams n y) (inside_at k past (behind_at k past)) (steps_kept p steps) (switched_at k past)
    streams-kept counts =
        subst (λ m. AllGo (slice_set playing.streams m y) (inside_at k past (behind_at k past)) (steps_kept p steps) (switched_at k past)) small
        (kept-goes playing.streams y (inside_at k past (behind_at k past)) steps below counts as-before h.streams)

    pub leaving-kept : AllTaken playing.leaving (slice_set playing.streams n y) (switched_at k past) (behind_at k past)
    leaving-kept =
        subst (λ m. AllTaken playing.leaving (slice_set playing.streams m y) (switched_at k past) (behind_at k past)) small
        (kept-taken playing.leaving playing.streams y below as-before h.leaving)
