-- Nothing is put in between unit starts.
use Rattle.std.proofs.Common.{◌≡◌, ℕ, ◌∷◌, ◌++◌, [], List, Bool, true, false, not, ◌&&◌, if◌then◌else◌, length, drop, refl, ap, ◌∙◌}
use Rattle.std.specs.Prelude.{ℤ, Option, map, flat_map}
use Rattle.std.proofs.lemmas.Bool.{true≢false}
use Rattle.std.proofs.Math.Seq.{drop-length}
use Rattle.unit_stream.specs.Times.{begins_one}
use Rattle.event_table.specs.Standing.{Standing}
use Rattle.splice_laws.specs.Splicing.{PlayedEvent, SliceUnit, TimedStream, stream}
use Rattle.splice_laws.specs.Settled.{begun_now, closed_now}
use Rattle.output_laws.specs.Output.{Put}
use Rattle.splice_plans.specs.Playing.{Turns, played, as_played, end_known, sent_of_begun, sent_known, due_at, closing_at, running_at}
use Rattle.splice_plans.specs.Switching.{puts_by}
use Rattle.splice_plans.specs.Laws.{PutsAtUnitStarts}

none-either : (b : Bool) (us : List SliceUnit) → us ≡ [] → (if b then us else []) ≡ []
none-either true us h = h
none-either false us h = refl

none-or : (b : Bool) (us : List SliceUnit) → us ≡ [] → (if b then [] else us) ≡ []
none-or true us h = refl
none-or false us h = h

module _ (turns : Turns) (r : TimedStream) (x : PlayedEvent) (known : List (List ℕ) → Option ℤ) (units : List SliceUnit) (p : List ℕ) (past : List (List ℕ)) (h : turns p past ≡ false) where
  same : sent_known turns r x known units (p ∷ past) ≡ sent_known turns r x known units past
  same = pick (turns p past) (not (closed_now r x known past) && begun_now r x known (p ∷ past)) (sent_of_begun turns r x known units p past) (sent_known turns r x known units past) h
    where
      pick : (a b : Bool) (us vs : List SliceUnit) → a ≡ false → (if a && b then us else vs) ≡ vs
      pick true b us vs e = absurd (true≢false e)
      pick false b us vs e = refl

  none-due : due_at turns r x known units p past ≡ []
  none-due = ap (λ us. drop (length (sent_known turns r x known units past)) us) same ∙ drop-length (sent_known turns r x known units past)

  none-closing : closing_at turns r x known units p past ≡ []
  none-closing = none-either (closed_now r x known (p ∷ past)) (due_at turns r x known units p past) none-due

  none-running : running_at turns r x known units p past ≡ []
  none-running = none-or (closed_now r x known (p ∷ past)) (due_at turns r x known units p past) none-due

module _ (rule : ℕ → Standing → List SliceUnit) (none : (pid : ℕ) (e : Standing) → rule pid e ≡ []) where
  all-none : (pid : ℕ) (es : List Standing) → flat_map (rule pid) es ≡ []
  all-none pid [] = refl
  all-none pid (e ∷ es) = ap (λ us. us ++ flat_map (rule pid) es) (none pid e) ∙ all-none pid es

  puts-none : (pids : List ℕ) (es : List Standing) → puts_by pids es rule ≡ []
  puts-none [] es = refl
  puts-none (pid ∷ pids) es =
      ap (λ us. map (λ (u : SliceUnit). Put pid u) us ++ puts_by pids es rule) (all-none pid es) ∙ puts-none pids es

pub puts_at_unit_starts : PutsAtUnitStarts
puts_at_unit_starts switched ads events p past h =
    let es = played ads (events (p ∷ past)) in
    let known : Standing → List (List ℕ) → Option ℤ = λ e. end_known ads events e.start in
    let closing : ℕ → Standing → List SliceUnit = λ pid e. closing_at (begins_one switched) (stream switched pid) (as_played e) (known e) (ads.units e pid) p past in
    let running : ℕ → Standing → List SliceUnit = λ pid e. running_at (begins_one switched) (stream switched pid) (as_played e) (known e) (ads.units e pid) p past in
    ap (λ ms. ms ++ puts_by switched es running)
    (puts-none closing (λ pid e. none-closing (begins_one switched) (stream switched pid) (as_played e) (known e) (ads.units e pid) p past h) switched es)
    ∙ puts-none running (λ pid e. none-running (begins_one switched) (stream switched pid) (as_played e) (known e) (ads.units e pid) p past h) switched es
