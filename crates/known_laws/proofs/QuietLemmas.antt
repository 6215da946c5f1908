-- A packet that begins no unit changes nothing of what is known of an event.
use Rattle.std.proofs.Common.{◌≡◌, ℕ, List, [], ◌∷◌, Bool, true, false, not, ◌&&◌, ◌||◌, refl, ap, ◌∙◌, Option, length, map, if◌then◌else◌}
use Rattle.std.specs.Prelude.{ℤ}
use Rattle.std.specs.List.{list_any}
use Rattle.std.proofs.lemmas.Bool.{true≢false, or_parts}
use Rattle.unit_stream.specs.Times.{begins, begins_one}
use Rattle.event_table.specs.Standing.{Standing}
use Rattle.splice_laws.specs.Splicing.{PlayedEvent, SliceUnit, TimedStream, stream, at_or_past}
use Rattle.splice_laws.specs.Settled.{begun_now, closed_now, stands_now, holds_now}
use Rattle.splice_plans.specs.declared.plan.Stage.{Stage}
use Rattle.splice_plans.specs.declared.plan.Stage.TheVariants.{Waiting, Running, Over}
use Rattle.splice_plans.specs.declared.plan.Part.{Part}
use Rattle.splice_plans.specs.declared.plan.Plan.{Plan}
use Rattle.splice_plans.specs.Playing.{Adverts, History, Turns, as_played, end_known, sent_known, sent_of_begun}
use Rattle.splice_plans.specs.Known.{stage_known, crosses_known, crossed_known, padded, part_known, is_crossed_known, plan_known}

pub or-alone : (a b c d : Bool) → b ≡ false → (a || ((b && c) && d)) ≡ a
or-alone a true c d h = absurd (true≢false h)
or-alone true false c d h = refl
or-alone false false c d h = refl

pub or-beside : (a b c d : Bool) → c ≡ false → (a || (b && (c && d))) ≡ a
or-beside a b true d h = absurd (true≢false h)
or-beside true b false d h = refl
or-beside false true false d h = refl
or-beside false false false d h = refl

pub or-none : (a b c : Bool) → b ≡ false → (a || (b && c)) ≡ a
or-none a true c h = absurd (true≢false h)
or-none true false c h = refl
or-none false false c h = refl

abbrev pub stage_of : Bool → Bool → Stage
stage_of closed begun = if closed then Over else (if begun then Running else Waiting)

pub same-stage : {a b c d : Bool} → a ≡ b → c ≡ d → stage_of a c ≡ stage_of b d
same-stage {a} {b} {c} {d} h k = ap (λ x. stage_of x c) h ∙ ap (λ x. stage_of b x) k

abbrev pub a_part : Stage → ℕ → Part
a_part stage sent = record { stage = stage; sent = sent }

pub same-part : {s t : Stage} {m n : ℕ} → s ≡ t → m ≡ n → a_part s m ≡ a_part t n
same-part h k = rw (h, k) refl

abbrev pub a_plan : List Part → Bool → Plan
a_plan parts is_crossed = record { parts = parts; is_crossed = is_crossed }

pub same-plan : {a b : List Part} {c d : Bool} → a ≡ b → c ≡ d → a_plan a c ≡ a_plan b d
same-plan h k = rw (h, k) refl

module _ (r : TimedStream) (x : PlayedEvent) (known : List (List ℕ) → Option ℤ) (p : List ℕ) (past : List (List ℕ)) (none : r.begins p past ≡ false) where
  begun-still : begun_now r x known (p ∷ past) ≡ begun_now r x known past
  begun-still = or-alone (begun_now r x known past) (r.begins p past) (at_or_past x.start (r.time (p ∷ past))) (stands_now x (known (p ∷ past)) (r.high past)) none

  closed-still : closed_now r x known (p ∷ past) ≡ closed_now r x known past
  closed-still = or-beside (closed_now r x known past) (begun_now r x known (p ∷ past)) (r.begins p past) (not (holds_now x (known (p ∷ past)) (r.time (p ∷ past)))) none

  pub stage-still : stage_known r x known (p ∷ past) ≡ stage_known r x known past
  stage-still = same-stage closed-still begun-still

  pub crossed-still : crossed_known r x known (p ∷ past) ≡ crossed_known r x known past
  crossed-still = or-none (crossed_known r x known past) (r.begins p past) (crosses_known r x known (stage_known r x known past) (known (p ∷ past)) (r.time (p ∷ past))) none

pub sent-still : (turns : Turns) (r : TimedStream) (x : PlayedEvent) (known : List (List ℕ) → Option ℤ) (units : List SliceUnit) (p : List ℕ) (past : List (List ℕ)) → turns p past ≡ false
    → sent_known turns r x known units (p ∷ past) ≡ sent_known turns r x known units past
sent-still turns r x known units p past h =
    pick (turns p past) (not (closed_now r x known past) && begun_now r x known (p ∷ past)) (sent_of_begun turns r x known units p past) (sent_known turns r x known units past) h
  where
    pick : (a b : Bool) (us vs : List SliceUnit) → a ≡ false → (if a && b then us else vs) ≡ vs
    pick true b us vs e = absurd (true≢false e)
    pick false b us vs e = refl

module _ (switched : List ℕ) (ads : Adverts) (events : History) (e : Standing) (p : List ℕ) (past : List (List ℕ)) (none : begins_one switched p past ≡ false) where
  part-still : (pid : ℕ) → begins pid p past ≡ false → part_known switched ads events e (p ∷ past) pid ≡ part_known switched ads events e past pid
  part-still pid h =
      same-part (stage-still (stream switched pid) (as_played e) (end_known ads events e.start) p past h)
      (ap length (sent-still (begins_one switched) (stream switched pid) (as_played e) (end_known ads events e.start) (ads.units e pid) p past none))

  parts-still : (pids : List ℕ) → begins_one pids p past ≡ false → map (part_known switched ads events e (p ∷ past)) pids ≡ map (part_known switched ads events e past) pids
  parts-still [] h = refl
  parts-still (pid ∷ pids) h =
      let b = or_parts (begins pid p past) (begins_one pids p past) h in
      ap (λ part. part ∷ map (part_known switched ads events e (p ∷ past)) pids) (part-still pid b.0)
      ∙ ap (λ parts. part_known switched ads events e past pid ∷ parts) (parts-still pids b.1)

  any-still : (pids : List ℕ) → begins_one pids p past ≡ false → list_any (λ pid. crossed_known (stream switched pid) (as_played e) (end_known ads events e.start) (p ∷ past)) pids
      ≡ list_any (λ pid. crossed_known (stream switched pid) (as_played e) (end_known ads events e.start) past) pids
  any-still [] h = refl
  any-still (pid ∷ pids) h =
      let b = or_parts (begins pid p past) (begins_one pids p past) h in
      both (crossed-still (stream switched pid) (as_played e) (end_known ads events e.start) p past b.0) (any-still pids b.1)
    where
      both : {a b c d : Bool} → a ≡ b → c ≡ d → (a || c) ≡ (b || d)
      both h k = rw (h, k) refl

  pub any-crossed-still : is_crossed_known switched ads events (p ∷ past) e ≡ is_crossed_known switched ads events past e
  any-crossed-still = any-still switched none

  pub plan-still : plan_known switched ads events (p ∷ past) e ≡ plan_known switched ads events past e
  plan-still = same-plan (ap padded (parts-still switched none)) any-crossed-still
