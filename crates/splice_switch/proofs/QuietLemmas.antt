-- A packet that begins no unit changes nothing of what is known of the events.
use Rattle.std.proofs.Common.{◌≡◌, ℕ, zero, suc, ◌+◌, List, [], ◌∷◌, length, Bool, false, not, ◌&&◌, ◌||◌, if◌then◌else◌, refl, sym, ap, subst, ◌∙◌}
use Rattle.std.specs.Prelude.{ℤ, Option, None, Some, map, count_by, slice_get, cond}
use Rattle.std.specs.List.{list_any, AllByRecursion}
use Rattle.std.proofs.lemmas.List.Sums.{sum_by-cons}
use Rattle.std.proofs.lemmas.Bool.{or_parts}
use Rattle.known_laws.proofs.QuietLemmas.{or-alone, or-beside, or-none, sent-still}
use Rattle.unit_stream.specs.Times.{begins, begins_one, unit_time}
use Rattle.event_table.specs.Standing.{Standing}
use Rattle.armed_events.specs.Valuing.{values_by}
use Rattle.splice_laws.specs.Splicing.{PlayedEvent, TimedStream, stream, at_or_past}
use Rattle.splice_laws.specs.Settled.{begun_now, closed_now, stands_now, holds_now}
use Rattle.splice_plans.specs.declared.plan.Stage.{Stage}
use Rattle.splice_plans.specs.declared.plan.Part.{Part}
use Rattle.splice_plans.specs.declared.plan.Plan.{Plan}
use Rattle.splice_plans.specs.declared.plan.Stage.TheVariants.{Waiting, Running, Over}
use Rattle.splice_plans.specs.Playing.{Adverts, History, as_played, end_known, is_inside, sent_known}
use Rattle.splice_plans.specs.Known.{stage_known, crosses_known, crossed_known, part_known, is_crossed_known, padded, plan_known, plan_found, plan_at}

-- ---- lists

if-not : {X : Type 0} (a b : Bool) (x y : X) → a ≡ false → (if a && b then x else y) ≡ y
if-not a b x y h = rw h refl

pub map-same : {X : Type 0} (f g : ℕ → X) (xs : List ℕ) → AllByRecursion (λ x. f x ≡ g x) xs → map f xs ≡ map g xs
map-same f g [] h = refl
map-same f g (x ∷ xs) h = ap (λ y. y ∷ map f xs) h.0 ∙ ap (λ ys. g x ∷ ys) (map-same f g xs h.1)

pub any-same : (f g : ℕ → Bool) (xs : List ℕ) → AllByRecursion (λ x. f x ≡ g x) xs → list_any f xs ≡ list_any g xs
any-same f g [] h = refl
any-same f g (x ∷ xs) h = ap (λ b. b || list_any f xs) h.0 ∙ ap (λ b. g x || b) (any-same f g xs h.1)

pub any-none : {X : Type 0} (f : X → Bool) (xs : List X) → ((x : X) → f x ≡ false) → list_any f xs ≡ false
any-none f [] h = refl
any-none f (x ∷ xs) h = ap (λ b. b || list_any f xs) (h x) ∙ any-none f xs h

pub count-same : {X : Type 0} (f g : X → Bool) (xs : List X) → ((x : X) → f x ≡ g x) → count_by f xs ≡ count_by g xs
count-same f g [] h = refl
count-same f g (x ∷ xs) h =
    sum_by-cons (λ y. cond (f y) 1 0) x xs ∙ ap (λ b. cond b 1 0 + count_by f xs) (h x) ∙ ap (λ n. cond (g x) 1 0 + n) (count-same f g xs h) ∙ sym (sum_by-cons (λ y. cond (g y) 1 0) x xs)

pub count-none : {X : Type 0} (f : X → Bool) (xs : List X) → ((x : X) → f x ≡ false) → count_by f xs ≡ 0
count-none f [] h = refl
count-none f (x ∷ xs) h = sum_by-cons (λ y. cond (f y) 1 0) x xs ∙ ap (λ b. cond b 1 0 + count_by f xs) (h x) ∙ ap (λ n. 0 + n) (count-none f xs h)

pub values-same : {T : Type 0} (f g : ℤ → T) (es : List Standing) → ((start : ℤ) → f start ≡ g start) → values_by f es ≡ values_by g es
values-same f g [] h = refl
values-same f g (e ∷ es) h = ap (λ v. v ∷ values_by f es) (h e.start) ∙ ap (λ vs. g e.start ∷ vs) (values-same f g es h)

pub each-map : {P Q : ℕ → Type 0} (xs : List ℕ) → ((x : ℕ) → P x → Q x) → AllByRecursion P xs → AllByRecursion Q xs
each-map [] f h = tt
each-map (x ∷ xs) f h = (f x h.0, each-map xs f h.1)

pub each-at : (P : ℕ → Type 0) (xs : List ℕ) (i x : ℕ) → slice_get xs i ≡ Some x → AllByRecursion P xs → P x
each-at P [] i x h all = absurd (cc)
each-at P (y ∷ ys) zero x h all = let is : y ≡ x = cc in subst P is all.0
each-at P (y ∷ ys) (suc i) x h all = each-at P ys i x h all.1

-- the packet begins a unit of none of the PIDs
abbrev pub BeginsNone : List ℕ → List ℕ → List (List ℕ) → Type 0
BeginsNone pids p past = AllByRecursion (λ pid. begins pid p past ≡ false) pids

pub begins-none : (pids : List ℕ) (p : List ℕ) (past : List (List ℕ)) → begins_one pids p past ≡ false → BeginsNone pids p past
begins-none [] p past h = tt
begins-none (pid ∷ pids) p past h = let r = or_parts (begins pid p past) (begins_one pids p past) h in (r.0, begins-none pids p past r.1)

-- ---- one event in one stream

module _ (r : TimedStream) (x : PlayedEvent) (known : List (List ℕ) → Option ℤ) (p : List ℕ) (past : List (List ℕ)) (n : r.begins p past ≡ false) where
  begun-same : begun_now r x known (p ∷ past) ≡ begun_now r x known past
  begun-same = or-alone (begun_now r x known past) (r.begins p past) (at_or_past x.start (r.time (p ∷ past))) (stands_now x (known (p ∷ past)) (r.high past)) n

  closed-same : closed_now r x known (p ∷ past) ≡ closed_now r x known past
  closed-same = or-beside (closed_now r x known past) (begun_now r x known (p ∷ past)) (r.begins p past) (not (holds_now x (known (p ∷ past)) (r.time (p ∷ past)))) n

  stage-same : stage_known r x known (p ∷ past) ≡ stage_known r x known past
  stage-same =
      ap (λ b. if b then Over else (if begun_now r x known (p ∷ past) then Running else Waiting)) closed-same
      ∙ ap (λ b. if closed_now r x known past then Over else (if b then Running else Waiting)) begun-same

  crossed-same : crossed_known r x known (p ∷ past) ≡ crossed_known r x known past
  crossed-same = or-none (crossed_known r x known past) (r.begins p past) (crosses_known r x known (stage_known r x known past) (known (p ∷ past)) (r.time (p ∷ past))) n

-- ---- the plans

made-part : Stage → ℕ → Part
made-part stage sent = record { stage = stage; sent = sent }

made-plan : List Part → Bool → Plan
made-plan parts crossed = record { parts = padded parts; is_crossed = crossed }

module _ (switched : List ℕ) (ads : Adverts) (events : History) (p : List ℕ) (past : List (List ℕ)) (none : begins_one switched p past ≡ false) where
  part-same : (e : Standing) (pid : ℕ) → begins pid p past ≡ false → part_known switched ads events e (p ∷ past) pid ≡ part_known switched ads events e past pid
  unfolding made-part
  part-same e pid n =
      let r = stream switched pid in
      let known = end_known ads events e.start in
      let sent = sent_known (begins_one switched) r (as_played e) known (ads.units e pid) in
      ap (λ s. made-part s (length (sent (p ∷ past)))) (stage-same r (as_played e) known p past n)
      ∙ ap (λ us. made-part (stage_known r (as_played e) known past) (length us)) (sent-still (begins_one switched) r (as_played e) known (ads.units e pid) p past none)

  pub crossed-known-same : (e : Standing) → is_crossed_known switched ads events (p ∷ past) e ≡ is_crossed_known switched ads events past e
  crossed-known-same e =
      any-same (λ pid. crossed_known (stream switched pid) (as_played e) (end_known ads events e.start) (p ∷ past)) (λ pid. crossed_known (stream switched pid) (as_played e) (end_known ads events e.start) past) switched
      (each-map switched (λ pid n. crossed-same (stream switched pid) (as_played e) (end_known ads events e.start) p past n) (begins-none switched p past none))

  plan-same : (e : Standing) → plan_known switched ads events (p ∷ past) e ≡ plan_known switched ads events past e
  unfolding made-plan
  plan-same e =
      ap (λ ps. made-plan ps (is_crossed_known switched ads events (p ∷ past) e))
      (map-same (part_known switched ads events e (p ∷ past)) (part_known switched ads events e past) switched (each-map switched (part-same e) (begins-none switched p past none)))
      ∙ ap (made-plan (map (part_known switched ads events e past) switched)) (crossed-known-same e)

  found-same : (o : Option Standing) → plan_found switched ads events (p ∷ past) o ≡ plan_found switched ads events past o
  found-same None = refl
  found-same (Some e) = plan-same e

  pub plan-at-same : (es : List Standing) (start : ℤ) → plan_at switched ads events (p ∷ past) es start ≡ plan_at switched ads events past es start
  plan-at-same es start = found-same (Rattle.std.specs.Prelude.find (λ e. Rattle.std.specs.Ordering.int_eq e.start start) es)

pub time-same : (switched : List ℕ) (pid : ℕ) (p : List ℕ) (past : List (List ℕ)) → begins pid p past ≡ false → unit_time switched pid (p ∷ past) ≡ unit_time switched pid past
time-same switched pid p past n = simp n refl

pub inside-same : (switched : List ℕ) (ads : Adverts) (es : List Standing) (pid : ℕ) (p : List ℕ) (past : List (List ℕ)) → begins pid p past ≡ false
    → is_inside ads es (unit_time switched pid (p ∷ past)) ≡ is_inside ads es (unit_time switched pid past)
inside-same switched ads es pid p past n = ap (is_inside ads es) (time-same switched pid p past n)
