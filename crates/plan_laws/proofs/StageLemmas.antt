-- What a unit does to one event in the stream in which it begins, and that it does nothing in the others.
use Rattle.std.proofs.Common.{◌≡◌, ℕ, List, [], ◌∷◌, Bool, true, false, not, ◌&&◌, ◌||◌, ◌⊎◌, inl, inr, refl, sym, ap, ◌∙◌, Option, None, Some, arith, if◌then◌else◌}
use Rattle.std.specs.Prelude.{ℤ, int_le, int_lt, is_some}
use Rattle.std.proofs.lemmas.Int.{ints}
use Rattle.std.proofs.lemmas.Bool.{true≢false, and_parts}
use lib.Signed.{le_z, lt_z}
use Rattle.ts_packet.proofs.Cases.{by_test}
use Rattle.event_table.specs.Standing.{Standing, covers}
use Rattle.splice_laws.specs.Splicing.{PlayedEvent, TimedStream, comes}
use Rattle.splice_laws.specs.Settled.{begun_now, closed_now, stands_now, holds_now}
use Rattle.splice_plans.specs.declared.plan.Stage.{Stage}
use Rattle.splice_plans.specs.declared.plan.Stage.TheVariants.{Waiting, Running, Closing, Over}
use Rattle.splice_plans.specs.Laws.{EndFalls, EndsFall}
use Rattle.splice_plans.specs.Turning.{turned}
use Rattle.splice_plans.specs.Parts.{is_closing}
use Rattle.splice_plans.specs.Known.{stage_known, crossed_known}

pub or-cases : (a b : Bool) → (a || b) ≡ true → (a ≡ true) ⊎ (b ≡ true)
or-cases true b h = inl refl
or-cases false b h = inr h

pub le-same : (a b : ℤ) → le_z a b ≡ int_le a b
le-same a b = grind (arith, ints)

pub lt-same : (a b : ℤ) → lt_z a b ≡ int_lt a b
lt-same a b = grind (arith, ints)

-- ---- stages by two flags

abbrev pub stage_by : Bool → Bool → Stage
stage_by c b = if c then Over else (if b then Running else Waiting)

-- one that is to close is over once its rest is out
abbrev pub shut : Stage → Stage
shut Waiting = Waiting
shut Running = Running
shut Closing = Over
shut Over = Over

abbrev pub entered_by : Bool → Stage
entered_by v = if v then Running else Closing

abbrev pub turned_by : Bool → Bool → Bool → Stage → Stage
turned_by plays s v Waiting = if plays && s then entered_by v else Waiting
turned_by plays s v Running = entered_by v
turned_by plays s v Closing = Over
turned_by plays s v Over = Over

pub turned-is : (e : Standing) (t : ℤ) (plays : Bool) (stage : Stage) → turned e t plays stage ≡ turned_by plays (int_le e.start t) (covers t e) stage
turned-is e t plays Waiting = refl
turned-is e t plays Running = refl
turned-is e t plays Closing = refl
turned-is e t plays Over = refl

-- the flags behind a unit of a time at or past the start, or not, and below the end, or not
module _ (s l : Bool) where
  abbrev v : Bool
  v = s && l

  pub step-stage : (c b : Bool) → (c ≡ true → b ≡ true) → stage_by (c || ((b || s) && not v)) (b || s) ≡ shut (turned_by true s v (stage_by c b))
  step-stage true true h = refl
  step-stage true false h = absurd (true≢false (sym (h refl)))
  step-stage false true h = by s l
    where
      by : (s l : Bool) → stage_by (false || ((true || s) && not (s && l))) (true || s) ≡ shut (turned_by true s (s && l) (stage_by false true))
      by true true = refl
      by true false = refl
      by false l = refl
  step-stage false false h = by s l
    where
      by : (s l : Bool) → stage_by (false || ((false || s) && not (s && l))) (false || s) ≡ shut (turned_by true s (s && l) (stage_by false false))
      by true true = refl
      by true false = refl
      by false l = refl

  pub step-closing : (c b : Bool) → (c ≡ true → b ≡ true) → is_closing (turned_by true s v (stage_by c b)) ≡ ((c || ((b || s) && not v)) && not c)
  step-closing true true h = refl
  step-closing true false h = absurd (true≢false (sym (h refl)))
  step-closing false true h = by s l
    where
      by : (s l : Bool) → is_closing (turned_by true s (s && l) (stage_by false true)) ≡ ((false || ((true || s) && not (s && l))) && true)
      by true true = refl
      by true false = refl
      by false l = refl
  step-closing false false h = by s l
    where
      by : (s l : Bool) → is_closing (turned_by true s (s && l) (stage_by false false)) ≡ ((false || ((false || s) && not (s && l))) && true)
      by true true = refl
      by true false = refl
      by false l = refl

-- ---- one event in one stream

some-after : (a b h : Option ℤ) → is_some a ≡ true → EndFalls h a b → is_some b ≡ true
some-after None b h s f = absurd (true≢false (sym s))
some-after (Some a) None h s f = absurd f
some-after (Some a) (Some b) h s f = refl

stands-some : (x : PlayedEvent) (o h : Option ℤ) → stands_now x o h ≡ true → is_some o ≡ true
stands-some x None h s = absurd (true≢false (sym s))
stands-some x (Some o) h s = refl

module _ (r : TimedStream) (x : PlayedEvent) (known : List (List ℕ) → Option ℤ) where
  pub now-closed-begun : (past : List (List ℕ)) → closed_now r x known past ≡ true → begun_now r x known past ≡ true
  now-closed-begun [] h = absurd (true≢false (sym h))
  now-closed-begun (p ∷ past) h = by (or-cases (closed_now r x known past) _ h) (now-closed-begun past)
    where
      or-one : (a b : Bool) → a ≡ true → (a || b) ≡ true
      or-one true b h = refl
      or-one false b h = absurd (true≢false (sym h))

      by : (closed_now r x known past ≡ true) ⊎ ((begun_now r x known (p ∷ past) && (r.begins p past && not (holds_now x (known (p ∷ past)) (r.time (p ∷ past))))) ≡ true)
          → (closed_now r x known past ≡ true → begun_now r x known past ≡ true) → begun_now r x known (p ∷ past) ≡ true
      by (inl c) before = or-one (begun_now r x known past) _ (before c)
      by (inr c) before = (and_parts (begun_now r x known (p ∷ past)) _ c).0

  pub begun-some : EndsFall r x known → (past : List (List ℕ)) → begun_now r x known past ≡ true → is_some (known past) ≡ true
  begun-some falls [] h = absurd (true≢false (sym h))
  begun-some falls (p ∷ past) h = by (or-cases (begun_now r x known past) _ h) (begun-some falls past)
    where
      by : (begun_now r x known past ≡ true) ⊎ ((comes r x.start p past && stands_now x (known (p ∷ past)) (r.high past)) ≡ true)
          → (begun_now r x known past ≡ true → is_some (known past) ≡ true) → is_some (known (p ∷ past)) ≡ true
      by (inl b) before = some-after (known past) (known (p ∷ past)) (r.high past) (before b) (falls p past b)
      by (inr c) before = stands-some x (known (p ∷ past)) (r.high past) (and_parts (comes r x.start p past) _ c).1

  pub none-begun : EndsFall r x known → (past : List (List ℕ)) → known past ≡ None → begun_now r x known past ≡ false
  none-begun falls past h = by_test (begun_now r x known past) (λ b. absurd (true≢false (sym (begun-some falls past b) ∙ ap is_some h))) (λ n. n)

  pub none-closed : EndsFall r x known → (past : List (List ℕ)) → known past ≡ None → closed_now r x known past ≡ false
  none-closed falls past h = by_test (closed_now r x known past) (λ b. absurd (true≢false (sym (now-closed-begun past b) ∙ none-begun falls past h))) (λ n. n)

  -- a packet that begins no unit of the stream changes nothing
  pub begun-stays : (p : List ℕ) (past : List (List ℕ)) → r.begins p past ≡ false → begun_now r x known (p ∷ past) ≡ begun_now r x known past
  begun-stays p past h = by (r.begins p past) (begun_now r x known past) _ _ h
    where
      by : (g b a s : Bool) → g ≡ false → (b || ((g && a) && s)) ≡ b
      by true b a s h = absurd (true≢false h)
      by false true a s h = refl
      by false false a s h = refl

  pub closed-stays : (p : List ℕ) (past : List (List ℕ)) → r.begins p past ≡ false → closed_now r x known (p ∷ past) ≡ closed_now r x known past
  closed-stays p past h = by (r.begins p past) (closed_now r x known past) _ _ h
    where
      by : (g c b a : Bool) → g ≡ false → (c || (b && (g && a))) ≡ c
      by true c b a h = absurd (true≢false h)
      by false true b a h = refl
      by false false true a h = refl
      by false false false a h = refl

  pub stage-stays : (p : List ℕ) (past : List (List ℕ)) → r.begins p past ≡ false → stage_known r x known (p ∷ past) ≡ stage_known r x known past
  stage-stays p past h = ap (λ c. stage_by c (begun_now r x known (p ∷ past))) (closed-stays p past h) ∙ ap (stage_by (closed_now r x known past)) (begun-stays p past h)

  pub crossed-stays : (p : List ℕ) (past : List (List ℕ)) → r.begins p past ≡ false → crossed_known r x known (p ∷ past) ≡ crossed_known r x known past
  crossed-stays p past h = by (r.begins p past) (crossed_known r x known past) _ h
    where
      by : (g c a : Bool) → g ≡ false → (c || (g && a)) ≡ c
      by true c a h = absurd (true≢false h)
      by false true a h = refl
      by false false a h = refl
