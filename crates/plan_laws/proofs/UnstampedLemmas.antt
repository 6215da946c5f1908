-- A unit without a stamp has the time of the one before it, and changes nothing.
use Rattle.std.proofs.Common.{◌≡◌, ℕ, List, [], ◌∷◌, Bool, true, false, not, ◌&&◌, ◌||◌, ◌⊎◌, inl, inr, refl, sym, ap, ◌∙◌, Option, None, Some, arith}
use Rattle.std.specs.Prelude.{ℤ, ◌≤ℤ◌}
use Rattle.std.proofs.lemmas.Int.{ints}
use Rattle.std.proofs.lemmas.Bool.{true≢false, and_parts, or_left, or_right, not-false, not-true}
use lib.Signed.{le_z, lt_z}
use Rattle.ts_packet.proofs.Cases.{by_test}
use Rattle.event_table.specs.Standing.{Standing}
use Rattle.splice_laws.specs.Splicing.{PlayedEvent, TimedStream, at_or_past, below, holds, comes, opens, passed, begun, closed, break_stands}
use Rattle.splice_laws.specs.Laws.{IsStream}
use Rattle.splice_laws.specs.Settled.{begun_now, closed_now, stands_now, holds_now}
use Rattle.splice_laws.proofs.HistoryLemmas.{passed-dead, running-inside}
use Rattle.splice_plans.specs.declared.plan.Stage.{Stage}
use Rattle.splice_plans.specs.declared.plan.Stage.TheVariants.{Running, Over}
use Rattle.splice_plans.specs.Playing.{Adverts, is_played, as_played}
use Rattle.splice_plans.specs.Laws.{EndFalls, EndsFall}
use Rattle.splice_plans.specs.Known.{stage_known, below_known, crosses_known, crossed_known}
use Rattle.plan_laws.proofs.StageLemmas.{stage_by, now-closed-begun, none-begun, none-closed, begun-stays, closed-stays}
use Rattle.plan_laws.proofs.ToldLemmas.{end_if}

past-not-below : (start : ℤ) (t : Option ℤ) → at_or_past start t ≡ true → below start t ≡ false
past-not-below start None h = refl
past-not-below start (Some t) h = grind (arith, ints)

held-past : (x : PlayedEvent) (o t : Option ℤ) → holds_now x o t ≡ true → at_or_past x.start t ≡ true
held-past x None t h = absurd (true≢false (sym h))
held-past x (Some o) None h = absurd (true≢false (sym h))
held-past x (Some o) (Some t) h = (and_parts (le_z x.start t) (lt_z t o) h).0

-- a time below the end that does not lie in the event lies below the start
not-held-below : (r : TimedStream) (x : PlayedEvent) (known : List (List ℕ) → Option ℤ) (o t : Option ℤ) → below_known r x known o t ≡ true → holds_now x o t ≡ false → (at_or_past x.start t ≡ false) × (below x.start t ≡ true)
not-held-below r x known None t b h = absurd (true≢false (sym b))
not-held-below r x known (Some o) None b h = absurd (true≢false (sym b))
not-held-below r x known (Some o) (Some t) b h =
    let s : le_z x.start t ≡ false = by (le_z x.start t) (lt_z t o) b h in
    (s, low x.start t s)
  where
    by : (s l : Bool) → l ≡ true → (s && l) ≡ false → s ≡ false
    by true l k h = absurd (true≢false (sym k ∙ h))
    by false l k h = refl

    low : (a t : ℤ) → le_z a t ≡ false → lt_z t a ≡ true
    low a t h = grind (arith, ints)

below-earlier : (r : TimedStream) (x : PlayedEvent) (known : List (List ℕ) → Option ℤ) (a b t h : Option ℤ) → EndFalls h a b → below_known r x known b t ≡ true → a ≡ None ⊎ (below_known r x known a t ≡ true)
below-earlier r x known None b t h f k = inl refl
below-earlier r x known (Some a) None t h f k = absurd f
below-earlier r x known (Some a) (Some b) None h f k = absurd (true≢false (sym k))
below-earlier r x known (Some a) (Some b) (Some t) h f k = inr (low a b t f.0 k)
  where
    low : (a b t : ℤ) → b ≤ℤ a → lt_z t b ≡ true → lt_z t a ≡ true
    low a b t l h = grind (arith, ints)

module _ (r : TimedStream) (k : IsStream r) where
  -- a time at or past an edge is that of a unit that has begun
  time-passed : (edge : ℤ) (past : List (List ℕ)) → at_or_past edge (r.time past) ≡ true → passed r edge past ≡ true
  time-passed edge [] h = absurd (true≢false (sym (ap (at_or_past edge) (sym k.fresh) ∙ h)))
  time-passed edge (p ∷ past) h = by_test (r.begins p past)
      (λ b. or_right (passed r edge past) (comes r edge p past) (both (r.begins p past) (at_or_past edge (r.time (p ∷ past))) b h))
      (λ b. or_left (passed r edge past) (comes r edge p past) (time-passed edge past (ap (at_or_past edge) (sym (k.steady p past b)) ∙ h)))
    where
      both : (a b : Bool) → a ≡ true → b ≡ true → (a && b) ≡ true
      both a b h k = rw h k

  module _ (x : PlayedEvent) (p : List ℕ) (past : List (List ℕ)) (same : r.time (p ∷ past) ≡ r.time past) where
    opens-not : begun r x past ≡ false → opens r x p past ≡ false
    opens-not n = by_test (passed r x.start past)
        (λ y. right (comes r x.start p past) (break_stands x (r.high past)) (passed-dead r k x past y n))
        (λ y. left (r.begins p past) (at_or_past x.start (r.time (p ∷ past))) (break_stands x (r.high past)) (ap (at_or_past x.start) same ∙ by_test (at_or_past x.start (r.time past)) (λ z. absurd (true≢false (sym (time-passed x.start past z) ∙ y))) (λ z. z)))
      where
        right : (a b : Bool) → b ≡ false → (a && b) ≡ false
        right true b h = h
        right false b h = refl

        left : (g a s : Bool) → a ≡ false → ((g && a) && s) ≡ false
        left true true s h = absurd (true≢false h)
        left true false s h = refl
        left false a s h = refl

    begun-same : begun r x (p ∷ past) ≡ begun r x past
    begun-same = by_test (begun r x past)
        (λ y. or_left (begun r x past) (opens r x p past) y ∙ sym y)
        (λ n. ap (λ o. begun r x past || o) (opens-not n) ∙ or-false (begun r x past))
      where
        or-false : (a : Bool) → (a || false) ≡ a
        or-false true = refl
        or-false false = refl

    closed-same : closed r x (p ∷ past) ≡ closed r x past
    closed-same = by_test (closed r x past)
        (λ y. or_left (closed r x past) _ y ∙ sym y)
        (λ n. ap (λ g. closed r x past || (g && (r.begins p past && not (holds x (r.time (p ∷ past)))))) begun-same
        ∙ ap (λ t. closed r x past || (begun r x past && (r.begins p past && not (holds x t)))) same
        ∙ by_test (begun r x past)
        (λ b. inside (closed r x past) (begun r x past) (r.begins p past) (holds x (r.time past)) (running-inside r k x past b n))
        (λ b. outside (closed r x past) (begun r x past) _ b))
      where
        inside : (c b g h : Bool) → h ≡ true → (c || (b && (g && not h))) ≡ c
        inside c b g h y = rw y (by c b g)
          where
            by : (c b g : Bool) → (c || (b && (g && false))) ≡ c
            by true b g = refl
            by false true true = refl
            by false true false = refl
            by false false g = refl

        outside : (c b g : Bool) → b ≡ false → (c || (b && g)) ≡ c
        outside true b g h = refl
        outside false b g h = rw h refl

-- ---- by what is known

module _ (r : TimedStream) (k : IsStream r) (x : PlayedEvent) (known : List (List ℕ) → Option ℤ) (falls : EndsFall r x known) where
  now-inside : (past : List (List ℕ)) → begun_now r x known past ≡ true → closed_now r x known past ≡ false → at_or_past x.start (r.time past) ≡ true
  now-inside [] b c = absurd (true≢false (sym b))
  now-inside (p ∷ past) b c = by_test (r.begins p past)
      (λ g. held-past x (known (p ∷ past)) (r.time (p ∷ past)) (opened (closed_now r x known past) (begun_now r x known (p ∷ past)) (r.begins p past) (holds_now x (known (p ∷ past)) (r.time (p ∷ past))) b g c))
      (λ g. ap (at_or_past x.start) (k.steady p past g) ∙ now-inside past (sym (begun-stays r x known p past g) ∙ b) (sym (closed-stays r x known p past g) ∙ c))
    where
      opened : (c b g h : Bool) → b ≡ true → g ≡ true → (c || (b && (g && not h))) ≡ false → h ≡ true
      opened true b g h i j l = absurd (true≢false l)
      opened false true true h i j l = not-false h l
      opened false true false h i j l = absurd (true≢false (sym j))
      opened false false g h i j l = absurd (true≢false (sym i))

  below-was : (p : List ℕ) (past : List (List ℕ)) (t : Option ℤ) → begun_now r x known past ≡ true → below_known r x known (known (p ∷ past)) t ≡ true → below_known r x known (known past) t ≡ true
  below-was p past t b h = by (below-earlier r x known (known past) (known (p ∷ past)) t (r.high past) (falls p past b) h)
    where
      by : (known past ≡ None) ⊎ (below_known r x known (known past) t ≡ true) → below_known r x known (known past) t ≡ true
      by (inl n) = absurd (true≢false (sym b ∙ none-begun r x known falls past n))
      by (inr y) = y

  -- once it is closed, the last unit can lie below the end only where it crossed
  crossed-already : (past : List (List ℕ)) → closed_now r x known past ≡ true → below_known r x known (known past) (r.time past) ≡ true → crossed_known r x known past ≡ true
  crossed-already [] c h = absurd (true≢false (sym c))
  crossed-already (p ∷ past) c h = by_test (r.begins p past)
      (λ g. or_right (crossed_known r x known past) _ (both (r.begins p past) _ g (by_test (closed_now r x known past) over (λ n. closes n g))))
      (λ g. or_left (crossed_known r x known past) _ (
      let was = sym (closed-stays r x known p past g) ∙ c in
      crossed-already past was (below-was p past (r.time past) (now-closed-begun r x known past was) (ap (below_known r x known (known (p ∷ past))) (sym (k.steady p past g)) ∙ h))))
    where
      both : (a b : Bool) → a ≡ true → b ≡ true → (a && b) ≡ true
      both a b h k = rw h k

      at-stage : (s : Stage) → stage_known r x known past ≡ s → crosses_known r x known s (known (p ∷ past)) (r.time (p ∷ past)) ≡ true → crosses_known r x known (stage_known r x known past) (known (p ∷ past)) (r.time (p ∷ past)) ≡ true
      at-stage s e y = ap (λ s. crosses_known r x known s (known (p ∷ past)) (r.time (p ∷ past))) e ∙ y

      over : closed_now r x known past ≡ true → crosses_known r x known (stage_known r x known past) (known (p ∷ past)) (r.time (p ∷ past)) ≡ true
      over y = at-stage Over (ap (λ c. stage_by c (begun_now r x known past)) y) h

      closes : closed_now r x known past ≡ false → r.begins p past ≡ true → crosses_known r x known (stage_known r x known past) (known (p ∷ past)) (r.time (p ∷ past)) ≡ true
      closes n g =
          let parts = shut-by (closed_now r x known past) (begun_now r x known (p ∷ past)) (r.begins p past) (holds_now x (known (p ∷ past)) (r.time (p ∷ past))) n c in
          let low = not-held-below r x known (known (p ∷ past)) (r.time (p ∷ past)) h parts.1 in
          let was : begun_now r x known past ≡ true = began (begun_now r x known past) (r.begins p past) (at_or_past x.start (r.time (p ∷ past))) (stands_now x (known (p ∷ past)) (r.high past)) low.0 parts.0 in
          at-stage Running (ap (λ c. stage_by c (begun_now r x known past)) n ∙ ap (stage_by false) was) low.1
        where
          shut-by : (c b g h : Bool) → c ≡ false → (c || (b && (g && not h))) ≡ true → (b ≡ true) × (h ≡ false)
          shut-by true b g h n y = absurd (true≢false n)
          shut-by false b g h n y = let a = and_parts b (g && not h) y in (a.0, not-true h (and_parts g (not h) a.1).1)

          began : (b g a s : Bool) → a ≡ false → (b || ((g && a) && s)) ≡ true → b ≡ true
          began true g a s n y = refl
          began false true a s n y = absurd (true≢false (sym (and_parts a s y).0 ∙ n))
          began false false a s n y = absurd (true≢false (sym y))

-- ---- a unit without a stamp

module _ (r : TimedStream) (k : IsStream r) (ads : Adverts) (e : Standing) (known : List (List ℕ) → Option ℤ) (falls : EndsFall r (as_played e) known) (p : List ℕ) (past : List (List ℕ))
    (before : known past ≡ end_if ads e) (now : known (p ∷ past) ≡ end_if ads e) (same : r.time (p ∷ past) ≡ r.time past)
    (settled : is_played ads e ≡ true → (begun_now r (as_played e) known past ≡ begun r (as_played e) past) × (closed_now r (as_played e) known past ≡ closed r (as_played e) past))
    (settled_now : is_played ads e ≡ true → (begun_now r (as_played e) known (p ∷ past) ≡ begun r (as_played e) (p ∷ past)) × (closed_now r (as_played e) known (p ∷ past) ≡ closed r (as_played e) (p ∷ past))) where
  abbrev x : PlayedEvent
  x = as_played e

  none-if : is_played ads e ≡ false → end_if ads e ≡ None
  none-if n = rw n refl

  pub unstamped-begun : begun_now r x known (p ∷ past) ≡ begun_now r x known past
  unstamped-begun = by_test (is_played ads e)
      (λ y. (settled_now y).0 ∙ begun-same r k x p past same ∙ sym (settled y).0)
      (λ n. none-begun r x known falls (p ∷ past) (now ∙ none-if n) ∙ sym (none-begun r x known falls past (before ∙ none-if n)))

  pub unstamped-closed : closed_now r x known (p ∷ past) ≡ closed_now r x known past
  unstamped-closed = by_test (is_played ads e)
      (λ y. (settled_now y).1 ∙ closed-same r k x p past same ∙ sym (settled y).1)
      (λ n. none-closed r x known falls (p ∷ past) (now ∙ none-if n) ∙ sym (none-closed r x known falls past (before ∙ none-if n)))

  pub unstamped-stage : stage_known r x known (p ∷ past) ≡ stage_known r x known past
  unstamped-stage = ap (λ c. stage_by c (begun_now r x known (p ∷ past))) unstamped-closed ∙ ap (stage_by (closed_now r x known past)) unstamped-begun

  abbrev crosses_at : Stage → Bool
  crosses_at s = crosses_known r x known s (known (p ∷ past)) (r.time (p ∷ past))

  pub unstamped-crossed : crossed_known r x known (p ∷ past) ≡ crossed_known r x known past
  unstamped-crossed = by_test (crossed_known r x known past)
      (λ y. or_left (crossed_known r x known past) _ y ∙ sym y)
      (λ n. none (crossed_known r x known past) (r.begins p past) _ (by_test (closed_now r x known past) (over n) opened))
    where
      none : (c g z : Bool) → z ≡ false → (c || (g && z)) ≡ c
      none true g z h = refl
      none false true z h = h
      none false false z h = refl

      over : crossed_known r x known past ≡ false → closed_now r x known past ≡ true → crosses_at (stage_known r x known past) ≡ false
      over n c = ap crosses_at (ap (λ c. stage_by c (begun_now r x known past)) c)
          ∙ ap (λ o. below_known r x known o (r.time (p ∷ past))) (now ∙ sym before) ∙ ap (below_known r x known (known past)) same
          ∙ by_test (below_known r x known (known past) (r.time past)) (λ y. absurd (true≢false (sym (crossed-already r k x known falls past c y) ∙ n))) (λ z. z)

      opened : closed_now r x known past ≡ false → crosses_at (stage_known r x known past) ≡ false
      opened c = ap crosses_at (ap (λ c. stage_by c (begun_now r x known past)) c) ∙ by_test (begun_now r x known past)
          (λ b. ap crosses_at (ap (stage_by false) b) ∙ ap (below x.start) same ∙ past-not-below x.start (r.time past) (now-inside r k x known falls past b c))
          (λ b. ap crosses_at (ap (stage_by false) b))
