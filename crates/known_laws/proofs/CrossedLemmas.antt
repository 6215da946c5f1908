-- Which events a stream has crossed, as it was known then and as the last ends say.
use Rattle.std.proofs.Common.{◌≡◌, ℕ, List, [], ◌∷◌, Bool, true, false, not, ◌&&◌, ◌||◌, ◌⊎◌, inl, inr, refl, sym, ap, ◌∙◌, Option, None, Some}
use Rattle.std.specs.Prelude.{ℤ, ◌≤ℤ◌, is_some}
use Rattle.std.proofs.lemmas.Bool.{true≢false, or_left, or_right}
use Rattle.ts_packet.proofs.Cases.{by_test}
use Rattle.splice_laws.specs.Splicing.{PlayedEvent, TimedStream, at_or_past, below, holds, break_stands, comes, passed, begun, closed}
use Rattle.splice_laws.specs.Laws.{IsStream}
use Rattle.splice_laws.specs.Settled.{IsAhead, IsSettled, NeverPassesHigh}
use Rattle.splice_laws.proofs.EndLemmas.{not-ahead}
use Rattle.splice_laws.proofs.TimeLemmas.{holds-below, not-below, timed_past}
use Rattle.splice_laws.proofs.HistoryLemmas.{passed-lower, begun-passed, passed-dead}
use Rattle.splice_laws.proofs.TableLemmas.{ahead-before}
use Rattle.splice_plans.specs.declared.plan.Stage.{Stage}
use Rattle.splice_plans.specs.declared.plan.Stage.TheVariants.{Waiting, Running, Over}
use Rattle.splice_plans.specs.Playing.{is_crossed}
use Rattle.splice_plans.specs.Known.{stage_known, below_known, crosses_known, crossed_known}
use Rattle.armed_laws.proofs.MeetLemmas.{same-low}
use Rattle.known_laws.proofs.QuietLemmas.{stage_of, crossed-still}
use Rattle.known_laws.proofs.CrossLemmas.{SettledAll, stage-settled, begun-behind, below-more, below-less, out-below, past-below, new-closed, new-begun}

first-closed : (a b g d : Bool) → a ≡ false → (a || (b && (g && d))) ≡ true → (b ≡ true) × (g ≡ true)
first-closed true b g d n h = absurd (true≢false n)
first-closed false true true d n h = (refl, refl)
first-closed false true false d n h = absurd (true≢false (sym h))
first-closed false false g d n h = absurd (true≢false (sym h))

not-left : (a b g d : Bool) → (a || (b && (g && not d))) ≡ false → b ≡ true → g ≡ true → (a ≡ false) × (d ≡ true)
not-left true b g d h k l = absurd (true≢false h)
not-left false true true true h k l = (refl, refl)
not-left false true true false h k l = absurd (true≢false h)
not-left false false g d h k l = absurd (true≢false (sym k))
not-left false true false d h k l = absurd (true≢false (sym l))

still-open : (a b g d : Bool) → g ≡ false → (a || (b && (g && d))) ≡ false → a ≡ false
still-open true b g d n h = h
still-open false b g d n h = refl

still-begun : (a g c d : Bool) → g ≡ false → (a || ((g && c) && d)) ≡ true → a ≡ true
still-begun true g c d n h = refl
still-begun false true c d n h = absurd (true≢false n)
still-begun false false c d n h = h

new-stands : (a b c d : Bool) → a ≡ false → (a || ((b && c) && d)) ≡ true → d ≡ true
new-stands true b c d n h = absurd (true≢false n)
new-stands false true true true n h = refl
new-stands false true true false n h = h
new-stands false true false d n h = absurd (true≢false (sym h))
new-stands false false c d n h = absurd (true≢false (sym h))

neither : (a b c : Bool) → a ≡ false → c ≡ false → (a || (b && c)) ≡ false
neither true b c h k = h
neither false true c h k = k
neither false false c h k = refl

came : (p c : Bool) → p ≡ false → (p || c) ≡ true → c ≡ true
came true c n h = absurd (true≢false n)
came false c n h = h

came-past : (g c : Bool) → (g && c) ≡ true → c ≡ true
came-past true c h = h
came-past false c h = absurd (true≢false (sym h))

both-true : (a g b c : Bool) → g ≡ true → b ≡ true → c ≡ true → (a || (g && (b && c))) ≡ true
both-true true g b c h k l = refl
both-true false g b c h k l = rw (h, k, l) refl

-- ---- sums of tests

over-sum : (cs bs ce be g ps pe : Bool) → (bs ≡ true → be ≡ true) → g ≡ true → ps ≡ true → pe ≡ true → ((cs || ce) || be) ≡ ((cs || (g && (ps && bs))) || (ce || (g && (pe && be))))
over-sum true bs ce be g ps pe i h j k = refl
over-sum false true true be g ps pe i h j k = rw (h, j) refl
over-sum false true false be g ps pe i h j k = let b = i refl in rw (h, j, b) refl
over-sum false false true be g ps pe i h j k = rw (h, j) refl
over-sum false false false be g ps pe i h j k = rw (h, j, k) refl

running-sum : (cs bs ce be g ps pe : Bool) → g ≡ true → ps ≡ true → pe ≡ false → ((cs || ce) || bs) ≡ ((cs || (g && (ps && bs))) || (ce || (g && (pe && be))))
running-sum true bs ce be g ps pe h j k = refl
running-sum false true true be g ps pe h j k = rw (h, j) refl
running-sum false true false be g ps pe h j k = rw (h, j) refl
running-sum false false true be g ps pe h j k = rw (h, j) refl
running-sum false false false be g ps pe h j k = rw (h, j, k) refl

waiting-sum : (cs ce a b : Bool) → (a ≡ true → cs ≡ true) → (b ≡ true → ce ≡ true) → (cs || ce) ≡ ((cs || a) || (ce || b))
waiting-sum true ce a b h k = refl
waiting-sum false ce true b h k = absurd (true≢false (sym (h refl)))
waiting-sum false true false b h k = refl
waiting-sum false false false true h k = absurd (true≢false (sym (k refl)))
waiting-sum false false false false h k = refl

quiet-sum : (c cs ce a b : Bool) → c ≡ (cs || ce) → a ≡ false → b ≡ false → c ≡ ((cs || a) || (ce || b))
quiet-sum c true ce a b h i j = h
quiet-sum c false true a b h i j = rw (i, h) refl
quiet-sum c false false a b h i j = rw (i, j, h) refl

-- ---- an edge

module _ (r : TimedStream) (k : IsStream r) where
  -- a unit below an edge that the stream has passed has crossed it
  edge-crossed : (edge : ℤ) (past : List (List ℕ)) → passed r edge past ≡ true → below edge (r.time past) ≡ true → is_crossed r edge past ≡ true
  edge-crossed edge [] h b = h
  edge-crossed edge (p ∷ past) h b = by_test (r.begins p past)
      (λ y. by_test (passed r edge past)
      (λ was. both-true (is_crossed r edge past) (r.begins p past) (passed r edge past) (below edge (r.time (p ∷ past))) y was b)
      (λ was. absurd (past-below edge (r.time (p ∷ past)) (came-past (r.begins p past) _ (came (passed r edge past) (comes r edge p past) was h)) b)))
      (λ n. or_left (is_crossed r edge past) _ (edge-crossed edge past (only (passed r edge past) (r.begins p past) (at_or_past edge (r.time (p ∷ past))) n h) (ap (below edge) (sym (k.steady p past n)) ∙ b)))
    where
      only : (a g c : Bool) → g ≡ false → (a || (g && c)) ≡ true → a ≡ true
      only true g c n h = refl
      only false true c n h = absurd (true≢false n)
      only false false c n h = h

  passed-behind : NeverPassesHigh r → (edge : ℤ) (past : List (List ℕ)) → passed r edge past ≡ true → IsAhead (r.high past) edge → ⊥
  passed-behind w edge [] h a = true≢false (sym h)
  passed-behind w edge (p ∷ past) h a = by_test (passed r edge past)
      (λ was. passed-behind w edge past was (ahead-before (r.high past) (r.high (p ∷ past)) edge (k.rises p past) a))
      (λ was. not-ahead edge (r.time (p ∷ past)) (r.high (p ∷ past)) (w (p ∷ past)) (came-past (r.begins p past) _ (came (passed r edge past) (comes r edge p past) was h)) a)

  module _ (x : PlayedEvent) (order : x.start ≤ℤ x.stop) where
    stop-start : (past : List (List ℕ)) → passed r x.start past ≡ false → passed r x.stop past ≡ false
    stop-start past n = by_test (passed r x.stop past) (λ y. absurd (true≢false (sym (passed-lower r k x.start x.stop order past y) ∙ n))) (λ m. m)

    -- while it runs the stream has not passed its end
    running-short : (past : List (List ℕ)) → begun r x past ≡ true → closed r x past ≡ false → passed r x.stop past ≡ false
    running-short [] b c = refl
    running-short (p ∷ past) b c = by_test (r.begins p past)
        (λ y.
        let inside = not-left (closed r x past) (begun r x (p ∷ past)) (r.begins p past) (holds x (r.time (p ∷ past))) c b y in
        let low = holds-below x (r.time (p ∷ past)) x.stop inside.1 (same-low x.stop) in
        neither (passed r x.stop past) (r.begins p past) (at_or_past x.stop (r.time (p ∷ past)))
        (by_test (begun r x past)
        (λ was. running-short past was inside.0)
        (λ was. stop-start past (by_test (passed r x.start past)
        (λ before. absurd (true≢false (sym (new-stands (begun r x past) (r.begins p past) (at_or_past x.start (r.time (p ∷ past))) (break_stands x (r.high past)) was b) ∙ passed-dead r k x past before was)))
        (λ before. before)))) low)
        (λ n. ap (λ g. passed r x.stop past || (g && at_or_past x.stop (r.time (p ∷ past)))) n
        ∙ alone (passed r x.stop past) (running-short past
        (still-begun (begun r x past) (r.begins p past) (at_or_past x.start (r.time (p ∷ past))) (break_stands x (r.high past)) n b)
        (still-open (closed r x past) (begun r x (p ∷ past)) (r.begins p past) (not (holds x (r.time (p ∷ past)))) n c)))
      where
        alone : (a : Bool) → a ≡ false → (a || false) ≡ false
        alone a h = rw h refl

    begun-timed : (past : List (List ℕ)) → begun r x past ≡ true → is_some (r.time past) ≡ true
    begun-timed [] b = absurd (true≢false (sym b))
    begun-timed (p ∷ past) b = by_test (begun r x past)
        (λ was. k.timed p past (begun-timed past was))
        (λ was. timed_past x.start (r.time (p ∷ past)) (new-begun (begun r x past) (r.begins p past) (at_or_past x.start (r.time (p ∷ past))) (break_stands x (r.high past)) was b))

    -- where it is closed, the stream has passed its end, or has crossed its start
    closed-how : (past : List (List ℕ)) → closed r x past ≡ true → (passed r x.stop past ≡ true) ⊎ (is_crossed r x.start past ≡ true)
    closed-how [] c = absurd (true≢false (sym c))
    closed-how (p ∷ past) c = by_test (closed r x past) (λ was. keep (closed-how past was)) new
      where
        keep : (passed r x.stop past ≡ true) ⊎ (is_crossed r x.start past ≡ true) → (passed r x.stop (p ∷ past) ≡ true) ⊎ (is_crossed r x.start (p ∷ past) ≡ true)
        keep (inl h) = inl (or_left (passed r x.stop past) _ h)
        keep (inr h) = inr (or_left (is_crossed r x.start past) _ h)

        new : closed r x past ≡ false → (passed r x.stop (p ∷ past) ≡ true) ⊎ (is_crossed r x.start (p ∷ past) ≡ true)
        new was =
            let parts = first-closed (closed r x past) (begun r x (p ∷ past)) (r.begins p past) (not (holds x (r.time (p ∷ past)))) was c in
            let out = new-closed (closed r x past) (begun r x (p ∷ past)) (r.begins p past) (holds x (r.time (p ∷ past))) was c in
            by_test (below x.stop (r.time (p ∷ past)))
            (λ b.
            let low = out-below x (r.time (p ∷ past)) out b in
            by_test (begun r x past)
            (λ ran. inr (both-true (is_crossed r x.start past) (r.begins p past) (passed r x.start past) (below x.start (r.time (p ∷ past))) parts.1 (begun-passed r k x past ran) low))
            (λ ran. absurd (past-below x.start (r.time (p ∷ past))
            (new-begun (begun r x past) (r.begins p past) (at_or_past x.start (r.time (p ∷ past))) (break_stands x (r.high past)) ran parts.0) low)))
            (λ b.
            let top = not-below x.stop (r.time (p ∷ past)) b (begun-timed (p ∷ past) parts.0) in
            inl (or_right (passed r x.stop past) (r.begins p past && at_or_past x.stop (r.time (p ∷ past))) (and-both (r.begins p past) _ parts.1 top)))
          where
            and-both : (a b : Bool) → a ≡ true → b ≡ true → (a && b) ≡ true
            and-both a b h k = rw (h, k) refl

    -- ---- what was known

    abbrev pub AllNear : List (List ℕ) → Type 0
    AllNear [] = Unit {0}
    AllNear (p ∷ past) = (r.begins p past ≡ true → break_stands x (r.high past) ≡ false → (r.time (p ∷ past) ≡ r.time past) ⊎ (below x.stop (r.time (p ∷ past)) ≡ false)) × AllNear past

    module _ (w : NeverPassesHigh r) (known : List (List ℕ) → Option ℤ) where
      abbrev crossed_in_all : List (List ℕ) → Bool
      crossed_in_all past = is_crossed r x.start past || is_crossed r x.stop past

      module _ (p : List ℕ) (past : List (List ℕ)) (s : SettledAll r k w x known (p ∷ past)) (near : AllNear (p ∷ past)) (before : crossed_known r x known past ≡ crossed_in_all past) where
        abbrev t : Option ℤ
        t = r.time (p ∷ past)

        stage-by : (c b : Bool) → closed r x past ≡ c → begun r x past ≡ b → stage_known r x known past ≡ stage_of c b
        stage-by c b h j = stage-settled r k w x known past s.1 ∙ ap (λ a. stage_of a (begun r x past)) h ∙ ap (λ a. stage_of c a) j

        at-stage : (stage : Stage) → stage_known r x known past ≡ stage → r.begins p past ≡ true
            → crossed_known r x known (p ∷ past) ≡ (crossed_in_all past || crosses_known r x known stage (known (p ∷ past)) t)
        at-stage stage is y =
            ap (λ a. crossed_known r x known past || (a && crosses_known r x known (stage_known r x known past) (known (p ∷ past)) t)) y
            ∙ ap (λ st. crossed_known r x known past || crosses_known r x known st (known (p ∷ past)) t) is
            ∙ ap (λ a. a || crosses_known r x known stage (known (p ∷ past)) t) before

        end-is : passed r x.stop past ≡ true → (stop : Option ℤ) → IsSettled x stop (r.high (p ∷ past)) → begun r x past ≡ true → below_known r x known stop t ≡ below x.stop t
        end-is h None st b = absurd (begun-behind r k w x known past b (ahead-before (r.high past) (r.high (p ∷ past)) x.start (k.rises p past) st))
        end-is h (Some stop) (inl is) b = ap (λ e. below e t) is
        end-is h (Some stop) (inr a) b = absurd (passed-behind w x.stop past h (ahead-before (r.high past) (r.high (p ∷ past)) x.stop (k.rises p past) a.0))

        when-over : r.begins p past ≡ true → closed r x past ≡ true → begun r x past ≡ true → (passed r x.stop past ≡ true) ⊎ (is_crossed r x.start past ≡ true) → crossed_known r x known (p ∷ past) ≡ crossed_in_all (p ∷ past)
        when-over y c b (inl h) =
            at-stage Over (stage-settled r k w x known past s.1 ∙ ap (λ a. stage_of a (begun r x past)) c) y
            ∙ ap (λ a. crossed_in_all past || a) (end-is h (known (p ∷ past)) s.0 b)
            ∙ over-sum (is_crossed r x.start past) (below x.start t) (is_crossed r x.stop past) (below x.stop t) (r.begins p past) (passed r x.start past) (passed r x.stop past)
            (below-more x.start x.stop t order) y (begun-passed r k x past b) h
        when-over y c b (inr h) =
            or_left (crossed_known r x known past) _ (before ∙ or_left (is_crossed r x.start past) _ h)
            ∙ sym (or_left (is_crossed r x.start (p ∷ past)) _ (or_left (is_crossed r x.start past) _ h))

        when-running : r.begins p past ≡ true → closed r x past ≡ false → begun r x past ≡ true → crossed_known r x known (p ∷ past) ≡ crossed_in_all (p ∷ past)
        when-running y c b =
            at-stage Running (stage-by false true c b) y
            ∙ running-sum (is_crossed r x.start past) (below x.start t) (is_crossed r x.stop past) (below x.stop t) (r.begins p past) (passed r x.start past) (passed r x.stop past)
            y (begun-passed r k x past b) (running-short past b c)

        and-parts : (g a b : Bool) → (g && (a && b)) ≡ true → (a ≡ true) × (b ≡ true)
        and-parts true true true h = (refl, refl)
        and-parts true true false h = absurd (true≢false (sym h))
        and-parts true false b h = absurd (true≢false (sym h))
        and-parts false a b h = absurd (true≢false (sym h))

        again : (edge : ℤ) → (t ≡ r.time past) ⊎ (below x.stop t ≡ false) → edge ≤ℤ x.stop → (r.begins p past && (passed r edge past && below edge t)) ≡ true → is_crossed r edge past ≡ true
        again edge (inl same) low h = let a = and-parts (r.begins p past) (passed r edge past) (below edge t) h in edge-crossed edge past a.0 (ap (below edge) (sym same) ∙ a.1)
        again edge (inr far) low h = let a = and-parts (r.begins p past) (passed r edge past) (below edge t) h in absurd (true≢false (sym a.1 ∙ below-less edge x.stop t low far))

        when-waiting : r.begins p past ≡ true → closed r x past ≡ false → begun r x past ≡ false → crossed_known r x known (p ∷ past) ≡ crossed_in_all (p ∷ past)
        when-waiting y c b =
            at-stage Waiting (stage-by false false c b) y
            ∙ alone (crossed_in_all past)
            ∙ by_test (passed r x.start past)
            (λ h.
            let n = near.0 y (passed-dead r k x past h b) in
            waiting-sum (is_crossed r x.start past) (is_crossed r x.stop past) (r.begins p past && (passed r x.start past && below x.start t)) (r.begins p past && (passed r x.stop past && below x.stop t))
            (again x.start n order) (again x.stop n (same-low x.stop)))
            (λ h. waiting-sum (is_crossed r x.start past) (is_crossed r x.stop past) (r.begins p past && (passed r x.start past && below x.start t)) (r.begins p past && (passed r x.stop past && below x.stop t))
            (λ z. absurd (true≢false (sym (and-parts (r.begins p past) (passed r x.start past) (below x.start t) z).0 ∙ h)))
            (λ z. absurd (true≢false (sym (and-parts (r.begins p past) (passed r x.stop past) (below x.stop t) z).0 ∙ stop-start past h))))
          where
            alone : (a : Bool) → (a || false) ≡ a
            alone true = refl
            alone false = refl

        one-more : crossed_known r x known (p ∷ past) ≡ crossed_in_all (p ∷ past)
        one-more = by_test (r.begins p past)
            (λ y. by_test (begun r x past)
            (λ b. by_test (closed r x past) (λ c. when-over y c b (closed-how past c)) (λ c. when-running y c b))
            (λ b. by_test (closed r x past)
            (λ c. absurd (true≢false (sym (Rattle.splice_laws.proofs.HistoryLemmas.closed-begun r k x past c) ∙ b)))
            (λ c. when-waiting y c b)))
            (λ n. crossed-still r x known p past n
            ∙ quiet-sum (crossed_known r x known past) (is_crossed r x.start past) (is_crossed r x.stop past) _ _ before
            (ap (λ g. g && (passed r x.start past && below x.start t)) n) (ap (λ g. g && (passed r x.stop past && below x.stop t)) n))

      pub crossed-as : (past : List (List ℕ)) → SettledAll r k w x known past → AllNear past → crossed_known r x known past ≡ crossed_in_all past
      crossed-as [] s n = refl
      crossed-as (p ∷ past) s n = one-more p past s n (crossed-as past s.1 n.1)
