-- Of the events that are to close the one that starts first is the first in order of start.
use Rattle.std.proofs.Common.{◌≡◌, ℕ, zero, suc, ◌<◌, refl, sym, ap, ◌∙◌, arith, List, [], ◌∷◌, length, Bool, true, false}
use Rattle.std.specs.Prelude.{ℤ, ◌<ℤ◌, int_lt, filter, slice_index_or, slice_set}
use Rattle.std.proofs.lemmas.Int.{ints}
use Rattle.event_table.specs.Standing.{Standing}
use Rattle.pes_time.proofs.IntLemmas.{lt-is}
use Rattle.splice_plans.specs.declared.plan.Plan.{Plan}
use Rattle.splice_plans.specs.Parts.{closes_in, beside, put_pair, pairs_by_start, closing_pairs, no_entry, no_standing}

-- all of these start behind
abbrev Behind : ℤ → List (Standing × Plan) → Type 0
Behind start [] = Unit {0}
Behind start (x ∷ xs) = (start <ℤ x.0.start) × Behind start xs

lt-false : (a b : ℤ) → b <ℤ a → int_lt a b ≡ false
lt-false a b h = grind (arith, ints, h)

put-least : (x : Standing × Plan) (ys : List (Standing × Plan)) → Behind x.0.start ys → put_pair x ys ≡ x ∷ ys
put-least x [] h = refl
put-least x (y ∷ ys) h = rw (lt-is x.0.start y.0.start h.0) refl

put-later : (a x : Standing × Plan) (ys : List (Standing × Plan)) → x.0.start <ℤ a.0.start → put_pair a (x ∷ ys) ≡ x ∷ put_pair a ys
put-later a x ys h = rw (lt-false a.0.start x.0.start h) refl

behind-put : (start : ℤ) (x : Standing × Plan) (ys : List (Standing × Plan)) → start <ℤ x.0.start → Behind start ys → Behind start (put_pair x ys)
behind-put start x [] h k = (h, tt)
behind-put start x (y ∷ ys) h k = by (int_lt x.0.start y.0.start) refl (behind-put start x ys h k.1)
  where
    by : (b : Bool) → int_lt x.0.start y.0.start ≡ b → Behind start (put_pair x ys) → Behind start (put_pair x (y ∷ ys))
    by true is later = rw is (h, k)
    by false is later = rw is (k.0, later)

behind-sorted : (start : ℤ) (xs : List (Standing × Plan)) → Behind start xs → Behind start (pairs_by_start xs)
behind-sorted start [] h = tt
behind-sorted start (x ∷ xs) h = behind-put start x (pairs_by_start xs) h.0 (behind-sorted start xs h.1)

module _ (stream : ℕ) where
  abbrev pub closes : Standing × Plan → Bool
  closes x = closes_in stream x.1

  filter-true : (x : Standing × Plan) (xs : List (Standing × Plan)) → closes x ≡ true → filter closes (x ∷ xs) ≡ x ∷ filter closes xs
  filter-true x xs h = rw h refl

  filter-false : (x : Standing × Plan) (xs : List (Standing × Plan)) → closes x ≡ false → filter closes (x ∷ xs) ≡ filter closes xs
  filter-false x xs h = rw h refl

  closing-true : (x : Standing × Plan) (xs : List (Standing × Plan)) → closes x ≡ true → closing_pairs stream (x ∷ xs) ≡ put_pair x (closing_pairs stream xs)
  closing-true x xs h = ap pairs_by_start (filter-true x xs h)

  closing-false : (x : Standing × Plan) (xs : List (Standing × Plan)) → closes x ≡ false → closing_pairs stream (x ∷ xs) ≡ closing_pairs stream xs
  closing-false x xs h = ap pairs_by_start (filter-false x xs h)

  -- those of them that are to close start behind
  abbrev ClosingBehind : ℤ → List Standing → List Plan → Type 0
  ClosingBehind start es plans = (other : ℕ) → other < length plans → closes_in stream (slice_index_or plans other no_entry.value) ≡ true → start <ℤ (slice_index_or es other no_standing).start

  behind-filter : (start : ℤ) (es : List Standing) (plans : List Plan) → length es ≡ length plans → ClosingBehind start es plans → Behind start (filter closes (beside es plans))
  behind-filter start [] plans same h = tt
  behind-filter start (e ∷ es) [] same h = tt
  behind-filter start (e ∷ es) (p ∷ plans) same h = by (closes_in stream p) refl (behind-filter start es plans (omega (arith, same)) (λ other l. h (suc other) (omega (arith, l))))
    where
      by : (b : Bool) → closes_in stream p ≡ b → Behind start (filter closes (beside es plans)) → Behind start (filter closes (beside (e ∷ es) (p ∷ plans)))
      by true is k = rw is (h 0 (omega arith) is, k)
      by false is k = rw is k

  -- the event at this place is to close, and each other that is starts behind it
  pub record IsLeastAt (es : List Standing) (plans : List Plan) (at : ℕ) : Type 0 where
    pub below : at < length plans
    pub same : length es ≡ length plans
    pub closes_there : closes_in stream (slice_index_or plans at no_entry.value) ≡ true
    pub others : (other : ℕ) → other < length plans → (other ≡ at → ⊥) → closes_in stream (slice_index_or plans other no_entry.value) ≡ true
        → (slice_index_or es at no_standing).start <ℤ (slice_index_or es other no_standing).start

  tail-least : (e : Standing) (es : List Standing) (p : Plan) (plans : List Plan) (at : ℕ) → IsLeastAt (e ∷ es) (p ∷ plans) (suc at) → IsLeastAt es plans at
  tail-least e es p plans at i =
      let below = i.below in
      let same = i.same in
      record {
        below = omega (arith, below);
        same = omega (arith, same);
        closes_there = i.closes_there;
        others = λ other l not_at c. i.others (suc other) (omega (arith, l)) (λ is. not_at (omega (arith, is))) c;
      }

  pub least-out : (es : List Standing) (plans : List Plan) (at : ℕ) (later : Plan) → IsLeastAt es plans at → closes_in stream later ≡ false
      → closing_pairs stream (beside es plans) ≡ (slice_index_or es at no_standing, slice_index_or plans at no_entry.value) ∷ closing_pairs stream (beside es (slice_set plans at later))
  least-out [] [] at later i over = absurd (let b = i.below in omega (arith, b))
  least-out [] (p ∷ plans) at later i over = absurd (let s = i.same in omega (arith, s))
  least-out (e ∷ es) [] at later i over = absurd (let b = i.below in omega (arith, b))
  least-out (e ∷ es) (p ∷ plans) zero later i over =
      let same = i.same in
      closing-true (e, p) (beside es plans) i.closes_there
      ∙ put-least (e, p) (closing_pairs stream (beside es plans)) (behind-sorted e.start (filter closes (beside es plans))
      (behind-filter e.start es plans (omega (arith, same)) (λ other l c. i.others (suc other) (omega (arith, l)) (λ is. omega (arith, is)) c)))
      ∙ ap (λ l. (e, p) ∷ l) (sym (closing-false (e, later) (beside es plans) over))
  least-out (e ∷ es) (p ∷ plans) (suc at) later i over = by (closes_in stream p) refl (least-out es plans at later (tail-least e es p plans at i) over)
    where
      x : Standing × Plan
      x = (slice_index_or es at no_standing, slice_index_or plans at no_entry.value)

      by : (b : Bool) → closes_in stream p ≡ b → closing_pairs stream (beside es plans) ≡ x ∷ closing_pairs stream (beside es (slice_set plans at later))
          → closing_pairs stream (beside (e ∷ es) (p ∷ plans)) ≡ x ∷ closing_pairs stream (beside (e ∷ es) (p ∷ slice_set plans at later))
      by true is inner =
          closing-true (e, p) (beside es plans) is ∙ ap (put_pair (e, p)) inner
          ∙ put-later (e, p) x (closing_pairs stream (beside es (slice_set plans at later))) (i.others 0 (omega arith) (λ k. omega (arith, k)) is)
          ∙ ap (λ l. x ∷ l) (sym (closing-true (e, p) (beside es (slice_set plans at later)) is))
      by false is inner = closing-false (e, p) (beside es plans) is ∙ inner ∙ ap (λ l. x ∷ l) (sym (closing-false (e, p) (beside es (slice_set plans at later)) is))

  -- one fewer is to close
  pub one-fewer : (es : List Standing) (plans : List Plan) (at : ℕ) (later : Plan) → IsLeastAt es plans at → closes_in stream later ≡ false
      → length (filter closes (beside es plans)) ≡ suc (length (filter closes (beside es (slice_set plans at later))))
  one-fewer [] [] at later i over = absurd (let b = i.below in omega (arith, b))
  one-fewer [] (p ∷ plans) at later i over = absurd (let s = i.same in omega (arith, s))
  one-fewer (e ∷ es) [] at later i over = absurd (let b = i.below in omega (arith, b))
  one-fewer (e ∷ es) (p ∷ plans) zero later i over =
      ap length (filter-true (e, p) (beside es plans) i.closes_there) ∙ ap (λ l. suc (length l)) (sym (filter-false (e, later) (beside es plans) over))
  one-fewer (e ∷ es) (p ∷ plans) (suc at) later i over = by (closes_in stream p) refl (one-fewer es plans at later (tail-least e es p plans at i) over)
    where
      by : (b : Bool) → closes_in stream p ≡ b → length (filter closes (beside es plans)) ≡ suc (length (filter closes (beside es (slice_set plans at later))))
          → length (filter closes (beside (e ∷ es) (p ∷ plans))) ≡ suc (length (filter closes (beside (e ∷ es) (p ∷ slice_set plans at later))))
      by true is inner = ap length (filter-true (e, p) (beside es plans) is) ∙ ap suc inner ∙ ap (λ l. suc (length l)) (sym (filter-true (e, p) (beside es (slice_set plans at later)) is))
      by false is inner = ap length (filter-false (e, p) (beside es plans) is) ∙ inner ∙ ap (λ l. suc (length l)) (sym (filter-false (e, p) (beside es (slice_set plans at later)) is))
