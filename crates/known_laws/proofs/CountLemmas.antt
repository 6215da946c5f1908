-- Events counted, those among them that are forgotten.
use Rattle.std.proofs.Common.{◌≡◌, ℕ, ◌+◌, List, [], ◌∷◌, Bool, true, false, not, ◌&&◌, ◌⊎◌, inl, inr, refl, sym, ap, ◌∙◌, Option, None, Some, arith, cond}
use Rattle.std.specs.Prelude.{ℤ, pos, ◌+ℤ◌, ◌≤ℤ◌, ◌<ℤ◌, int_lt, count_by}
use Rattle.std.specs.List.{AllByRecursion}
use Rattle.std.proofs.lemmas.Int.{ints}
use Rattle.std.proofs.lemmas.Bool.{true≢false}
use Rattle.std.proofs.lemmas.List.Sums.{sum_by-cons}
use Rattle.std.proofs.lemmas.List.Elements.{All-head, All-tail}
use Rattle.ts_packet.proofs.Cases.{by_test}
use Rattle.event_table.specs.Standing.{Standing, end_of, forgotten_at}
use Rattle.armed_laws.specs.Laws.{Becomes, Grows}
use Rattle.splice_laws.specs.Settled.{IsAhead}
use Rattle.splice_plans.specs.Playing.{Adverts, History, is_played}
use Rattle.splice_plans.specs.Histories.{AreSteady}
use Rattle.event_table.specs.Counting.{one_if}
use Rattle.splice_plans.specs.Reporting.{EventCounts, is_not_fitted}
use Rattle.splice_plans.specs.Known.{is_crossed_known, is_forgotten}
use Rattle.known_laws.proofs.SameLemmas.{any-crossed-same}

pub count-cons : {X : Type 0} (f : X → Bool) (x : X) (xs : List X) → count_by f (x ∷ xs) ≡ one_if (f x) + count_by f xs
count-cons f x xs = sum_by-cons (λ y. cond (f y) 1 0) x xs

pub count-alike : {X Y : Type 0} (f : X → Bool) (g : Y → Bool) (x : X) (y : Y) (xs : List X) (ys : List Y) → f x ≡ g y → count_by f xs ≡ count_by g ys → count_by f (x ∷ xs) ≡ count_by g (y ∷ ys)
count-alike f g x y xs ys h k = count-cons f x xs ∙ ap (λ b. one_if b + count_by f xs) h ∙ ap (λ (n : ℕ). one_if (g y) + n) k ∙ sym (count-cons g y ys)

pub none-more : (b : Bool) (n m : ℕ) → b ≡ false → n ≡ m → one_if b + n ≡ m
none-more true n m h k = absurd (true≢false h)
none-more false n m h k = omega (arith, k)

pub same-count : {X : Type 0} (f g : X → Bool) (xs : List X) → AllByRecursion (λ x. f x ≡ g x) xs → count_by f xs ≡ count_by g xs
same-count f g [] h = refl
same-count f g (x ∷ xs) h = count-alike f g x x xs xs h.0 (same-count f g xs h.1)

-- ---- those that are forgotten stay so, and no others are

forgotten-same : (latest : Option ℤ) (e x : Standing) → Becomes latest e x → is_forgotten latest x ≡ is_forgotten latest e
forgotten-same None e x b = refl
forgotten-same (Some h) e x b = ap not (by b.end)
  where
    at : (c d h : ℤ) → h <ℤ c → c ≤ℤ d → int_lt h (c +ℤ pos 900000) ≡ int_lt h (d +ℤ pos 900000)
    at c d h k l = grind (arith, ints)

    by : (end_of x ≡ end_of e) ⊎ ((h <ℤ end_of x) × (end_of x ≤ℤ end_of e)) → int_lt h (forgotten_at x) ≡ int_lt h (forgotten_at e)
    by (inl is) = ap (λ t. int_lt h (t +ℤ pos 900000)) is
    by (inr ahead) = at (end_of x) (end_of e) h ahead.0 ahead.1

new-stands : (latest : Option ℤ) (x : Standing) → IsAhead latest x.start → is_forgotten latest x ≡ false
new-stands None x a = refl
new-stands (Some h) x a = at x.start x.length h a
  where
    at : (s : ℤ) (n : ℕ) (h : ℤ) → h <ℤ s → not (int_lt h ((s +ℤ pos n) +ℤ pos 900000)) ≡ false
    at s n h a = grind (arith, ints)

stays-cancelled : (latest : Option ℤ) (e x : Standing) → Becomes latest e x → is_forgotten latest e ≡ true → x.cancelled ≡ e.cancelled
stays-cancelled latest e x b gone = by b.cancelled
  where
    by : (x.cancelled ≡ e.cancelled) ⊎ (IsAhead latest e.start × (x.cancelled ≡ true)) → x.cancelled ≡ e.cancelled
    by (inl is) = is
    by (inr ahead) = absurd (true≢false (sym gone ∙ new-stands latest e ahead.0))

count-grows : (latest : Option ℤ) (f g : Standing → Bool) → ((e x : Standing) → Becomes latest e x → g x ≡ f e) → ((x : Standing) → IsAhead latest x.start → g x ≡ false)
    → (es later : List Standing) → Grows latest es later → count_by g later ≡ count_by f es
count-grows latest f g same none [] [] gr = refl
count-grows latest f g same none [] (x ∷ later) gr =
    let ahead = λ (y : Standing). IsAhead latest y.start in
    count-cons g x later ∙ none-more (g x) (count_by g later) (count_by f []) (none x (All-head ahead x later gr)) (count-grows latest f g same none [] later (All-tail ahead x later gr))
count-grows latest f g same none (e ∷ es) [] gr = absurd gr
count-grows latest f g same none (e ∷ es) (x ∷ later) gr = count-alike g f x e later es (same e x gr.0) (count-grows latest f g same none es later gr.1)

-- what is counted of those that are forgotten
module _ (latest : Option ℤ) (a b : Standing → Bool) (same : (e x : Standing) → Becomes latest e x → is_forgotten latest e ≡ true → b x ≡ a e) where
  both-same : (e x : Standing) → Becomes latest e x → (is_forgotten latest x && b x) ≡ (is_forgotten latest e && a e)
  both-same e x c = ap (λ f. f && b x) (forgotten-same latest e x c) ∙ by_test (is_forgotten latest e)
      (λ y. simp y (same e x c y))
      (λ n. simp n refl)

  pub forgotten-count : (es later : List Standing) → Grows latest es later → count_by (λ x. is_forgotten latest x && b x) later ≡ count_by (λ e. is_forgotten latest e && a e) es
  forgotten-count es later g =
      count-grows latest (λ e. is_forgotten latest e && a e) (λ x. is_forgotten latest x && b x) both-same (λ x ahead. ap (λ f. f && b x) (new-stands latest x ahead)) es later g

-- counts over the events that the test takes
abbrev pub counts_of : List ℕ → Adverts → History → List (List ℕ) → List Standing → (Standing → Bool) → EventCounts
counts_of switched ads events behind es takes = record {
  played = count_by (λ e. takes e && is_played ads e) es;
  not_fitted = count_by (λ e. takes e && is_not_fitted ads e) es;
  unconditioned = count_by (λ e. takes e && (is_played ads e && is_crossed_known switched ads events behind e)) es;
  ignored = 0;
}

abbrev pub three_counts : ℕ → ℕ → ℕ → EventCounts
three_counts a b c = record { played = a; not_fitted = b; unconditioned = c; ignored = 0 }

pub same-counts : {a b c d e f : ℕ} → a ≡ b → c ≡ d → e ≡ f → three_counts a c e ≡ three_counts b d f
same-counts h k l = rw (h, k, l) refl

module _ (switched : List ℕ) (ads : Adverts) (steady : AreSteady ads) (events : History) (latest : Option ℤ) where
  played-same : (e x : Standing) → Becomes latest e x → is_forgotten latest e ≡ true → is_played ads x ≡ is_played ads e
  played-same e x b gone = ap (λ c. not c && ads.fits x) (stays-cancelled latest e x b gone) ∙ ap (λ f. not e.cancelled && f) (steady.fits latest e x b)

  not_fitted-same : (e x : Standing) → Becomes latest e x → is_forgotten latest e ≡ true → is_not_fitted ads x ≡ is_not_fitted ads e
  not_fitted-same e x b gone = ap (λ c. not c && not (ads.fits x)) (stays-cancelled latest e x b gone) ∙ ap (λ f. not e.cancelled && not f) (steady.fits latest e x b)

  -- where what is known of each is the same with a packet more
  pub counts-same : (later-behind behind : List (List ℕ)) → ((e : Standing) → is_crossed_known switched ads events later-behind e ≡ is_crossed_known switched ads events behind e)
      → (es later : List Standing) → Grows latest es later → counts_of switched ads events later-behind later (is_forgotten latest) ≡ counts_of switched ads events behind es (is_forgotten latest)
  counts-same later-behind behind still es later g =
      same-counts
      (forgotten-count latest (is_played ads) (is_played ads) played-same es later g)
      (forgotten-count latest (is_not_fitted ads) (is_not_fitted ads) not_fitted-same es later g)
      (forgotten-count latest (λ e. is_played ads e && is_crossed_known switched ads events behind e) (λ x. is_played ads x && is_crossed_known switched ads events later-behind x)
      (λ e x b gone. ap (λ y. y && is_crossed_known switched ads events later-behind x) (played-same e x b gone)
      ∙ ap (λ y. is_played ads e && y) (still x ∙ any-crossed-same switched ads events behind steady latest e x b)) es later g)
