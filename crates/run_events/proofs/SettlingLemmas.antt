-- The lines of the breaks that are counted, each once, and how many they are.
use Rattle.std.proofs.Common.{◌≡◌, ℕ, zero, suc, ◌+◌, ◌-◌, ◌<◌, ◌≤◌, Bool, true, false, List, [], ◌∷◌, ◌++◌, map, drop, length, slice_get, Option, None, Some, refl, sym, ap, subst, ◌∙◌, arith}
use Rattle.std.proofs.lemmas.List.{map-append}
use Rattle.std.specs.List.{filter}
use Rattle.run_events.specs.declared.followed.Followed.{Followed}
use Rattle.run_events.specs.declared.occurrence.What.{What}
use Rattle.run_events.specs.declared.occurrence.Occurrence.{Occurrence}
use Rattle.run_events.specs.declared.tracker.Counted.{Counted}
use Rattle.run_events.specs.declared.tracker.Counted.TheVariants.{Played, NotFitted, Unconditioned}
use Rattle.run_events.specs.declared.watch.Site.{Site}
use Rattle.run_events.specs.Telling.{at, Tells, lines_that, tells_played, tells_not_fitted, tells_unconditioned}
use Rattle.run_events.specs.Settling.{settled_lines, told_as, counts_so}
use Rattle.run_events.proofs.TellingLemmas.{lines_behind, tells_then, tells_as}

each_counts : (kind : What → ℕ) (counted : Counted) (gone : List Followed) (k : ℕ) → ((one : Option Followed) → kind (told_as counted one) ≡ k)
    → (n m : ℕ) → lines_that kind (settled_lines counted gone n) ≡ m
    → lines_that kind (settled_lines counted gone (suc n)) ≡ m + k
each_counts kind counted gone k h n m e =
    let one = slice_get (filter (counts_so counted) gone) n in
    let p = lines_behind kind (settled_lines counted gone n) (told_as counted one ∷ []) in
    let q : kind (told_as counted one) ≡ k = h one in
    omega (arith, p, q, e)

all_count : (kind : What → ℕ) (counted : Counted) (gone : List Followed) → ((one : Option Followed) → kind (told_as counted one) ≡ 1)
    → (n : ℕ) → lines_that kind (settled_lines counted gone n) ≡ n
all_count kind counted gone h zero = refl
all_count kind counted gone h (suc n) = let p = each_counts kind counted gone 1 h n n (all_count kind counted gone h n) in omega (arith, p)

none_counts : (kind : What → ℕ) (counted : Counted) (gone : List Followed) → ((one : Option Followed) → kind (told_as counted one) ≡ 0)
    → (n : ℕ) → lines_that kind (settled_lines counted gone n) ≡ 0
none_counts kind counted gone h zero = refl
none_counts kind counted gone h (suc n) = let p = each_counts kind counted gone 0 h n 0 (none_counts kind counted gone h n) in omega (arith, p)

-- THE LINES OF A SETTLEMENT say what became of so many breaks as were counted
pub settlement_told : {W : Type 0} (hears : W → List Occurrence → W → Type 0)
    → ((s t u : W) (xs ys : List Occurrence) → hears s xs t → hears t ys u → hears s (xs ++ ys) u)
    → (site : Site) (u v w x : W) (gone : List Followed) (p n m : ℕ) → hears u (map (at site) (settled_lines Played gone p)) v
    → hears v (map (at site) (settled_lines NotFitted gone n)) w → hears w (map (at site) (settled_lines Unconditioned gone m)) x
    → Tells hears site u p n m x
settlement_told hears trans site u v w x gone p n m h k l =
    let a : Tells hears site u p 0 0 v = record {
      lines = settled_lines Played gone p;
      heard = h;
      are_played = all_count tells_played Played gone (λ one. refl) p;
      are_not_fitted = none_counts tells_not_fitted Played gone (λ one. refl) p;
      are_unconditioned = none_counts tells_unconditioned Played gone (λ one. refl) p;
    } in
    let b : Tells hears site v 0 n 0 w = record {
      lines = settled_lines NotFitted gone n;
      heard = k;
      are_played = none_counts tells_played NotFitted gone (λ one. refl) n;
      are_not_fitted = all_count tells_not_fitted NotFitted gone (λ one. refl) n;
      are_unconditioned = none_counts tells_unconditioned NotFitted gone (λ one. refl) n;
    } in
    let d : Tells hears site w 0 0 m x = record {
      lines = settled_lines Unconditioned gone m;
      heard = l;
      are_played = none_counts tells_played Unconditioned gone (λ one. refl) m;
      are_not_fitted = none_counts tells_not_fitted Unconditioned gone (λ one. refl) m;
      are_unconditioned = all_count tells_unconditioned Unconditioned gone (λ one. refl) m;
    } in
    let front : Tells hears site u (p + 0) (0 + n) (0 + 0) w = tells_then hears trans site u v w p 0 0 0 n 0 a b in
    let whole : Tells hears site u (p + 0 + 0) (0 + n + 0) (0 + 0 + m) x = tells_then hears trans site u w x (p + 0) (0 + n) (0 + 0) 0 0 m front d in
    tells_as hears site u x _ _ _ p n m (omega arith) (omega arith) (omega arith) whole

-- one more line
pub settled_one_more : {W : Type 0} (hears : W → List Occurrence → W → Type 0)
    → ((s t u : W) (xs ys : List Occurrence) → hears s xs t → hears t ys u → hears s (xs ++ ys) u)
    → (site : Site) (u v w : W) (counted : Counted) (gone : List Followed) (n : ℕ) (one : Option Followed) (what : What)
    → hears u (map (at site) (settled_lines counted gone n)) v → hears v (at site what ∷ []) w
    → one ≡ slice_get (filter (counts_so counted) gone) n → what ≡ told_as counted one
    → hears u (map (at site) (settled_lines counted gone (n + 1))) w
settled_one_more hears trans site u v w counted gone n one what h k e f =
    let is : what ≡ told_as counted (slice_get (filter (counts_so counted) gone) n) = f ∙ ap (told_as counted) e in
    let next : suc n ≡ n + 1 = omega arith in
    subst (λ m. hears u (map (at site) (settled_lines counted gone m)) w) next
    (subst (λ ls. hears u ls w) (sym (map-append (at site) (settled_lines counted gone n) _))
    (trans u v w _ _ h (subst (λ t. hears v (at site t ∷ []) w) is k)))
