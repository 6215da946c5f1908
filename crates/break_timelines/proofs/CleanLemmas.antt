-- Both passes over the pictures, and what they come to.
use Rattle.std.proofs.Common.{◌≡◌, ℕ, ◌+◌, ◌<◌, Bool, true, false, ◌&&◌, List, [], ◌∷◌, ◌++◌, length, take, drop, set, get_or, refl, ap, sym, ◌∙◌, arith}
use Rattle.std.proofs.lemmas.List.{drop_more, drop-set, take_more_set}
use Rattle.std.proofs.lemmas.Grind.{common_steps}
use Rattle.std.specs.Prelude.{nat_le, nat_lt, Option, None, Some}
use Rattle.std.specs.List.{list_all}
use Rattle.break_choices.specs.declared.pictures.Picture.{Picture}
use Rattle.break_timelines.specs.Cleaning.{cleaned, cleaned_behind, lesser_of, least_time, is_up_to, clear_of, from_behind, is_past, greater_of, still_clear_of, from_before}

-- ---- one picture more, from the last one to the first

pub behind_step : (xs now : List Picture) (i : ℕ) (p q : Picture) → i < length xs → i < length now → get_or xs i p ≡ p → q ≡ clear_of p (least_time (drop (i + 1) xs))
    → drop (i + 1) now ≡ from_behind (drop (i + 1) xs) → drop i (set now i q) ≡ from_behind (drop i xs)
behind_step xs now i p q below within at is done =
    drop-set now i q within
    ∙ ap (λ y. y ∷ drop (i + 1) now) is
    ∙ ap (λ ys. clear_of p (least_time (drop (i + 1) xs)) ∷ ys) done
    ∙ sym (ap from_behind (drop_more xs i p below ∙ ap (λ y. y ∷ drop (i + 1) xs) at))

pub least_step : (xs : List Picture) (i : ℕ) (p : Picture) → i < length xs → get_or xs i p ≡ p
    → Some (lesser_of (least_time (drop (i + 1) xs)) p.time) ≡ least_time (drop i xs)
least_step xs i p below at = sym (ap least_time (drop_more xs i p below ∙ ap (λ y. y ∷ drop (i + 1) xs) at))

-- ---- from the first one to the last

pub before_step : (most : Option ℕ) (now : List Picture) (i : ℕ) (p q : Picture) → i < length now → get_or now i p ≡ p → q ≡ still_clear_of most p
    → take i now ++ from_before most (drop i now) ≡ take (i + 1) (set now i q) ++ from_before (Some (greater_of most p.time)) (drop (i + 1) now)
before_step most now i p q within at is =
    ap (λ ys. take i now ++ from_before most ys) (drop_more now i p within ∙ ap (λ y. y ∷ drop (i + 1) now) at)
    ∙ grind (arith, common_steps, take_more_set now i q within, is)

-- ---- both

swap : (a b c : Bool) → (a && b) && c ≡ a && (c && b)
swap true true true = refl
swap true true false = refl
swap true false true = refl
swap true false false = refl
swap false b c = refl

up_to : (t : ℕ) (ps : List Picture) → is_up_to (least_time ps) t ≡ list_all (λ (q : Picture). nat_le t q.time) ps
up_to t [] = refl
up_to t (p ∷ ps) = by (least_time ps) ∙ ap (λ b. nat_le t p.time && b) (up_to t ps)
  where
    by : (l : Option ℕ) → is_up_to (Some (lesser_of l p.time)) t ≡ nat_le t p.time && is_up_to l t
    by None = grind arith
    by (Some l) = grind arith

abbrev Knows : Option ℕ → List Picture → Type 0
Knows most before = (t : ℕ) → is_past most t ≡ list_all (λ (q : Picture). nat_lt q.time t) before

all_more : (f : Picture → Bool) (xs : List Picture) (p : Picture) → list_all f (xs ++ p ∷ []) ≡ list_all f xs && f p
all_more f [] p = grind arith
all_more f (x ∷ xs) p = ap (λ b. f x && b) (all_more f xs p) ∙ by (f x) (list_all f xs) (f p)
  where
    by : (a b c : Bool) → a && (b && c) ≡ (a && b) && c
    by true b c = refl
    by false b c = refl

knows_more : (most : Option ℕ) (before : List Picture) (p : Picture) → Knows most before → Knows (Some (greater_of most p.time)) (before ++ p ∷ [])
knows_more most before p knows t = by most ∙ ap (λ b. b && nat_lt p.time t) (knows t) ∙ sym (all_more (λ (q : Picture). nat_lt q.time t) before p)
  where
    by : (m : Option ℕ) → is_past (Some (greater_of m p.time)) t ≡ is_past m t && nat_lt p.time t
    by None = grind arith
    by (Some m) = grind arith

both_behind : (most : Option ℕ) (before ps : List Picture) → Knows most before → from_before most (from_behind ps) ≡ cleaned_behind before ps
unfolding cleaned_behind
both_behind most before [] knows = refl
both_behind most before (p ∷ ps) knows =
    ap (λ b. (record p { is_clean = b }) ∷ from_before (Some (greater_of most p.time)) (from_behind ps))
    (swap p.is_entry (is_up_to (least_time ps) p.time) (is_past most p.time)
    ∙ ap (λ b. p.is_entry && (b && is_up_to (least_time ps) p.time)) (knows p.time)
    ∙ ap (λ b. p.is_entry && (list_all (λ (q : Picture). nat_lt q.time p.time) before && b)) (up_to p.time ps))
    ∙ ap (λ ys. cleaned before p ps ∷ ys) (both_behind (Some (greater_of most p.time)) (before ++ p ∷ []) ps (knows_more most before p knows))

-- WHAT BOTH PASSES COME TO
pub both_ways : (ps : List Picture) → from_before None (from_behind ps) ≡ cleaned_behind [] ps
both_ways ps = both_behind None [] ps (λ t. refl)
