-- Lists seen through a map, and their first element that passes a test.
use Rattle.std.proofs.Common.{◌≡◌, ℕ, ◌+◌, ◌<◌, Bool, true, false, not, cond, suc, List, [], ◌∷◌, length, refl, ap, sym, ◌∙◌, subst, nat_lt, arith}
use Rattle.std.specs.Prelude.{map, filter, find, None, Some, option_map, All, AllPairs, slice_set, slice_index_or}
use Rattle.std.specs.List.{list_any, position, position_or_len}
use Rattle.std.proofs.lemmas.List.Elements.{All-head, All-tail, All-cons, All-nil}
use Rattle.std.proofs.lemmas.Bool.Decides.{nat_tests}
use Rattle.std.proofs.lemmas.List.{length-map}
use Rattle.std.proofs.lemmas.List.Kept.{AllPairs-cons}
use Rattle.event_table.specs.Standing.{with_first}

module _ {X Y : Type 0} (f : X → Y) (P : X → Type 0) (p : Y → Bool) (q : X → Bool) (same : (x : X) → P x → p (f x) ≡ q x) where
  pub list_any-map : (xs : List X) → All P xs → list_any p (map f xs) ≡ list_any q xs
  list_any-map [] all = refl
  list_any-map (x ∷ xs) all = rw (same x (All-head P x xs all), list_any-map xs (All-tail P x xs all))

  pub filter-map : (xs : List X) → All P xs → filter p (map f xs) ≡ map f (filter q xs)
  filter-map [] all = refl
  filter-map (x ∷ xs) all = rw (same x (All-head P x xs all), filter-map xs (All-tail P x xs all)) (elim (q x) as (λ b. cond b (f x ∷ map f (filter q xs)) (map f (filter q xs)) ≡ map f (cond b (x ∷ filter q xs) (filter q xs))) [ true ↦ refl | false ↦ refl ])

  pub find-map : (xs : List X) → All P xs → find p (map f xs) ≡ option_map f (find q xs)
  find-map [] all = refl
  find-map (x ∷ xs) all = rw (same x (All-head P x xs all), find-map xs (All-tail P x xs all)) (elim (q x) as (λ b. cond b (Some (f x)) (option_map f (find q xs)) ≡ option_map f (cond b (Some x) (find q xs))) [ true ↦ refl | false ↦ refl ])

  position-or_len-map : (xs : List X) → All P xs → position_or_len p (map f xs) ≡ position_or_len q xs
  position-or_len-map [] all = refl
  position-or_len-map (x ∷ xs) all = rw (same x (All-head P x xs all), position-or_len-map xs (All-tail P x xs all)) refl

  pub position-map : (xs : List X) → All P xs → position p (map f xs) ≡ position q xs
  position-map xs all = rw (position-or_len-map xs all, length-map xs f) refl

  -- the first element replaced, under the map
  pub with_first-map : (x' : X) (xs : List X) → All P xs → with_first p (λ _. f x') (map f xs) ≡ map f (with_first q (λ _. x') xs)
  with_first-map x' [] all = refl
  with_first-map x' (x ∷ xs) all =
      rw (same x (All-head P x xs all), with_first-map x' xs (All-tail P x xs all))
      (elim (q x) as (λ b. cond b (f x' ∷ map f xs) (f x ∷ map f (with_first q (λ _. x') xs)) ≡ map f (cond b (x' ∷ xs) (x ∷ with_first q (λ _. x') xs))) [ true ↦ refl | false ↦ refl ])

pub map-map : {X Y Z : Type 0} (f : X → Y) (g : Y → Z) (xs : List X) → map g (map f xs) ≡ map (λ x. g (f x)) xs
map-map f g [] = refl
map-map f g (x ∷ xs) = ap (λ zs. g (f x) ∷ zs) (map-map f g xs)

-- elements whose two parts are those of another list are made of that one
pub map-joined : {X A B S : Type 0} (a : X → A) (b : X → B) (f : S → A) (g : S → B) (make : S → X) → ((x : X) (s : S) → a x ≡ f s → b x ≡ g s → x ≡ make s)
    → (xs : List X) (ss : List S) → map a xs ≡ map f ss → map b xs ≡ map g ss → xs ≡ map make ss
map-joined a b f g make made [] [] first second = refl
map-joined a b f g make made [] (s ∷ ss) first second = absurd (let no : [] ≡ f s ∷ map f ss = first in cc)
map-joined a b f g make made (x ∷ xs) [] first second = absurd (let no : a x ∷ map a xs ≡ [] = first in cc)
map-joined a b f g make made (x ∷ xs) (s ∷ ss) first second =
    let head_a : a x ≡ f s = cc in
    let tail_a : map a xs ≡ map f ss = cc in
    let head_b : b x ≡ g s = cc in
    let tail_b : map b xs ≡ map g ss = cc in
    let head : x ≡ make s = made x s head_a head_b in
    let tail : xs ≡ map make ss = map-joined a b f g make made xs ss tail_a tail_b in
    ap (λ y. y ∷ xs) head ∙ ap (λ ys. make s ∷ ys) tail

module _ {X : Type 0} (p : X → Bool) where
  -- what is found is what is changed
  pub with_first-found : (change : X → X) (found : X) (xs : List X) → find p xs ≡ Some found → with_first p change xs ≡ with_first p (λ _. change found) xs
  with_first-found change found [] is = cc
  with_first-found change found (x ∷ xs) is = found-cases (p x) is (with_first-found change found xs)
    where
      found-cases : (b : Bool) → cond b (Some x) (find p xs) ≡ Some found → (find p xs ≡ Some found → with_first p change xs ≡ with_first p (λ _. change found) xs)
          → cond b (change x ∷ xs) (x ∷ with_first p change xs) ≡ cond b (change found ∷ xs) (x ∷ with_first p (λ _. change found) xs)
      found-cases true is later = let same : x ≡ found = cc in ap (λ y. change y ∷ xs) same
      found-cases false is later = ap (λ ys. x ∷ ys) (later is)

  -- what holds of each element holds of the one that is found
  pub All-find : (P : X → Type 0) (found : X) (xs : List X) → find p xs ≡ Some found → All P xs → P found
  All-find P found [] is all = absurd (let no : None ≡ Some found = is in cc)
  All-find P found (x ∷ xs) is all = found-cases (p x) is (λ later. All-find P found xs later (All-tail P x xs all))
    where
      found-cases : (b : Bool) → cond b (Some x) (find p xs) ≡ Some found → (find p xs ≡ Some found → P found) → P found
      found-cases true is later = let same : x ≡ found = cc in subst P same (All-head P x xs all)
      found-cases false is later = later is

  pub All-with_first : (P : X → Type 0) (x' : X) → P x' → (xs : List X) → All P xs → All P (with_first p (λ _. x') xs)
  All-with_first P x' holds [] all = All-nil P
  All-with_first P x' holds (x ∷ xs) all =
      elim (p x) as (λ b. All P (cond b (x' ∷ xs) (x ∷ with_first p (λ _. x') xs)))
      [ true ↦ All-cons P x' xs holds (All-tail P x xs all) | false ↦ All-cons P x _ (All-head P x xs all) (All-with_first P x' holds xs (All-tail P x xs all)) ]

  AllPairs-head : (R : X → X → Type 0) (x : X) (xs : List X) → AllPairs R (x ∷ xs) → All (R x) xs
  AllPairs-head R x xs pairs = λ k d below. pairs 0 (suc k) d (omega arith) (omega arith)

  AllPairs-tail : (R : X → X → Type 0) (x : X) (xs : List X) → AllPairs R (x ∷ xs) → AllPairs R xs
  AllPairs-tail R x xs pairs = λ i j d before below. pairs (suc i) (suc j) d (omega arith) (omega arith)

  -- pairs stay related where the first element found is replaced by one that is related to each that it was
  pub AllPairs-with_first : (R : X → X → Type 0) (found x' : X) → ((x : X) → R found x → R x' x) → ((x : X) → R x found → R x x')
      → (xs : List X) → find p xs ≡ Some found → AllPairs R xs → AllPairs R (with_first p (λ _. x') xs)
  AllPairs-with_first R found x' after before [] is pairs = pairs
  AllPairs-with_first R found x' after before (x ∷ xs) is pairs =
      found-cases (p x) is (λ later. AllPairs-with_first R found x' after before xs later (AllPairs-tail R x xs pairs))
      (λ later. All-with_first (R x) x' (before x (All-find (R x) found xs later (AllPairs-head R x xs pairs))) xs (AllPairs-head R x xs pairs))
    where
      found-cases : (b : Bool) → cond b (Some x) (find p xs) ≡ Some found → (find p xs ≡ Some found → AllPairs R (with_first p (λ _. x') xs))
          → (find p xs ≡ Some found → All (R x) (with_first p (λ _. x') xs)) → AllPairs R (cond b (x' ∷ xs) (x ∷ with_first p (λ _. x') xs))
      found-cases true is tail head =
          let same : x ≡ found = cc in
          AllPairs-cons R x' xs (λ k d below. after _ (subst (λ y. R y (slice_index_or xs k d)) same (AllPairs-head R x xs pairs k d below))) (AllPairs-tail R x xs pairs)
      found-cases false is tail head = AllPairs-cons R x _ (head is) (tail is)

  -- the first place and what stands there
  pub place-cases : (xs : List X) (place : ℕ) → position p xs ≡ Some place → (position_or_len p xs < length xs) × (position_or_len p xs ≡ place)
  place-cases xs place is = cases (nat_lt (position_or_len p xs) (length xs)) refl is
    where
      cases : (b : Bool) → nat_lt (position_or_len p xs) (length xs) ≡ b → cond b (Some (position_or_len p xs)) None ≡ Some place → (position_or_len p xs < length xs) × (position_or_len p xs ≡ place)
      cases true test is = (grind (arith, nat_tests), cc)
      cases false test is = absurd (let no : None ≡ Some place = is in cc)

  at-first : (x' x : X) (xs : List X) → position_or_len p xs < length xs → x ≡ slice_index_or xs (position_or_len p xs) x
      → (find p xs ≡ Some x) × (slice_set xs (position_or_len p xs) x' ≡ with_first p (λ _. x') xs)
  at-first x' x [] below is = absurd (omega arith)
  at-first x' x (y ∷ ys) below is = cases (p y) below is (at-first x' x ys)
    where
      cases : (b : Bool) → cond (not b) (1 + position_or_len p ys) 0 < length (y ∷ ys) → x ≡ slice_index_or (y ∷ ys) (cond (not b) (1 + position_or_len p ys) 0) x
          → (position_or_len p ys < length ys → x ≡ slice_index_or ys (position_or_len p ys) x → (find p ys ≡ Some x) × (slice_set ys (position_or_len p ys) x' ≡ with_first p (λ _. x') ys))
          → (cond b (Some y) (find p ys) ≡ Some x) × (slice_set (y ∷ ys) (cond (not b) (1 + position_or_len p ys) 0) x' ≡ cond b (x' ∷ ys) (y ∷ with_first p (λ _. x') ys))
      cases true below is later = (ap Some (sym is), refl)
      cases false below is later =
          let step : 1 + position_or_len p ys ≡ suc (position_or_len p ys) = omega arith in
          let is' : x ≡ slice_index_or (y ∷ ys) (suc (position_or_len p ys)) x = rw step at is in
          let rest = later (omega arith) is' in
          (rest.0, rw step (ap (λ zs. y ∷ zs) rest.1))

  none-after : (xs : List X) → nat_lt (position_or_len p xs) (length xs) ≡ false → find p xs ≡ None
  none-after [] test = refl
  none-after (y ∷ ys) test = cases (p y) test (none-after ys)
    where
      cases : (b : Bool) → nat_lt (cond (not b) (1 + position_or_len p ys) 0) (length (y ∷ ys)) ≡ false → (nat_lt (position_or_len p ys) (length ys) ≡ false → find p ys ≡ None)
          → cond b (Some y) (find p ys) ≡ None
      cases true test later = absurd (grind (arith, nat_tests))
      cases false test later = later (grind (arith, nat_tests))

  -- what stands at the first place is found, and a write there replaces it
  pub found-at : (x' x : X) (xs : List X) (place : ℕ) → position p xs ≡ Some place → x ≡ slice_index_or xs place x
      → (find p xs ≡ Some x) × (slice_set xs place x' ≡ with_first p (λ _. x') xs)
  found-at x' x xs place is at =
      let here = place-cases xs place is in
      let at' : x ≡ slice_index_or xs (position_or_len p xs) x = rw here.1 at in
      let found = at-first x' x xs here.0 at' in
      (found.0, subst (λ i. slice_set xs i x' ≡ with_first p (λ _. x') xs) here.1 found.1)

  -- with no first place nothing is found
  pub not_found : (xs : List X) → position p xs ≡ None → find p xs ≡ None
  not_found xs is = none-after xs (cases (nat_lt (position_or_len p xs) (length xs)) refl is)
    where
      cases : (b : Bool) → nat_lt (position_or_len p xs) (length xs) ≡ b → cond b (Some (position_or_len p xs)) None ≡ None → nat_lt (position_or_len p xs) (length xs) ≡ false
      cases true test is = absurd (let no : Some (position_or_len p xs) ≡ None = is in cc)
      cases false test is = test
