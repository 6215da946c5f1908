-- Lists filtered, and their first element that passes a test.
use Rattle.std.proofs.Common.{◌≡◌, Bool, true, false, ◌&&◌, ◌||◌, cond, List, [], ◌∷◌, ◌++◌, refl, ap, sym, ◌∙◌}
use Rattle.std.specs.Prelude.{filter}
use Rattle.std.specs.List.{list_any}
use Rattle.event_table.specs.Standing.{with_first}

module _ {X : Type 0} where
  pub filter-twice : (p q : X → Bool) → ((x : X) → p x ≡ true → q x ≡ true) → (xs : List X) → filter p (filter q xs) ≡ filter p xs
  filter-twice p q implies [] = refl
  filter-twice p q implies (x ∷ xs) = step (p x) (q x) refl refl (filter-twice p q implies xs)
    where
      step : (b c : Bool) → p x ≡ b → q x ≡ c → filter p (filter q xs) ≡ filter p xs → filter p (cond (q x) (x ∷ filter q xs) (filter q xs)) ≡ cond (p x) (x ∷ filter p xs) (filter p xs)
      step true true p_is q_is later = rw (q_is, p_is) (ap (λ ys. x ∷ ys) later)
      step true false p_is q_is later = absurd (let no : true ≡ false = sym (implies x p_is) ∙ q_is in cc)
      step false true p_is q_is later = rw (q_is, p_is) later
      step false false p_is q_is later = rw (q_is, p_is) later

  pub filter-push : (p : X → Bool) (x : X) → p x ≡ true → (xs : List X) → filter p (xs ++ x ∷ []) ≡ filter p xs ++ x ∷ []
  filter-push p x passes [] = rw passes refl
  filter-push p x passes (y ∷ ys) = step (p y) (filter-push p x passes ys)
    where
      step : (b : Bool) → filter p (ys ++ x ∷ []) ≡ filter p ys ++ x ∷ [] → cond b (y ∷ filter p (ys ++ x ∷ [])) (filter p (ys ++ x ∷ [])) ≡ cond b (y ∷ filter p ys) (filter p ys) ++ x ∷ []
      step true later = ap (λ zs. y ∷ zs) later
      step false later = later

  -- the first element that passes both tests is the first of those that pass the one that passes the other
  pub with_first-filter : (q p : X → Bool) (f : X → X) → ((x : X) → q x ≡ true → q (f x) ≡ true) → (xs : List X)
      → filter q (with_first (λ x. q x && p x) f xs) ≡ with_first p f (filter q xs)
  with_first-filter q p f stays [] = refl
  with_first-filter q p f stays (x ∷ xs) = step (q x) (p x) refl refl (with_first-filter q p f stays xs)
    where
      step : (b c : Bool) → q x ≡ b → p x ≡ c → filter q (with_first (λ y. q y && p y) f xs) ≡ with_first p f (filter q xs)
          → filter q (cond (q x && p x) (f x ∷ xs) (x ∷ with_first (λ y. q y && p y) f xs)) ≡ with_first p f (cond (q x) (x ∷ filter q xs) (filter q xs))
      step true true q_is p_is later = rw (q_is, p_is) (rw (stays x q_is) refl)
      step true false q_is p_is later = rw (q_is, p_is) (rw q_is (ap (λ ys. x ∷ ys) later))
      step false c q_is p_is later = rw q_is (rw q_is later)

  pub any-mono : (p q : X → Bool) → ((x : X) → p x ≡ true → q x ≡ true) → (xs : List X) → list_any p xs ≡ true → list_any q xs ≡ true
  any-mono p q implies [] any = any
  any-mono p q implies (x ∷ xs) any = step (p x) (q x) refl refl any (any-mono p q implies xs)
    where
      step : (b c : Bool) → p x ≡ b → q x ≡ c → (b || list_any p xs) ≡ true → (list_any p xs ≡ true → list_any q xs ≡ true) → (c || list_any q xs) ≡ true
      step b true p_is q_is any later = refl
      step true false p_is q_is any later = absurd (let no : true ≡ false = sym (implies x p_is) ∙ q_is in cc)
      step false false p_is q_is any later = later any
