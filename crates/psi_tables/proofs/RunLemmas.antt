-- One thing after another.
use Rattle.std.proofs.Common.{◌≡◌, ℕ, zero, suc, ◌<◌, ◌≤◌, List, [], ◌∷◌, ◌++◌, length, drop, true, false, Option, Some, None, refl, sym, ap, subst, ◌∙◌, arith}
use Rattle.std.specs.Prelude.{option_map, is_some}
use Rattle.std.specs.Option.{option_map_or, option_and_then}
use Rattle.std.specs.List.{flat_map, AllByRecursion}
use Rattle.std.proofs.lemmas.List.{drop_at}
use Rattle.std.proofs.lemmas.List.Concat.{flat_map-cons}
use Rattle.wire_fields.specs.Numbers.{AreBytes}
use Rattle.wire_fields.proofs.Cells.{AreBytes-drop}
use Rattle.psi_tables.specs.Runs.{run_within, run_of, things_within, things_of}

module _ {A : Type 0} (at : List ℕ → Option (A × List ℕ)) where
  -- what is taken from the front is a byte at least
  abbrev pub Shortens : Type 0
  Shortens = (bytes : List ℕ) (x : A) (rest : List ℕ) → at bytes ≡ Some (x, rest) → length rest < length bytes

-- so many turns are as good as any other number of them, if they are enough
module _ {A : Type 0} (at : List ℕ → Option (A × List ℕ)) (shortens : Shortens at) where
  run_at : (n m : ℕ) (bytes : List ℕ) (r : Option (A × List ℕ)) → at bytes ≡ r → length bytes ≤ suc n → length bytes ≤ suc m
      → ((rest : List ℕ) → length rest ≤ n → length rest ≤ m → run_within at n rest ≡ run_within at m rest)
      → option_and_then (λ x. option_map (λ xs. x.0 ∷ xs) (run_within at n x.1)) r ≡ option_and_then (λ x. option_map (λ xs. x.0 ∷ xs) (run_within at m x.1)) r
  run_at n m bytes None e ln lm same = refl
  run_at n m bytes (Some x) e ln lm same =
      let short = shortens bytes x.0 x.1 e in
      ap (λ (r : Option (List A)). option_map (λ (xs : List A). x.0 ∷ xs) r) (same x.1 (omega arith) (omega arith))

  pub run_enough : (n m : ℕ) (bytes : List ℕ) → length bytes ≤ n → length bytes ≤ m → run_within at n bytes ≡ run_within at m bytes
  unfolding run_within
  run_enough zero zero bytes ln lm = refl
  run_enough zero (suc m) [] ln lm = refl
  run_enough zero (suc m) (b ∷ bytes) ln lm = absurd (omega arith)
  run_enough (suc n) zero [] ln lm = refl
  run_enough (suc n) zero (b ∷ bytes) ln lm = absurd (omega arith)
  run_enough (suc n) (suc m) [] ln lm = refl
  run_enough (suc n) (suc m) (b ∷ bytes) ln lm = run_at n m (b ∷ bytes) (at (b ∷ bytes)) refl ln lm (run_enough n m)

  things_at : (n m : ℕ) (bytes : List ℕ) (r : Option (A × List ℕ)) → at bytes ≡ r → length bytes ≤ suc n → length bytes ≤ suc m
      → ((rest : List ℕ) → length rest ≤ n → length rest ≤ m → things_within at n rest ≡ things_within at m rest)
      → option_map_or (λ x. x.0 ∷ things_within at n x.1) r [] ≡ option_map_or (λ x. x.0 ∷ things_within at m x.1) r []
  things_at n m bytes None e ln lm same = refl
  things_at n m bytes (Some x) e ln lm same =
      let short = shortens bytes x.0 x.1 e in
      ap (λ (xs : List A). x.0 ∷ xs) (same x.1 (omega arith) (omega arith))

  things_none : (bytes : List ℕ) (r : Option (A × List ℕ)) → at bytes ≡ r → length bytes ≤ 0 → r ≡ None
  things_none bytes None e l = refl
  things_none bytes (Some x) e l = let short = shortens bytes x.0 x.1 e in absurd (omega arith)

  pub things_enough : (n m : ℕ) (bytes : List ℕ) → length bytes ≤ n → length bytes ≤ m → things_within at n bytes ≡ things_within at m bytes
  unfolding things_within
  things_enough zero zero bytes ln lm = refl
  things_enough zero (suc m) bytes ln lm = rw (things_none bytes (at bytes) refl ln) refl
  things_enough (suc n) zero bytes ln lm = rw (things_none bytes (at bytes) refl lm) refl
  things_enough (suc n) (suc m) bytes ln lm = things_at n m bytes (at bytes) refl ln lm (things_enough n m)

  -- ---- a step

  pub run_more : (bytes : List ℕ) (x : A) (rest : List ℕ) → at bytes ≡ Some (x, rest) → run_of at bytes ≡ option_map (λ (xs : List A). x ∷ xs) (run_of at rest)
  unfolding run_of run_within
  run_more [] x rest e = let short = shortens [] x rest e in absurd (omega arith)
  run_more (b ∷ bytes) x rest e =
      let short = shortens (b ∷ bytes) x rest e in
      rw e (ap (λ (r : Option (List A)). option_map (λ (xs : List A). x ∷ xs) r) (run_enough (length bytes) (length rest) rest (omega arith) (omega arith)))

  pub run_ends : (bytes : List ℕ) → at bytes ≡ None → 0 < length bytes → run_of at bytes ≡ None
  unfolding run_of run_within
  run_ends [] e some = absurd (omega arith)
  run_ends (b ∷ bytes) e some = rw e refl

  pub run_done : (bytes : List ℕ) → length bytes ≡ 0 → run_of at bytes ≡ Some []
  unfolding run_of run_within
  run_done [] e = refl
  run_done (b ∷ bytes) e = absurd (omega arith)

  pub things_more : (bytes : List ℕ) (x : A) (rest : List ℕ) → at bytes ≡ Some (x, rest) → things_of at bytes ≡ x ∷ things_of at rest
  unfolding things_of things_within
  things_more [] x rest e = let short = shortens [] x rest e in absurd (omega arith)
  things_more (b ∷ bytes) x rest e =
      let short = shortens (b ∷ bytes) x rest e in
      rw e (ap (λ (xs : List A). x ∷ xs) (things_enough (length bytes) (length rest) rest (omega arith) (omega arith)))

  pub things_ended : (bytes : List ℕ) → at bytes ≡ None → things_of at bytes ≡ []
  unfolding things_of things_within
  things_ended [] e = refl
  things_ended (b ∷ bytes) e = rw e refl

  some_pushed : (x : A) (r : Option (List A)) → is_some (option_map (λ (xs : List A). x ∷ xs) r) ≡ is_some r
  some_pushed x None = refl
  some_pushed x (Some xs) = refl

  pub fills_more : (bytes : List ℕ) (x : A) (rest : List ℕ) → at bytes ≡ Some (x, rest) → is_some (run_of at bytes) ≡ is_some (run_of at rest)
  fills_more bytes x rest e = ap (λ (r : Option (List A)). is_some r) (run_more bytes x rest e) ∙ some_pushed x (run_of at rest)

  pub fills_ends : (bytes : List ℕ) → at bytes ≡ None → 0 < length bytes → is_some (run_of at bytes) ≡ false
  fills_ends bytes e some = ap (λ (r : Option (List A)). is_some r) (run_ends bytes e some)

  pub fills_done : (bytes : List ℕ) → length bytes ≡ 0 → is_some (run_of at bytes) ≡ true
  fills_done bytes e = ap (λ (r : Option (List A)). is_some r) (run_done bytes e)

-- ---- what fills the bytes is their spelling

pub record SpelledFirst {A : Type 0} (spell : A → List ℕ) (Fits : A → Type 0) (bytes : List ℕ) (x : A) (rest : List ℕ) : Type 0 where
  pub parts : bytes ≡ spell x ++ rest
  pub fits : Fits x

pub record Spelled {A : Type 0} (spell : A → List ℕ) (Fits : A → Type 0) (bytes : List ℕ) (xs : List A) : Type 0 where
  pub parts : bytes ≡ flat_map spell xs
  pub fits : AllByRecursion Fits xs

rest_bytes : (front bytes rest : List ℕ) → AreBytes bytes → bytes ≡ front ++ rest → AreBytes rest
rest_bytes front bytes rest are e =
    let behind : drop (length front) bytes ≡ rest = ap (λ (xs : List ℕ). drop (length front) xs) e ∙ drop_at front rest (length front) refl in
    subst (λ (xs : List ℕ). AreBytes xs) behind (AreBytes-drop (length front) bytes are)

module _ {A : Type 0} (at : List ℕ → Option (A × List ℕ)) (shortens : Shortens at) (spell : A → List ℕ) (Fits : A → Type 0) where
  module _ (taken : (bytes : List ℕ) (x : A) (rest : List ℕ) → AreBytes bytes → at bytes ≡ Some (x, rest) → SpelledFirst spell Fits bytes x rest) where
    spelled_none : (bytes : List ℕ) → at bytes ≡ None → is_some (run_of at bytes) ≡ true → Spelled spell Fits bytes (things_of at bytes)
    spelled_none [] e all =
        let none = things_ended at shortens [] e in
        subst (λ (xs : List A). Spelled spell Fits [] xs) (sym none) (record { parts = refl; fits = tt })
    spelled_none (b ∷ bytes) e all =
        let ends = fills_ends at shortens (b ∷ bytes) e (omega arith) in
        absurd cc

    spelled_by : (n : ℕ) (bytes : List ℕ) (r : Option (A × List ℕ)) → ((rest : List ℕ) → length rest ≤ n → AreBytes rest → is_some (run_of at rest) ≡ true → Spelled spell Fits rest (things_of at rest))
        → at bytes ≡ r → length bytes ≤ suc n → AreBytes bytes → is_some (run_of at bytes) ≡ true → Spelled spell Fits bytes (things_of at bytes)
    spelled_by n bytes None fewer e le are all = spelled_none bytes e all
    spelled_by n bytes (Some x) fewer e le are all =
        let short = shortens bytes x.0 x.1 e in
        let first = taken bytes x.0 x.1 are e in
        let all-rest : is_some (run_of at x.1) ≡ true = sym (fills_more at shortens bytes x.0 x.1 e) ∙ all in
        let others = fewer x.1 (omega arith) (rest_bytes (spell x.0) bytes x.1 are first.parts) all-rest in
        let whole : bytes ≡ flat_map spell (x.0 ∷ things_of at x.1) = first.parts ∙ ap (λ (xs : List ℕ). spell x.0 ++ xs) others.parts ∙ sym (flat_map-cons spell x.0 (things_of at x.1)) in
        let made : Spelled spell Fits bytes (x.0 ∷ things_of at x.1) = record { parts = whole; fits = (first.fits, others.fits) } in
        subst (λ (xs : List A). Spelled spell Fits bytes xs) (sym (things_more at shortens bytes x.0 x.1 e)) made

    spelled_within : (n : ℕ) (bytes : List ℕ) → length bytes ≤ n → AreBytes bytes → is_some (run_of at bytes) ≡ true → Spelled spell Fits bytes (things_of at bytes)
    spelled_within zero bytes le are all = spelled_none bytes (things_none at shortens bytes (at bytes) refl le) all
    spelled_within (suc n) bytes le are all = spelled_by n bytes (at bytes) (spelled_within n) refl le are all

    pub things_spelled : (bytes : List ℕ) → AreBytes bytes → is_some (run_of at bytes) ≡ true → Spelled spell Fits bytes (things_of at bytes)
    things_spelled bytes are all = spelled_within (length bytes) bytes (omega arith) are all

  module _ (back : (x : A) (rest : List ℕ) → Fits x → at (spell x ++ rest) ≡ Some (x, rest)) where
    none_at : at [] ≡ None
    none_at = things_none at shortens [] (at []) refl (omega arith)

    pub things_back : (xs : List A) → AllByRecursion Fits xs → things_of at (flat_map spell xs) ≡ xs
    things_back [] all = things_ended at shortens [] none_at
    things_back (x ∷ xs) all =
        ap (λ (bs : List ℕ). things_of at bs) (flat_map-cons spell x xs) ∙ things_more at shortens (spell x ++ flat_map spell xs) x (flat_map spell xs) (back x (flat_map spell xs) all.0)
        ∙ ap (λ (ys : List A). x ∷ ys) (things_back xs all.1)

    pub fills_back : (xs : List A) → AllByRecursion Fits xs → is_some (run_of at (flat_map spell xs)) ≡ true
    fills_back [] all = fills_done at shortens [] refl
    fills_back (x ∷ xs) all =
        ap (λ (bs : List ℕ). is_some (run_of at bs)) (flat_map-cons spell x xs) ∙ fills_more at shortens (spell x ++ flat_map spell xs) x (flat_map spell xs) (back x (flat_map spell xs) all.0)
        ∙ fills_back xs all.1
