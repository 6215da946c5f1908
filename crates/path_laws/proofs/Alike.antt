-- Lists in two orders: one oldest first, the other newest first, whose elements answer to one another.
use Rattle.std.proofs.Common.{◌≡◌, Bool, true, false, ◌||◌, ◌⊎◌, inl, inr, refl, sym, ap, ◌∙◌, subst, List, [], ◌∷◌, ◌++◌, length, arith}
use Rattle.std.specs.Prelude.{map, filter, find, None, Some}
use Rattle.std.specs.List.{list_any}
use Rattle.std.proofs.lemmas.List.{map-append}
use Rattle.ts_packet.proofs.Cases.{by_test}
use Rattle.event_table.specs.Standing.{with_first}
use Rattle.ts_packet.specs.Membership.{In}

-- ---- one list

or-swap : (a b c : Bool) → (a || (b || c)) ≡ ((a || b) || c)
or-swap true b c = refl
or-swap false b c = refl

or-turn : (a b : Bool) → (a || b) ≡ (b || a)
or-turn true true = refl
or-turn true false = refl
or-turn false true = refl
or-turn false false = refl

module _ {X : Type 0} where
  pub In-last : (x : X) (xs : List X) → In x (xs ++ x ∷ [])
  In-last x [] = inl refl
  In-last x (y ∷ xs) = inr (In-last x xs)

  pub In-front : (x z : X) (xs : List X) → In x xs → In x (xs ++ z ∷ [])
  In-front x z [] i = absurd i
  In-front x z (y ∷ xs) (inl is) = inl is
  In-front x z (y ∷ xs) (inr i) = inr (In-front x z xs i)

  pub In-pushed : (x z : X) (xs : List X) → In x (xs ++ z ∷ []) → In x xs ⊎ (x ≡ z)
  In-pushed x z [] (inl is) = inr is
  In-pushed x z [] (inr i) = absurd i
  In-pushed x z (y ∷ xs) (inl is) = inl (inl is)
  In-pushed x z (y ∷ xs) (inr i) = further (In-pushed x z xs i)
    where
      further : In x xs ⊎ (x ≡ z) → In x (y ∷ xs) ⊎ (x ≡ z)
      further (inl j) = inl (inr j)
      further (inr is) = inr is

  pub any-pushed : (p : X → Bool) (z : X) (xs : List X) → list_any p (xs ++ z ∷ []) ≡ (p z || list_any p xs)
  any-pushed p z [] = refl
  any-pushed p z (x ∷ xs) = ap (λ b. p x || b) (any-pushed p z xs) ∙ or-swap (p x) (p z) (list_any p xs) ∙ ap (λ b. b || list_any p xs) (or-turn (p x) (p z)) ∙ sym (or-swap (p z) (p x) (list_any p xs))

  pub count-pushed : (p : X → Bool) (z : X) (xs : List X) → length (filter p (xs ++ z ∷ [])) ≡ length (filter p (z ∷ xs))
  count-pushed p z [] = refl
  count-pushed p z (x ∷ xs) =
      let rest = count-pushed p z xs in
      by_test (p x)
      (λ u. by_test (p z) (λ v. simp (u, v) (let r = simp v at rest in omega (arith, r))) (λ v. simp (u, v) (let r = simp v at rest in omega (arith, r))))
      (λ u. by_test (p z) (λ v. simp (u, v) (let r = simp v at rest in omega (arith, r))) (λ v. simp (u, v) (let r = simp v at rest in omega (arith, r))))

  pub first-skips : (p : X → Bool) (f : X → X) (z : X) (xs : List X) → p z ≡ false → with_first p f (xs ++ z ∷ []) ≡ with_first p f xs ++ z ∷ []
  first-skips p f z [] off = simp off refl
  first-skips p f z (x ∷ xs) off =
      by_test (p x) (λ u. simp u refl) (λ u. simp u (ap (λ l. x ∷ l) (first-skips p f z xs off)))

  pub first-last : (p : X → Bool) (f : X → X) (z : X) (xs : List X) → list_any p xs ≡ false → p z ≡ true → with_first p f (xs ++ z ∷ []) ≡ xs ++ f z ∷ []
  first-last p f z [] none on = simp on refl
  first-last p f z (x ∷ xs) none on =
      by_test (p x)
      (λ u. let no = simp u at none in cc)
      (λ u. let n = simp u at none in simp u (ap (λ l. x ∷ l) (first-last p f z xs n on)))

  pub find-none : (p : X → Bool) (xs : List X) → find p xs ≡ None → list_any p xs ≡ false
  find-none p [] is = refl
  find-none p (x ∷ xs) is =
      by_test (p x) (λ u. let no = simp u at is in cc) (λ u. let n = simp u at is in simp u (find-none p xs n))

  pub find-some : (p : X → Bool) (s : X) (xs : List X) → find p xs ≡ Some s → In s xs × (p s ≡ true)
  find-some p s [] is = cc
  find-some p s (x ∷ xs) is =
      by_test (p x)
      (λ u. let one : Some x ≡ Some s = simp u at is in let same : x ≡ s = cc in (inl (sym same), ap p (sym same) ∙ u))
      (λ u. let n = simp u at is in let r = find-some p s xs n in (inr r.0, r.1))

  pub map-off : (q : X → Bool) (g : X → X) → ((x : X) → q x ≡ false → g x ≡ x) → (xs : List X) → list_any q xs ≡ false → map g xs ≡ xs
  map-off q g off [] none = refl
  map-off q g off (x ∷ xs) none =
      by_test (q x)
      (λ u. let no = simp u at none in cc)
      (λ u. let n = simp u at none in ap (λ y. y ∷ map g xs) (off x u) ∙ ap (λ l. x ∷ l) (map-off q g off xs n))

  pub map-same : (g : X → X) (xs : List X) → ((x : X) → In x xs → g x ≡ x) → map g xs ≡ xs
  map-same g [] same = refl
  map-same g (x ∷ xs) same = ap (λ y. y ∷ map g xs) (same x (inl refl)) ∙ ap (λ l. x ∷ l) (map-same g xs (λ y i. same y (inr i)))

  -- no two elements pass the test
  abbrev pub AtMostOnce : (X → Bool) → List X → Type 0
  AtMostOnce q [] = Unit {0}
  AtMostOnce q (y ∷ ys) = (q y ≡ true → list_any q ys ≡ false) × AtMostOnce q ys

-- ---- two lists

module _ {X Y : Type 0} (R : X → Y → Type 0) where
  abbrev pub Alike : List X → List Y → Type 0
  Alike xs [] = xs ≡ []
  Alike xs (y ∷ ys) = (zs : List X) × (x : X) × (xs ≡ zs ++ x ∷ []) × R x y × Alike zs ys

  pub alike-in : (x : X) (xs : List X) (ys : List Y) → Alike xs ys → In x xs → (y : Y) × In y ys × R x y
  alike-in x xs [] a i = absurd (subst (In x) a i)
  alike-in x xs (y ∷ ys) a i = which (λ j. alike-in x a.0 ys a.4 j) (In-pushed x a.1 a.0 (subst (In x) a.2 i))
    where
      which : (In x a.0 → (z : Y) × In z ys × R x z) → In x a.0 ⊎ (x ≡ a.1) → (z : Y) × In z (y ∷ ys) × R x z
      which older (inl j) = let r = older j in (r.0, inr r.1, r.2)
      which older (inr is) = (y, inl refl, subst (λ z. R z y) (sym is) a.3)

  pub alike-back : (y : Y) (xs : List X) (ys : List Y) → Alike xs ys → In y ys → (x : X) × In x xs × R x y
  alike-back y xs [] a i = absurd i
  alike-back y xs (z ∷ ys) a (inl is) = (a.1, subst (In a.1) (sym a.2) (In-last a.1 a.0), subst (R a.1) (sym is) a.3)
  alike-back y xs (z ∷ ys) a (inr i) = let r = alike-back y a.0 ys a.4 i in (r.0, subst (In r.0) (sym a.2) (In-front r.0 a.1 a.0 r.1), r.2)

  module _ (p : X → Bool) (q : Y → Bool) (same : (x : X) (y : Y) → R x y → p x ≡ q y) where
    pub alike-any : (xs : List X) (ys : List Y) → Alike xs ys → list_any p xs ≡ list_any q ys
    alike-any xs [] a = ap (list_any p) a
    alike-any xs (y ∷ ys) a =
        ap (list_any p) a.2 ∙ any-pushed p a.1 a.0 ∙ ap (λ b. b || list_any p a.0) (same a.1 y a.3) ∙ ap (λ b. q y || b) (alike-any a.0 ys a.4)

    pub alike-count : (xs : List X) (ys : List Y) → Alike xs ys → length (filter p xs) ≡ length (filter q ys)
    alike-count xs [] a = ap (λ l. length (filter p l)) a
    alike-count xs (y ∷ ys) a =
        let rest = alike-count a.0 ys a.4 in
        let whole = ap (λ l. length (filter p l)) a.2 ∙ count-pushed p a.1 a.0 in
        by_test (q y)
        (λ u. let v : p a.1 ≡ true = same a.1 y a.3 ∙ u in let w = simp v at whole in simp u (omega (arith, w, rest)))
        (λ u. let v : p a.1 ≡ false = same a.1 y a.3 ∙ u in let w = simp v at whole in simp u (omega (arith, w, rest)))

    -- the one element that passes is changed
    pub alike-first : (f : X → X) (g : Y → Y) → ((y : Y) → q y ≡ false → g y ≡ y) → (xs : List X) (ys : List Y)
        → ((x : X) (y : Y) → In y ys → R x y → q y ≡ true → R (f x) (g y)) → AtMostOnce q ys → Alike xs ys → Alike (with_first p f xs) (map g ys)
    alike-first f g off xs [] on once a = ap (with_first p f) a
    alike-first f g off xs (y ∷ ys) on once a =
        by_test (q y)
        (λ u. let none = once.0 u in (
          a.0,
          f a.1,
          ap (with_first p f) a.2 ∙ first-last p f a.1 a.0 (alike-any a.0 ys a.4 ∙ none) (same a.1 y a.3 ∙ u),
          on a.1 y (inl refl) a.3 u,
          subst (Alike a.0) (sym (map-off q g off ys none)) a.4,
        ))
        (λ u. (
          with_first p f a.0,
          a.1,
          ap (with_first p f) a.2 ∙ first-skips p f a.1 a.0 (same a.1 y a.3 ∙ u),
          subst (R a.1) (sym (off y u)) a.3,
          alike-first f g off a.0 ys (λ x z i. on x z (inr i)) once.1 a.4,
        ))

-- all elements are changed
pub alike-map : {X Y : Type 0} (R S : X → Y → Type 0) (f : X → X) (g : Y → Y) → (xs : List X) (ys : List Y) → ((x : X) (y : Y) → In y ys → R x y → S (f x) (g y)) → Alike R xs ys → Alike S (map f xs) (map g ys)
alike-map R S f g xs [] each a = ap (map f) a
alike-map R S f g xs (y ∷ ys) each a =
    (map f a.0, f a.1, ap (map f) a.2 ∙ map-append f a.0 (a.1 ∷ []), each a.1 y (inl refl) a.3, alike-map R S f g a.0 ys (λ x z i. each x z (inr i)) a.4)
