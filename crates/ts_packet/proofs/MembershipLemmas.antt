-- Membership and tests on lists.
use Rattle.std.proofs.Common.{◌≡◌, Bool, true, false, ◌⊎◌, inl, inr, refl, sym, ap, ◌∙◌, List, [], ◌∷◌}
use Rattle.std.specs.Prelude.{filter, map}
use Rattle.std.specs.List.{list_any}
use Rattle.ts_packet.proofs.Cases.{by_test}
use Rattle.ts_packet.specs.Membership.{In}

module _ {X : Type 0} where
  pub In-map : {Y : Type 0} (f : X → Y) (x : X) (xs : List X) → In x xs → In (f x) (map f xs)
  In-map f x [] i = i
  In-map f x (y ∷ ys) (inl is) = inl (ap f is)
  In-map f x (y ∷ ys) (inr i) = inr (In-map f x ys i)

  pub In-mapped : {Y : Type 0} (f : X → Y) (y : Y) (xs : List X) → In y (map f xs) → (x : X) × In x xs × (y ≡ f x)
  In-mapped f y [] i = absurd i
  In-mapped f y (x ∷ xs) (inl is) = (x, inl refl, is)
  In-mapped f y (x ∷ xs) (inr i) = let r = In-mapped f y xs i in (r.0, inr r.1, r.2)

  pub In-filter : (p : X → Bool) (x : X) (xs : List X) → In x xs → p x ≡ true → In x (filter p xs)
  In-filter p x [] i t = i
  In-filter p x (y ∷ ys) (inl is) t = let u : p y ≡ true = ap p (sym is) ∙ t in simp u (inl is)
  In-filter p x (y ∷ ys) (inr i) t = by_test (p y) (λ u. simp u (inr (In-filter p x ys i t))) (λ u. simp u (In-filter p x ys i t))

  pub In-filtered : (p : X → Bool) (x : X) (xs : List X) → In x (filter p xs) → In x xs × (p x ≡ true)
  In-filtered p x [] i = absurd i
  In-filtered p x (y ∷ ys) i =
      by_test (p y)
      (λ u. let j = simp u at i in first u (λ k. In-filtered p x ys k) j)
      (λ u. let j = simp u at i in let r = In-filtered p x ys j in (inr r.0, r.1))
    where
      first : p y ≡ true → (In x (filter p ys) → In x ys × (p x ≡ true)) → (x ≡ y) ⊎ In x (filter p ys) → In x (y ∷ ys) × (p x ≡ true)
      first u later (inl is) = (inl is, ap p is ∙ u)
      first u later (inr j) = let r = later j in (inr r.0, r.1)

  pub any-false : (p : X → Bool) (x : X) (xs : List X) → list_any p xs ≡ false → In x xs → p x ≡ false
  any-false p x [] none i = absurd i
  any-false p x (y ∷ ys) none (inl is) = by_test (p y) (λ u. let no = simp u at none in cc) (λ u. ap p is ∙ u)
  any-false p x (y ∷ ys) none (inr i) = by_test (p y) (λ u. let no = simp u at none in cc) (λ u. let n = simp u at none in any-false p x ys n i)

  pub any-none : (p : X → Bool) (xs : List X) → ((x : X) → In x xs → p x ≡ false) → list_any p xs ≡ false
  any-none p [] none = refl
  any-none p (y ∷ ys) none = let u = none y (inl refl) in simp u (any-none p ys (λ x i. none x (inr i)))
