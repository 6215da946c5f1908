-- The nearest pictures to a time, found picture by picture.
use Rattle.std.proofs.Common.{◌≡◌, ◌⊎◌, ℕ, ◌<◌, ◌≤◌, Bool, true, false, nat_lt, nat_le, List, [], ◌∷◌, Option, None, Some, refl, sym, subst, inl, inr, arith}
use Rattle.std.proofs.lemmas.Bool.{ltb-true, ltb-false, leb-true, leb-false}
use Rattle.std.specs.Prelude.{MatchOption}
use Rattle.break_choices.specs.declared.pictures.Picture.{Picture}
use Rattle.break_choices.specs.declared.pictures.Wanted.{Wanted}
use Rattle.break_choices.specs.Pictures.{takes, IsOneOf, EachOf, IsFirstFrom, NoPictureFrom, IsLastBefore, NoPictureBefore, or_earlier, earlier_picture, first_picture, or_later, later_picture, last_picture}

by_test : {P : Type 0} (b : Bool) → (b ≡ true → P) → (b ≡ false → P) → P
by_test {P} b s t = (elim b as (λ v. (v ≡ true → P) → (v ≡ false → P) → P) [ true ↦ λ h k. h refl | false ↦ λ h k. k refl ]) s t

-- what holds of each picture, where this follows from that
pub each_by : {P Q : Picture → Type 0} (ps : List Picture) → ((q : Picture) → P q → Q q) → EachOf P ps → EachOf Q ps
each_by [] f h = h
each_by (q ∷ qs) f (here, rest) = (f q here, each_by qs f rest)

some_same : {p q : Picture} → Some p ≡ Some q → p ≡ q
some_same e = cc

-- ---- the first

-- what is found from a best one on, among some pictures: that one, or one of them; it is not behind either
abbrev FirstAfter : Wanted → ℕ → Option Picture → List Picture → Option Picture → Type 0
FirstAfter w at best ps None = (best ≡ None) × NoPictureFrom w at ps
FirstAfter w at best ps (Some p) =
    ((best ≡ Some p) ⊎ (IsOneOf ps p × (takes w p ≡ true) × (at ≤ p.time)))
    × ((b : Picture) → best ≡ Some b → p.time ≤ b.time)
    × EachOf (λ q. takes w q ≡ true → at ≤ q.time → p.time ≤ q.time) ps

first_skips : (w : Wanted) (at : ℕ) (best : Option Picture) (q : Picture) (qs : List Picture) (r : Option Picture) → (takes w q ≡ true → q.time < at)
    → FirstAfter w at best qs r → FirstAfter w at best (q ∷ qs) r
first_skips w at best q qs None skip h = (h.0, (skip, h.1))
first_skips w at best q qs (Some p) skip (is, low, each) = (
  elim is [ inl e ↦ inl e | inr x ↦ inr (inr x.0, x.1, x.2) ],
  low,
  (λ t f. absurd (omega (arith, skip t, f)), each),
)

first_takes : (w : Wanted) (at : ℕ) (best : Option Picture) (q : Picture) (qs : List Picture) (r : Option Picture) → takes w q ≡ true → at ≤ q.time
    → FirstAfter w at (or_earlier q best) qs r → FirstAfter w at best (q ∷ qs) r
first_takes w at None q qs None t f h = absurd (let e = h.0 in cc)
first_takes w at None q qs (Some p) t f (is, low, each) = (
  elim is [ inl e ↦ inr (inl (sym (some_same e)), subst (λ x. takes w x ≡ true) (some_same e) t, subst (λ x. at ≤ x.time) (some_same e) f) | inr x ↦ inr (inr x.0, x.1, x.2) ],
  λ b e. absurd (cc),
  (λ _ _. low q refl, each),
)
first_takes w at (Some b) q qs r t f h = by_test (nat_le b.time q.time)
    (λ e. before r (leb-true b.time q.time e) (rw e at h))
    (λ e. behind r (leb-false b.time q.time e) (rw e at h))
  where
    before : (r : Option Picture) → b.time ≤ q.time → FirstAfter w at (Some b) qs r → FirstAfter w at (Some b) (q ∷ qs) r
    before None lt k = absurd (let e = k.0 in cc)
    before (Some p) lt (is, low, each) = (
      elim is [ inl e ↦ inl e | inr x ↦ inr (inr x.0, x.1, x.2) ],
      low,
      (λ _ _. omega (arith, low b refl, lt), each),
    )

    behind : (r : Option Picture) → q.time < b.time → FirstAfter w at (Some q) qs r → FirstAfter w at (Some b) (q ∷ qs) r
    behind None lt k = absurd (let e = k.0 in cc)
    behind (Some p) lt (is, low, each) = (
      elim is [ inl e ↦ inr (inl (sym (some_same e)), subst (λ x. takes w x ≡ true) (some_same e) t, subst (λ x. at ≤ x.time) (some_same e) f) | inr x ↦ inr (inr x.0, x.1, x.2) ],
      λ c e. subst (λ x. p.time ≤ x.time) (some_same e) (omega (arith, low q refl, lt)),
      (λ _ _. low q refl, each),
    )

first_after : (w : Wanted) (at : ℕ) (best : Option Picture) (ps : List Picture) → FirstAfter w at best ps (first_picture w at best ps)
unfolding first_picture
first_after w at None [] = (refl, tt)
first_after w at (Some b) [] = (inl refl, λ c e. subst (λ x. b.time ≤ x.time) (some_same e) (omega arith), tt)
first_after w at best (q ∷ qs) = by_test (takes w q)
    (λ t. by_test (nat_lt q.time at)
    (λ l. first_skips w at best q qs (first_picture w at (earlier_picture w at best q) qs) (λ _. ltb-true q.time at l)
    (let h = first_after w at (earlier_picture w at best q) qs in subst (λ x. FirstAfter w at x qs (first_picture w at (earlier_picture w at best q) qs)) (simp (t, l)) h))
    (λ l. first_takes w at best q qs (first_picture w at (earlier_picture w at best q) qs) t (ltb-false q.time at l)
    (let h = first_after w at (earlier_picture w at best q) qs in subst (λ x. FirstAfter w at x qs (first_picture w at (earlier_picture w at best q) qs)) (simp (t, l)) h)))
    (λ t. first_skips w at best q qs (first_picture w at (earlier_picture w at best q) qs) (λ u. absurd (cc))
    (let h = first_after w at (earlier_picture w at best q) qs in subst (λ x. FirstAfter w at x qs (first_picture w at (earlier_picture w at best q) qs)) (simp t) h))

-- THE FIRST is what is found
pub first_found : (w : Wanted) (at : ℕ) (ps : List Picture) (r : Option Picture) → r ≡ first_picture w at None ps → MatchOption r (NoPictureFrom w at ps) (IsFirstFrom w at ps)
first_found w at ps r e = found r (subst (λ x. FirstAfter w at None ps x) (sym e) (first_after w at None ps))
  where
    found : (r : Option Picture) → FirstAfter w at None ps r → MatchOption r (NoPictureFrom w at ps) (IsFirstFrom w at ps)
    found None h = h.1
    found (Some p) (is, low, each) = elim is [ inl e ↦ absurd (cc) | inr x ↦ record { of = x.0; taken = x.1; from = x.2; first = each } ]

-- ---- the last

-- what is found from a best one on, among some pictures: that one, or one of them; it is not before either
abbrev LastAfter : Wanted → ℕ → Option Picture → List Picture → Option Picture → Type 0
LastAfter w at best ps None = (best ≡ None) × NoPictureBefore w at ps
LastAfter w at best ps (Some p) =
    ((best ≡ Some p) ⊎ (IsOneOf ps p × (takes w p ≡ true) × (p.time < at)))
    × ((b : Picture) → best ≡ Some b → b.time ≤ p.time)
    × EachOf (λ q. takes w q ≡ true → q.time < at → q.time ≤ p.time) ps

last_skips : (w : Wanted) (at : ℕ) (best : Option Picture) (q : Picture) (qs : List Picture) (r : Option Picture) → (takes w q ≡ true → at ≤ q.time)
    → LastAfter w at best qs r → LastAfter w at best (q ∷ qs) r
last_skips w at best q qs None skip h = (h.0, (skip, h.1))
last_skips w at best q qs (Some p) skip (is, low, each) = (
  elim is [ inl e ↦ inl e | inr x ↦ inr (inr x.0, x.1, x.2) ],
  low,
  (λ t f. absurd (omega (arith, skip t, f)), each),
)

last_takes : (w : Wanted) (at : ℕ) (best : Option Picture) (q : Picture) (qs : List Picture) (r : Option Picture) → takes w q ≡ true → q.time < at
    → LastAfter w at (or_later q best) qs r → LastAfter w at best (q ∷ qs) r
last_takes w at None q qs None t f h = absurd (let e = h.0 in cc)
last_takes w at None q qs (Some p) t f (is, low, each) = (
  elim is [ inl e ↦ inr (inl (sym (some_same e)), subst (λ x. takes w x ≡ true) (some_same e) t, subst (λ x. x.time < at) (some_same e) f) | inr x ↦ inr (inr x.0, x.1, x.2) ],
  λ b e. absurd (cc),
  (λ _ _. low q refl, each),
)
last_takes w at (Some b) q qs r t f h = by_test (nat_le q.time b.time)
    (λ e. before r (leb-true q.time b.time e) (rw e at h))
    (λ e. behind r (leb-false q.time b.time e) (rw e at h))
  where
    before : (r : Option Picture) → q.time ≤ b.time → LastAfter w at (Some b) qs r → LastAfter w at (Some b) (q ∷ qs) r
    before None lt k = absurd (let e = k.0 in cc)
    before (Some p) lt (is, low, each) = (
      elim is [ inl e ↦ inl e | inr x ↦ inr (inr x.0, x.1, x.2) ],
      low,
      (λ _ _. omega (arith, low b refl, lt), each),
    )

    behind : (r : Option Picture) → b.time < q.time → LastAfter w at (Some q) qs r → LastAfter w at (Some b) (q ∷ qs) r
    behind None lt k = absurd (let e = k.0 in cc)
    behind (Some p) lt (is, low, each) = (
      elim is [ inl e ↦ inr (inl (sym (some_same e)), subst (λ x. takes w x ≡ true) (some_same e) t, subst (λ x. x.time < at) (some_same e) f) | inr x ↦ inr (inr x.0, x.1, x.2) ],
      λ c e. subst (λ x. x.time ≤ p.time) (some_same e) (omega (arith, low q refl, lt)),
      (λ _ _. low q refl, each),
    )

last_after : (w : Wanted) (at : ℕ) (best : Option Picture) (ps : List Picture) → LastAfter w at best ps (last_picture w at best ps)
unfolding last_picture
last_after w at None [] = (refl, tt)
last_after w at (Some b) [] = (inl refl, λ c e. subst (λ x. x.time ≤ b.time) (some_same e) (omega arith), tt)
last_after w at best (q ∷ qs) = by_test (takes w q)
    (λ t. by_test (nat_le at q.time)
    (λ l. last_skips w at best q qs (last_picture w at (later_picture w at best q) qs) (λ _. leb-true at q.time l)
    (let h = last_after w at (later_picture w at best q) qs in subst (λ x. LastAfter w at x qs (last_picture w at (later_picture w at best q) qs)) (simp (t, l)) h))
    (λ l. last_takes w at best q qs (last_picture w at (later_picture w at best q) qs) t (leb-false at q.time l)
    (let h = last_after w at (later_picture w at best q) qs in subst (λ x. LastAfter w at x qs (last_picture w at (later_picture w at best q) qs)) (simp (t, l)) h)))
    (λ t. last_skips w at best q qs (last_picture w at (later_picture w at best q) qs) (λ u. absurd (cc))
    (let h = last_after w at (later_picture w at best q) qs in subst (λ x. LastAfter w at x qs (last_picture w at (later_picture w at best q) qs)) (simp t) h))

-- THE LAST is what is found
pub last_found : (w : Wanted) (at : ℕ) (ps : List Picture) (r : Option Picture) → r ≡ last_picture w at None ps → MatchOption r (NoPictureBefore w at ps) (IsLastBefore w at ps)
last_found w at ps r e = found r (subst (λ x. LastAfter w at None ps x) (sym e) (last_after w at None ps))
  where
    found : (r : Option Picture) → LastAfter w at None ps r → MatchOption r (NoPictureBefore w at ps) (IsLastBefore w at ps)
    found None h = h.1
    found (Some p) (is, low, each) = elim is [ inl e ↦ absurd (cc) | inr x ↦ record { of = x.0; taken = x.1; before = x.2; last = each } ]
