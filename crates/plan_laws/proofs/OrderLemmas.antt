-- What goes out in order of start: where at most one puts something in, it is what goes out in order of arming; and those that put nothing in may be left away.
use Rattle.std.proofs.Common.{◌≡◌, List, [], ◌∷◌, ◌++◌, Bool, true, false, ◌⊎◌, inl, inr, refl, sym, ap, ◌∙◌}
use Rattle.std.specs.Prelude.{int_lt, filter, flat_map}
use Rattle.std.specs.List.{AllByRecursion}
use Rattle.ts_packet.proofs.Cases.{by_test}
use Rattle.event_table.specs.Standing.{Standing}
use Rattle.splice_laws.specs.Splicing.{SliceUnit}
use Rattle.splice_plans.specs.Playing.{put_by_start, by_start}
use Rattle.splice_plans.proofs.OrderLemmas.{pieces, with_piece, gated, same-by-start}

module _ (f : Standing → List SliceUnit) where
  nil-left : (a b : List SliceUnit) → a ++ b ≡ [] → a ≡ []
  nil-left [] b h = refl
  nil-left (u ∷ a) b h = absurd (cc)

  nil-right : (a b : List SliceUnit) → a ++ b ≡ [] → b ≡ []
  nil-right [] b h = h
  nil-right (u ∷ a) b h = absurd (cc)

  over : (a b c : List SliceUnit) → (a ≡ []) ⊎ (b ≡ []) → b ++ (a ++ c) ≡ a ++ (b ++ c)
  over a b c (inl e) = ap (λ l. b ++ (l ++ c)) e ∙ sym (ap (λ l. l ++ (b ++ c)) e)
  over a b c (inr e) = ap (λ l. l ++ (a ++ c)) e ∙ sym (ap (λ l. a ++ (l ++ c)) e)

  put-one : (x : Standing) (ys : List Standing) → (f x ≡ []) ⊎ (flat_map f ys ≡ []) → flat_map f (put_by_start x ys) ≡ f x ++ flat_map f ys
  put-one x [] h = refl
  put-one x (y ∷ ys) h = by_test (int_lt x.start y.start)
      (λ l. simp l refl)
      (λ l. simp l (ap (λ us. f y ++ us) (put-one x ys (rest h)) ∙ over (f x) (f y) (flat_map f ys) (one h)))
    where
      rest : (f x ≡ []) ⊎ (flat_map f (y ∷ ys) ≡ []) → (f x ≡ []) ⊎ (flat_map f ys ≡ [])
      rest (inl e) = inl e
      rest (inr e) = inr (nil-right (f y) (flat_map f ys) e)

      one : (f x ≡ []) ⊎ (flat_map f (y ∷ ys) ≡ []) → (f x ≡ []) ⊎ (f y ≡ [])
      one (inl e) = inl e
      one (inr e) = inr (nil-left (f y) (flat_map f ys) e)

  -- at most one of them puts something in
  abbrev pub AreAlone : List Standing → Type 0
  AreAlone [] = Unit {0}
  AreAlone (e ∷ es) = ((f e ≡ []) ⊎ (flat_map f es ≡ [])) × AreAlone es

  sorted-one : (es : List Standing) → AreAlone es → flat_map f (by_start es) ≡ flat_map f es
  sorted-one [] a = refl
  sorted-one (e ∷ es) a = let i = sorted-one es a.1 in put-one e (by_start es) (by i a.0) ∙ ap (λ us. f e ++ us) i
    where
      by : flat_map f (by_start es) ≡ flat_map f es → (f e ≡ []) ⊎ (flat_map f es ≡ []) → (f e ≡ []) ⊎ (flat_map f (by_start es) ≡ [])
      by i (inl k) = inl k
      by i (inr k) = inr (i ∙ k)

  -- those that put nothing in may be left away
  pub filter-left : (test : Standing → Bool) (es : List Standing) → AllByRecursion (λ e. test e ≡ false → f e ≡ []) es → flat_map f (filter test es) ≡ flat_map f es
  filter-left test [] a = refl
  filter-left test (e ∷ es) a = by_test (test e)
      (λ y. simp y (ap (λ us. f e ++ us) (filter-left test es a.1)))
      (λ y. simp y (filter-left test es a.1 ∙ sym (ap (λ us. us ++ flat_map f es) (a.0 y))))

  filter-alone : (test : Standing → Bool) (es : List Standing) → AllByRecursion (λ e. test e ≡ false → f e ≡ []) es → AreAlone es → AreAlone (filter test es)
  filter-alone test [] n a = tt
  filter-alone test (e ∷ es) n a = by_test (test e)
      (λ y. simp y (by a.0, filter-alone test es n.1 a.1))
      (λ y. simp y (filter-alone test es n.1 a.1))
    where
      by : (f e ≡ []) ⊎ (flat_map f es ≡ []) → (f e ≡ []) ⊎ (flat_map f (filter test es) ≡ [])
      by (inl k) = inl k
      by (inr k) = inr (filter-left test es n.1 ∙ k)

  pub sorted-same : (test other : Standing → Bool) (es : List Standing) → AllByRecursion (λ e. test e ≡ false → f e ≡ []) es → AllByRecursion (λ e. other e ≡ false → f e ≡ []) es → AreAlone es
      → flat_map f (by_start (filter test es)) ≡ flat_map f (filter other es)
  sorted-same test other es n m a = sorted-one (filter test es) (filter-alone test es n a) ∙ filter-left test es n ∙ sym (filter-left other es m)

-- ---- several in order of start

module _ (f : Standing → List SliceUnit) (test other stands : Standing → Bool) where
  -- it puts nothing in unless it stands and passes either test
  pub record IsIdle (e : Standing) : Type 0 where
    pub untaken : stands e ≡ true → test e ≡ false → f e ≡ []
    pub unplayed : other e ≡ false → f e ≡ []
    pub forgotten : stands e ≡ false → f e ≡ []

  gated-whole : (taken : Standing → Bool) (e : Standing) → (taken e ≡ false → f e ≡ []) → gated taken f e ≡ f e
  gated-whole taken e h = by_test (taken e) (λ y. simp y refl) (λ y. simp y (sym (h y)))

  pieces-same : (es : List Standing) → AllByRecursion IsIdle es → pieces (gated test f) (filter stands es) ≡ pieces (gated other f) es
  pieces-same [] s = refl
  pieces-same (e ∷ es) s =
      let here : gated other f e ≡ f e = gated-whole other e (s.0).unplayed in
      by_test (stands e)
      (λ y. simp y (
      ap (λ us. with_piece e.start us (pieces (gated test f) (filter stands es))) (gated-whole test e ((s.0).untaken y) ∙ sym here)
      ∙ ap (with_piece e.start (gated other f e)) (pieces-same es s.1)))
      (λ y. simp y (pieces-same es s.1 ∙ sym (ap (λ us. with_piece e.start us (pieces (gated other f) es)) (here ∙ (s.0).forgotten y))))

  pub left-by-start : (es : List Standing) → AllByRecursion IsIdle es → flat_map f (by_start (filter test (filter stands es))) ≡ flat_map f (by_start (filter other es))
  left-by-start es s = same-by-start test other f f (filter stands es) es (pieces-same es s)

-- ---- all of those in order of start, or of those that pass

module _ (P : Standing → Type 0) where
  all-put : (x : Standing) (es : List Standing) → P x → AllByRecursion P es → AllByRecursion P (put_by_start x es)
  all-put x [] h a = (h, tt)
  all-put x (e ∷ es) h a = by_test (int_lt x.start e.start) (λ y. simp y (h, a)) (λ y. simp y (a.0, all-put x es h a.1))

  pub all-sorted : (es : List Standing) → AllByRecursion P es → AllByRecursion P (by_start es)
  all-sorted [] a = tt
  all-sorted (e ∷ es) a = all-put e (by_start es) a.0 (all-sorted es a.1)

  pub all-taken : (test : Standing → Bool) (es : List Standing) → AllByRecursion (λ e. test e ≡ true → P e) es → AllByRecursion P (filter test es)
  all-taken test [] a = tt
  all-taken test (e ∷ es) a = by_test (test e) (λ y. simp y (a.0 y, all-taken test es a.1)) (λ y. simp y (all-taken test es a.1))

pub none-map : (f : Standing → List SliceUnit) (es : List Standing) → AllByRecursion (λ e. f e ≡ []) es → flat_map f es ≡ []
none-map f [] a = refl
none-map f (e ∷ es) a = ap (λ us. us ++ flat_map f es) a.0 ∙ none-map f es a.1
