-- Events in order of their starts, of which no two have one.
use Rattle.std.proofs.Common.{◌≡◌, Bool, ◌⊎◌, inl, inr, refl, sym, ap, ◌∙◌, subst, List, [], ◌∷◌, length, arith}
use Rattle.std.specs.Prelude.{◌<ℤ◌, ◌≤ℤ◌, int_lt, filter}
use Rattle.std.proofs.lemmas.Int.{ints}
use Rattle.ts_packet.specs.Membership.{In}
use Rattle.ts_packet.proofs.Cases.{by_test}
use Rattle.ts_packet.proofs.MembershipLemmas.{In-filtered}
use Rattle.pes_time.proofs.IntLemmas.{lt-test, ge-test}
use Rattle.event_table.specs.Standing.{Standing}
use Rattle.splice_plans.specs.Playing.{put_by_start, by_start}

-- ---- no two have one start

abbrev pub Distinct : List Standing → Type 0
Distinct [] = Unit {0}
Distinct (a ∷ es) = ((b : Standing) → In b es → b.start ≡ a.start → ⊥) × Distinct es

pub distinct-filter : (p : Standing → Bool) (es : List Standing) → Distinct es → Distinct (filter p es)
distinct-filter p [] d = tt
distinct-filter p (a ∷ es) d =
    by_test (p a)
    (λ u. simp u (λ b i is. d.0 b (In-filtered p b es i).0 is, distinct-filter p es d.1))
    (λ u. simp u (distinct-filter p es d.1))

-- ---- in order of start

abbrev pub Rising : List Standing → Type 0
Rising [] = Unit {0}
Rising (a ∷ es) = ((b : Standing) → In b es → a.start <ℤ b.start) × Rising es

pub put-from : (a : Standing) (es : List Standing) (x : Standing) → In x (put_by_start a es) → (x ≡ a) ⊎ In x es
put-from a [] x (inl is) = inl is
put-from a [] x (inr i) = absurd i
put-from a (e ∷ es) x i =
    by_test (int_lt a.start e.start)
    (λ l. simp l at i)
    (λ l. let j = simp l at i in later j (λ k. put-from a es x k))
  where
    later : (x ≡ e) ⊎ In x (put_by_start a es) → (In x (put_by_start a es) → (x ≡ a) ⊎ In x es) → (x ≡ a) ⊎ ((x ≡ e) ⊎ In x es)
    later (inl is) go = inr (inl is)
    later (inr j) go = more (go j)
      where
        more : (x ≡ a) ⊎ In x es → (x ≡ a) ⊎ ((x ≡ e) ⊎ In x es)
        more (inl is) = inl is
        more (inr k) = inr (inr k)

pub put-to : (a : Standing) (es : List Standing) (x : Standing) → (x ≡ a) ⊎ In x es → In x (put_by_start a es)
put-to a [] x i = i
put-to a (e ∷ es) x i = by_test (int_lt a.start e.start) (λ l. simp l i) (λ l. simp l (later i (λ k. put-to a es x k)))
  where
    later : (x ≡ a) ⊎ ((x ≡ e) ⊎ In x es) → ((x ≡ a) ⊎ In x es → In x (put_by_start a es)) → (x ≡ e) ⊎ In x (put_by_start a es)
    later (inl is) go = inr (go (inl is))
    later (inr (inl is)) go = inl is
    later (inr (inr j)) go = inr (go (inr j))

pub rising-put : (a : Standing) (es : List Standing) → Rising es → ((b : Standing) → In b es → b.start ≡ a.start → ⊥) → Rising (put_by_start a es)
rising-put a [] r other = ((λ b i. absurd i), tt)
rising-put a (e ∷ es) r other =
    by_test (int_lt a.start e.start)
    (λ l. let k = lt-test a.start e.start l in simp l ((λ b i. first k b i), r))
    (λ l. let k = ge-test a.start e.start l in
    let strict : e.start <ℤ a.start = past k (other e (inl refl)) in
    simp l ((λ b i. next strict b (put-from a es b i)), rising-put a es r.1 (λ b i. other b (inr i))))
  where
    first : a.start <ℤ e.start → (b : Standing) → (b ≡ e) ⊎ In b es → a.start <ℤ b.start
    first k b (inl is) = subst (λ (z : Standing). a.start <ℤ z.start) (sym is) k
    first k b (inr i) = let m = r.0 b i in omega (arith, ints, k, m)

    past : e.start ≤ℤ a.start → (e.start ≡ a.start → ⊥) → e.start <ℤ a.start
    past k differ = by_test (int_lt e.start a.start) (λ l. lt-test e.start a.start l) (λ l. let m = ge-test e.start a.start l in absurd (differ (omega (arith, ints, k, m))))

    next : e.start <ℤ a.start → (b : Standing) → (b ≡ a) ⊎ In b es → e.start <ℤ b.start
    next k b (inl is) = subst (λ (z : Standing). e.start <ℤ z.start) (sym is) k
    next k b (inr i) = r.0 b i

pub by_start-from : (es : List Standing) (x : Standing) → In x (by_start es) → In x es
by_start-from [] x i = i
by_start-from (e ∷ es) x i = later (put-from e (by_start es) x i) (λ k. by_start-from es x k)
  where
    later : (x ≡ e) ⊎ In x (by_start es) → (In x (by_start es) → In x es) → (x ≡ e) ⊎ In x es
    later (inl is) go = inl is
    later (inr k) go = inr (go k)

pub by_start-to : (es : List Standing) (x : Standing) → In x es → In x (by_start es)
by_start-to [] x i = i
by_start-to (e ∷ es) x (inl is) = put-to e (by_start es) x (inl is)
by_start-to (e ∷ es) x (inr i) = put-to e (by_start es) x (inr (by_start-to es x i))

pub rising-sorted : (es : List Standing) → Distinct es → Rising (by_start es)
rising-sorted [] d = tt
rising-sorted (e ∷ es) d = rising-put e (by_start es) (rising-sorted es d.1) (λ b i is. d.0 b (by_start-from es b i) is)

-- two lists in order with the same elements are one
pub one_order : (es fs : List Standing) → Rising es → Rising fs → ((x : Standing) → In x es → In x fs) → ((x : Standing) → In x fs → In x es) → es ≡ fs
one_order [] [] r s to back = refl
one_order [] (y ∷ ys) r s to back = absurd (back y (inl refl))
one_order (x ∷ xs) [] r s to back = absurd (to x (inl refl))
one_order (x ∷ xs) (y ∷ ys) r s to back =
    ap (λ z. z ∷ xs) same
    ∙ ap (λ l. y ∷ l) (one_order xs ys r.1 s.1
    (λ z i. rest z ys (λ is. let m = r.0 z i in bad x z (is ∙ sym same) m) (to z (inr i)))
    (λ z i. rest' z i (back z (inr i))))
  where
    bad : (x z : Standing) → z ≡ x → x.start <ℤ z.start → ⊥
    bad x z is m = let k = ap (λ (z : Standing). z.start) is in omega (arith, ints, k, m)

    same : x ≡ y
    same = pick (to x (inl refl)) (back y (inl refl))
      where
        pick : (x ≡ y) ⊎ In x ys → (y ≡ x) ⊎ In y xs → x ≡ y
        pick (inl is) j = is
        pick (inr i) (inl is) = sym is
        pick (inr i) (inr j) = absurd (let m = s.0 x i in let n = r.0 y j in omega (arith, ints, m, n))

    rest : (z : Standing) (ys : List Standing) → (z ≡ y → ⊥) → (z ≡ y) ⊎ In z ys → In z ys
    rest z ys differ (inl is) = absurd (differ is)
    rest z ys differ (inr i) = i

    rest' : (z : Standing) → In z ys → (z ≡ x) ⊎ In z xs → In z xs
    rest' z i (inl is) = absurd (let m = s.0 z i in bad y z (is ∙ same) m)
    rest' z i (inr j) = j

-- ---- counts

pub put-length : (e : Standing) (es : List Standing) → length (put_by_start e es) ≡ length (e ∷ es)
put-length e [] = refl
put-length e (x ∷ es) = let k = put-length e es in by_test (int_lt e.start x.start) (λ l. simp l refl) (λ l. simp l (omega (arith, k)))

pub sorted-length : (es : List Standing) → length (by_start es) ≡ length es
sorted-length [] = refl
sorted-length (e ∷ es) = let k = put-length e (by_start es) in let m = sorted-length es in omega (arith, k, m)
