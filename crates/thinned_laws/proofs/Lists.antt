-- Lists of events of which no two meet, in order of their starts.
use Rattle.std.proofs.Common.{◌≡◌, ◌↔◌, ℕ, ◌+◌, ◌<◌, suc, Bool, true, false, ◌⊎◌, inl, inr, refl, sym, ap, ◌∙◌, subst, List, [], ◌∷◌, Option, None, Some, length, arith, cond}
use Rattle.std.specs.Prelude.{ℤ, pos, ◌+ℤ◌, ◌≤ℤ◌, int_lt, filter, find, count_by}
use Rattle.std.specs.List.{list_any}
use Rattle.std.proofs.lemmas.Int.{ints}
use Rattle.std.proofs.lemmas.Bool.{true≢false}
use Rattle.std.proofs.lemmas.List.Sums.{sum_by-cons}
use Rattle.ts_packet.proofs.Cases.{by_test}
use Rattle.event_table.specs.Standing.{Standing}
use Rattle.armed_laws.specs.Laws.{AreApart, IsApartOf, NoneMeet}
use Rattle.splice_plans.specs.Playing.{put_by_start, by_start}
use Rattle.ts_packet.specs.Membership.{In}
use Rattle.ts_packet.proofs.MembershipLemmas.{In-filter, In-filtered, any-false}
use Rattle.splice_plans.proofs.StartLemmas.{Distinct, distinct-filter, Rising, by_start-from, by_start-to, rising-sorted, one_order, sorted-length}

-- ---- no two have one start

long-in : (es : List Standing) → NoneMeet es → (b : Standing) → In b es → 0 < b.length
long-in [] n b i = absurd i
long-in (e ∷ es) n b (inl is) = subst (λ (x : Standing). 0 < x.length) (sym is) n.0
long-in (e ∷ es) n b (inr i) = long-in es n.2 b i

apart-in : (a : Standing) (es : List Standing) → IsApartOf a es → (b : Standing) → In b es → AreApart a b
apart-in a [] n b i = absurd i
apart-in a (e ∷ es) n b (inl is) = subst (AreApart a) (sym is) n.0
apart-in a (e ∷ es) n b (inr i) = apart-in a es n.1 b i

apart-differ : (a b : Standing) → 0 < a.length → 0 < b.length → AreApart a b → b.start ≡ a.start → ⊥
apart-differ a b l m (inl h) is = by a.start b.start a.length l h is
  where
    by : (s t : ℤ) (n : ℕ) → 0 < n → (s +ℤ pos n) ≤ℤ t → t ≡ s → ⊥
    by s t n l h is = absurd (omega (arith, ints, l, h, is))
apart-differ a b l m (inr h) is = by b.start a.start b.length m h (sym is)
  where
    by : (s t : ℤ) (n : ℕ) → 0 < n → (s +ℤ pos n) ≤ℤ t → t ≡ s → ⊥
    by s t n l h is = absurd (omega (arith, ints, l, h, is))

pub distinct-starts : (es : List Standing) → NoneMeet es → Distinct es
distinct-starts [] n = tt
distinct-starts (a ∷ es) n = ((λ b i. apart-differ a b n.0 (long-in es n.2 b i) (apart-in a es n.1 b i)), distinct-starts es n.2)

pub one-of : (es : List Standing) → Distinct es → (a b : Standing) → In a es → In b es → a.start ≡ b.start → a ≡ b
one-of [] d a b i j is = absurd i
one-of (e ∷ es) d a b (inl i) (inl j) is = i ∙ sym j
one-of (e ∷ es) d a b (inl i) (inr j) is = absurd (d.0 b j (sym is ∙ ap (λ (x : Standing). x.start) i))
one-of (e ∷ es) d a b (inr i) (inl j) is = absurd (d.0 a i (is ∙ ap (λ (x : Standing). x.start) j))
one-of (e ∷ es) d a b (inr i) (inr j) is = one-of es d.1 a b i j is

-- ---- in order of start

rising-filter : (p : Standing → Bool) (es : List Standing) → Rising es → Rising (filter p es)
rising-filter p [] d = tt
rising-filter p (a ∷ es) d =
    by_test (p a)
    (λ u. simp u (λ b i. d.0 b (In-filtered p b es i).0, rising-filter p es d.1))
    (λ u. simp u (rising-filter p es d.1))

-- ---- the events that a test takes

-- both lists have the same of those that the test takes
abbrev pub AgreeOn : (Standing → Bool) → List Standing → List Standing → Type 0
AgreeOn test es fs = (e : Standing) → test e ≡ true → In e es ↔ In e fs

pub same-sorted : (test : Standing → Bool) (es fs : List Standing) → Distinct es → Distinct fs → AgreeOn test es fs → by_start (filter test es) ≡ by_start (filter test fs)
same-sorted test es fs d g a = one_order (by_start (filter test es)) (by_start (filter test fs))
    (rising-sorted (filter test es) (distinct-filter test es d)) (rising-sorted (filter test fs) (distinct-filter test fs g))
    (λ x i. let p = In-filtered test x es (by_start-from (filter test es) x i) in by_start-to (filter test fs) x (In-filter test x fs ((a x p.1).0 p.0) p.1))
    (λ x i. let p = In-filtered test x fs (by_start-from (filter test fs) x i) in by_start-to (filter test es) x (In-filter test x es ((a x p.1).1 p.0) p.1))

-- the same of two tests, one behind the other
pub same-chosen : (test keep : Standing → Bool) (es fs : List Standing) → Distinct es → Distinct fs
    → ((e : Standing) → test e ≡ true → keep e ≡ true → In e es ↔ In e fs)
    → filter keep (by_start (filter test es)) ≡ filter keep (by_start (filter test fs))
same-chosen test keep es fs d g a = one_order (filter keep (by_start (filter test es))) (filter keep (by_start (filter test fs)))
    (rising-filter keep (by_start (filter test es)) (rising-sorted (filter test es) (distinct-filter test es d)))
    (rising-filter keep (by_start (filter test fs)) (rising-sorted (filter test fs) (distinct-filter test fs g)))
    (λ x i. let c = In-filtered keep x (by_start (filter test es)) i in let p = In-filtered test x es (by_start-from (filter test es) x c.0) in
    In-filter keep x (by_start (filter test fs)) (by_start-to (filter test fs) x (In-filter test x fs ((a x p.1 c.1).0 p.0) p.1)) c.1)
    (λ x i. let c = In-filtered keep x (by_start (filter test fs)) i in let p = In-filtered test x fs (by_start-from (filter test fs) x c.0) in
    In-filter keep x (by_start (filter test es)) (by_start-to (filter test es) x (In-filter test x es ((a x p.1 c.1).1 p.0) p.1)) c.1)

-- how many there are
length-put : (a : Standing) (es : List Standing) → length (put_by_start a es) ≡ suc (length es)
length-put a [] = refl
length-put a (e ∷ es) = by_test (int_lt a.start e.start) (λ l. simp l refl) (λ l. let n = length-put a es in simp l (ap suc n))

count-filter : (test : Standing → Bool) (es : List Standing) → count_by test es ≡ length (filter test es)
count-filter test [] = refl
count-filter test (e ∷ es) =
    sum_by-cons (λ y. cond (test y) 1 0) e es
    ∙ by_test (test e)
    (λ y. let n = count-filter test es in simp y (omega (arith, n)))
    (λ y. let n = count-filter test es in simp y (omega (arith, n)))

pub same-counted : (test : Standing → Bool) (es fs : List Standing) → Distinct es → Distinct fs → AgreeOn test es fs → count_by test es ≡ count_by test fs
same-counted test es fs d g a =
    count-filter test es ∙ sym (sorted-length (filter test es)) ∙ ap length (same-sorted test es fs d g a) ∙ sorted-length (filter test fs) ∙ sym (count-filter test fs)

-- whether there is one
any-in : (test : Standing → Bool) (es : List Standing) → list_any test es ≡ true → (e : Standing) × In e es × (test e ≡ true)
any-in test [] h = absurd (true≢false (sym h))
any-in test (e ∷ es) h = by_test (test e)
    (λ y. (e, inl refl, y))
    (λ n. let r = any-in test es (simp n at h) in (r.0, inr r.1, r.2))

any-to : (test : Standing → Bool) (es fs : List Standing) → ((e : Standing) → test e ≡ true → In e es → In e fs) → list_any test es ≡ true → list_any test fs ≡ true
any-to test es fs a h =
    let r = any-in test es h in
    by_test (list_any test fs) (λ y. y) (λ n. absurd (true≢false (sym r.2 ∙ any-false test r.0 fs n (a r.0 r.2 r.1))))

pub same-any : (test : Standing → Bool) (es fs : List Standing) → AgreeOn test es fs → list_any test es ≡ list_any test fs
same-any test es fs a = by_test (list_any test es)
    (λ y. y ∙ sym (any-to test es fs (λ e t. (a e t).0) y))
    (λ n. by_test (list_any test fs)
    (λ y. absurd (true≢false (sym (any-to test fs es (λ e t. (a e t).1) y) ∙ n)))
    (λ m. n ∙ sym m))

-- the one that starts then
find-in : (test : Standing → Bool) (es : List Standing) (e : Standing) → find test es ≡ Some e → In e es × (test e ≡ true)
find-in test [] e h = absurd (let no : None ≡ Some e = h in cc)
find-in test (x ∷ es) e h = by_test (test x)
    (λ y. let is : Some x ≡ Some e = simp y at h in let same : x ≡ e = cc in (inl (sym same), ap test (sym same) ∙ y))
    (λ n. let r = find-in test es e (simp n at h) in (inr r.0, r.1))

find-none : (test : Standing → Bool) (es : List Standing) → find test es ≡ None → (e : Standing) → In e es → test e ≡ false
find-none test [] h e i = absurd i
find-none test (x ∷ es) h e i = by_test (test x)
    (λ y. let no : Some x ≡ None = simp y at h in absurd (let bad : Some x ≡ None = no in cc))
    (λ n. by n (find-none test es (simp n at h) e) i)
  where
    by : test x ≡ false → (In e es → test e ≡ false) → (e ≡ x) ⊎ In e es → test e ≡ false
    by n rest (inl is) = ap test is ∙ n
    by n rest (inr j) = rest j

pub same-found : (test : Standing → Bool) (es fs : List Standing) → Distinct fs → ((a b : Standing) → test a ≡ true → test b ≡ true → a.start ≡ b.start)
    → AgreeOn test es fs → find test es ≡ find test fs
same-found test es fs d one a = by (find test es) (find test fs) refl refl
  where
    by : (o x : Option Standing) → find test es ≡ o → find test fs ≡ x → o ≡ x
    by None None h k = refl
    by None (Some f) h k = let r = find-in test fs f k in absurd (true≢false (sym r.1 ∙ find-none test es h f ((a f r.1).1 r.0)))
    by (Some e) None h k = let r = find-in test es e h in absurd (true≢false (sym r.1 ∙ find-none test fs k e ((a e r.1).0 r.0)))
    by (Some e) (Some f) h k =
        let r = find-in test es e h in let s = find-in test fs f k in
        ap Some (one-of fs d e f ((a e r.1).0 r.0) s.0 (one e f r.1 s.1))

pub count-tests : (f g : Standing → Bool) → ((e : Standing) → f e ≡ g e) → (es : List Standing) → count_by f es ≡ count_by g es
count-tests f g h [] = refl
count-tests f g h (e ∷ es) =
    sum_by-cons (λ y. cond (f y) 1 0) e es
    ∙ ap (λ b. cond b 1 0 + count_by f es) (h e)
    ∙ ap (λ (n : ℕ). cond (g e) 1 0 + n) (count-tests f g h es)
    ∙ sym (sum_by-cons (λ y. cond (g y) 1 0) e es)
