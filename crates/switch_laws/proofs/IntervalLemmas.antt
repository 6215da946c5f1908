-- The played ones of events that never meet: as intervals they stand in order, and the start says which is meant.
use Rattle.std.proofs.Common.{◌≡◌, ℕ, ◌<◌, List, [], ◌∷◌, Bool, true, false, not, ◌&&◌, ◌||◌, inl, inr, refl, ap, ◌∙◌, Option, Some, arith}
use Rattle.std.specs.Prelude.{ℤ, pos, ◌+ℤ◌, ◌≤ℤ◌, int_lt, filter, map}
use Rattle.std.specs.List.{AllByRecursion, list_any}
use Rattle.std.specs.Ordering.{int_eq}
use Rattle.std.proofs.lemmas.Int.{ints}
use Rattle.ts_packet.proofs.Cases.{by_test}
use Rattle.event_table.specs.Standing.{Standing, end_of}
use Rattle.armed_laws.specs.Laws.{AreApart, IsApartOf, NoneMeet}
use Rattle.splice_laws.specs.Splicing.{holds, outside}
use Rattle.splice_laws.specs.Laws.{EndsBeforeAll, AreOrdered}
use Rattle.splice_plans.specs.Playing.{Adverts, is_played, put_by_start, by_start, as_played}
use Rattle.pes_time.proofs.IntLemmas.{int-same}
use Rattle.armed_laws.proofs.MeetLemmas.{starts-differ}
use Rattle.switch_laws.specs.Moving.{intervals, meant_by}

-- ---- which is meant

module _ (ads : Adverts) where
  -- of these events it is the one that is meant by its start
  abbrev pub IsMeant : List Standing → Standing → Type 0
  IsMeant es x = is_played ads x ≡ true → meant_by ads es (as_played x) ≡ Some x

  meant-first : (e : Standing) (es : List Standing) → IsMeant (e ∷ es) e
  meant-first e es h = let k = int-same e.start in simp (k, h)

  meant-later : (e x : Standing) (es : List Standing) → int_eq e.start x.start ≡ false → IsMeant es x → IsMeant (e ∷ es) x
  meant-later e x es d m h = simp d (m h)

  all-later : (e : Standing) (es later : List Standing) → 0 < e.length → IsApartOf e later → NoneMeet later → AllByRecursion (IsMeant es) later → AllByRecursion (IsMeant (e ∷ es)) later
  all-later e es [] l a n m = tt
  all-later e es (x ∷ later) l a n m = (meant-later e x es (starts-differ e x l n.0 a.0) m.0, all-later e es later l a.1 n.2 m.1)

  pub all-meant : (es : List Standing) → NoneMeet es → AllByRecursion (IsMeant es) es
  all-meant [] n = tt
  all-meant (e ∷ es) n = (meant-first e es, all-later e es es n.0 n.1 n.2 (all-meant es n.2))

-- ---- in order

apart-put : (x e : Standing) (es : List Standing) → AreApart x e → IsApartOf x es → IsApartOf x (put_by_start e es)
apart-put x e [] a b = (a, tt)
apart-put x e (y ∷ es) a b = by_test (int_lt e.start y.start) (λ c. simp c (a, b)) (λ c. simp c (b.0, apart-put x e es a b.1))

module _ (test : Standing → Bool) where
  apart-sorted : (x : Standing) (es : List Standing) → IsApartOf x es → IsApartOf x (by_start (filter test es))
  apart-sorted x [] a = tt
  apart-sorted x (e ∷ es) a = by_test (test e)
      (λ c. simp c (apart-put x e (by_start (filter test es)) a.0 (apart-sorted x es a.1)))
      (λ c. simp c (apart-sorted x es a.1))

above-it : (e y : Standing) → AreApart e y → 0 < y.length → int_lt e.start y.start ≡ true → end_of e ≤ℤ y.start
above-it e y (inl a) l c = a
above-it e y (inr a) l c = by e.start y.start y.length l c a
  where
    by : {P : Type 0} → (s t : ℤ) (n : ℕ) → 0 < n → int_lt s t ≡ true → (t +ℤ pos n) ≤ℤ s → P
    by s t n l c a = absurd (grind (arith, ints, l, c, a))

below-it : (e y : Standing) → AreApart e y → 0 < e.length → int_lt e.start y.start ≡ false → end_of y ≤ℤ e.start
below-it e y (inr a) l c = a
below-it e y (inl a) l c = by e.start y.start e.length l c a
  where
    by : {P : Type 0} → (s t : ℤ) (n : ℕ) → 0 < n → int_lt s t ≡ false → (s +ℤ pos n) ≤ℤ t → P
    by s t n l c a = absurd (grind (arith, ints, l, c, a))

low-end : (s : ℤ) (n : ℕ) → s ≤ℤ (s +ℤ pos n)
low-end s n = grind (arith, ints)

through : (a b c d : ℤ) → a ≤ℤ b → b ≤ℤ c → c ≤ℤ d → a ≤ℤ d
through a b c d h k l = omega (arith, ints, h, k, l)

-- each has a length
abbrev AllLong : List Standing → Type 0
AllLong [] = Unit {0}
AllLong (e ∷ es) = (0 < e.length) × AllLong es

long-put : (e : Standing) (es : List Standing) → 0 < e.length → AllLong es → AllLong (put_by_start e es)
long-put e [] l a = (l, tt)
long-put e (y ∷ es) l a = by_test (int_lt e.start y.start) (λ c. simp c (l, a)) (λ c. simp c (a.0, long-put e es l a.1))

before-all : (e y : Standing) (es : List Standing) → end_of e ≤ℤ y.start → EndsBeforeAll (as_played y) (map as_played es) → EndsBeforeAll (as_played e) (map as_played es)
before-all e y [] h b = tt
before-all e y (z ∷ es) h b = (through (end_of e) y.start (end_of y) z.start h (low-end y.start y.length) b.0, before-all e y es h b.1)

before-put : (y e : Standing) (es : List Standing) → end_of y ≤ℤ e.start → EndsBeforeAll (as_played y) (map as_played es) → EndsBeforeAll (as_played y) (map as_played (put_by_start e es))
before-put y e [] h b = (h, tt)
before-put y e (z ∷ es) h b = by_test (int_lt e.start z.start) (λ c. simp c (h, b)) (λ c. simp c (b.0, before-put y e es h b.1))

ordered-put : (e : Standing) (es : List Standing) → 0 < e.length → AllLong es → IsApartOf e es → AreOrdered (map as_played es) → AreOrdered (map as_played (put_by_start e es))
ordered-put e [] l a p o = (low-end e.start e.length, tt, tt)
ordered-put e (y ∷ es) l a p o = by_test (int_lt e.start y.start)
    (λ c. let f = above-it e y p.0 a.0 c in simp c (low-end e.start e.length, (f, before-all e y es f o.1), o))
    (λ c. simp c (o.0, before-put y e es (below-it e y p.0 l c) o.1, ordered-put e es l a.1 p.1 o.2))

module _ (test : Standing → Bool) where
  long-sorted : (es : List Standing) → NoneMeet es → AllLong (by_start (filter test es))
  long-sorted [] n = tt
  long-sorted (e ∷ es) n = by_test (test e)
      (λ c. simp c (long-put e (by_start (filter test es)) n.0 (long-sorted es n.2)))
      (λ c. simp c (long-sorted es n.2))

  pub ordered-sorted : (es : List Standing) → NoneMeet es → AreOrdered (map as_played (by_start (filter test es)))
  ordered-sorted [] n = tt
  ordered-sorted (e ∷ es) n = by_test (test e)
      (λ c. simp c (ordered-put e (by_start (filter test es)) n.0 (long-sorted es n.2) (apart-sorted test e es n.1) (ordered-sorted es n.2)))
      (λ c. simp c (ordered-sorted es n.2))

pub intervals-ordered : (ads : Adverts) (es : List Standing) → NoneMeet es → AreOrdered (intervals ads es)
intervals-ordered ads es n = ordered-sorted (is_played ads) es n

-- ---- a time in one of them

module _ (t : Option ℤ) where
  outside-put : (e : Standing) (es : List Standing) → not (outside (map as_played (put_by_start e es)) t) ≡ (holds (as_played e) t || not (outside (map as_played es) t))
  outside-put e [] = one (holds (as_played e) t)
    where
      one : (h : Bool) → not (not h && true) ≡ (h || not true)
      one true = refl
      one false = refl
  outside-put e (y ∷ es) = by_test (int_lt e.start y.start)
      (λ c. simp c (first (holds (as_played e) t) (not (holds (as_played y) t) && outside (map as_played es) t)))
      (λ c. simp c (later (holds (as_played y) t) (outside (map as_played (put_by_start e es)) t) (holds (as_played e) t) (outside (map as_played es) t) (outside-put e es)))
    where
      first : (h o : Bool) → not (not h && o) ≡ (h || not o)
      first true o = refl
      first false o = refl

      later : (y new e old : Bool) → not new ≡ (e || not old) → not (not y && new) ≡ (e || not (not y && old))
      later true new true old k = refl
      later true new false old k = refl
      later false new e old k = k

  pub outside-any : (test : Standing → Bool) (es : List Standing) → not (outside (map as_played (by_start (filter test es))) t) ≡ list_any (λ e. test e && holds (as_played e) t) es
  outside-any test [] = refl
  outside-any test (e ∷ es) = by_test (test e)
      (λ c. simp c (outside-put e (by_start (filter test es)) ∙ ap (λ b. holds (as_played e) t || b) (outside-any test es)))
      (λ c. simp c (outside-any test es))
