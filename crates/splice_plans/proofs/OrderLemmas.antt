-- Events in order of their starts, and what goes out for each: those of which nothing goes out may be left away.
use Rattle.std.proofs.Common.{◌≡◌, List, [], ◌∷◌, ◌++◌, Bool, true, false, refl, sym, ap, ◌∙◌, arith, if◌then◌else◌}
use Rattle.std.specs.Prelude.{ℤ, int_lt, filter, flat_map}
use Rattle.std.proofs.lemmas.Int.{ints}
use Rattle.ts_packet.proofs.Cases.{by_test}
use Rattle.event_table.specs.Standing.{Standing}
use Rattle.splice_laws.specs.Splicing.{SliceUnit}
use Rattle.splice_plans.specs.Playing.{put_by_start, by_start}

-- what goes out at a start
pub record Piece : Type 0 where
  pub start : ℤ
  pub units : List SliceUnit

abbrev pub with_piece : ℤ → List SliceUnit → List Piece → List Piece
with_piece start [] ps = ps
with_piece start (u ∷ us) ps = record { start = start; units = u ∷ us } ∷ ps

-- in the order of some events
abbrev pub pieces : (Standing → List SliceUnit) → List Standing → List Piece
pieces f [] = []
pieces f (e ∷ es) = with_piece e.start (f e) (pieces f es)

abbrev joined : List Piece → List SliceUnit
joined [] = []
joined (p ∷ ps) = p.units ++ joined ps

abbrev sort_in : Piece → List Piece → List Piece
sort_in x [] = x ∷ []
sort_in x (p ∷ ps) = if int_lt x.start p.start then x ∷ p ∷ ps else p ∷ sort_in x ps

abbrev sort_one : ℤ → List SliceUnit → List Piece → List Piece
sort_one start [] ps = ps
sort_one start (u ∷ us) ps = sort_in (record { start = start; units = u ∷ us }) ps

abbrev sorted : List Piece → List Piece
sorted [] = []
sorted (p ∷ ps) = sort_in p (sorted ps)

-- ---- events in order

-- none starts before
abbrev From : ℤ → List Standing → Type 0
From start [] = Unit {0}
From start (e ∷ es) = (int_lt e.start start ≡ false) × From start es

abbrev IsSorted : List Standing → Type 0
IsSorted [] = Unit {0}
IsSorted (e ∷ es) = From e.start es × IsSorted es

lower : (a b c : ℤ) → int_lt a b ≡ true → int_lt c b ≡ false → int_lt c a ≡ false
lower a b c h k = grind (arith, ints)

not-over : (a b : ℤ) → int_lt a b ≡ true → int_lt b a ≡ false
not-over a b h = grind (arith, ints)

further : (a b c : ℤ) → int_lt a b ≡ true → int_lt c b ≡ false → int_lt a c ≡ true
further a b c h k = grind (arith, ints)

from-lower : (a b : ℤ) → int_lt a b ≡ true → (es : List Standing) → From b es → From a es
from-lower a b h [] f = tt
from-lower a b h (e ∷ es) f = (lower a b e.start h f.0, from-lower a b h es f.1)

from-put : (s : ℤ) (x : Standing) (es : List Standing) → int_lt x.start s ≡ false → From s es → From s (put_by_start x es)
from-put s x [] h f = (h, tt)
from-put s x (e ∷ es) h f = by_test (int_lt x.start e.start) (λ c. simp c (h, f)) (λ c. simp c (f.0, from-put s x es h f.1))

sorted-put : (x : Standing) (es : List Standing) → IsSorted es → IsSorted (put_by_start x es)
sorted-put x [] s = (tt, tt)
sorted-put x (e ∷ es) s = by_test (int_lt x.start e.start)
    (λ c. simp c ((not-over x.start e.start c, from-lower x.start e.start c es s.0), s))
    (λ c. simp c (from-put e.start x es c s.0, sorted-put x es s.1))

by_start-sorted : (es : List Standing) → IsSorted (by_start es)
by_start-sorted [] = tt
by_start-sorted (e ∷ es) = sorted-put e (by_start es) (by_start-sorted es)

-- ---- an event put among those in order

abbrev Above : ℤ → List Piece → Type 0
Above s [] = Unit {0}
Above s (p ∷ ps) = int_lt s p.start ≡ true

above-with : (s t : ℤ) (us : List SliceUnit) (ps : List Piece) → int_lt s t ≡ true → Above s ps → Above s (with_piece t us ps)
above-with s t [] ps h a = a
above-with s t (u ∷ us) ps h a = h

above-pieces : (f : Standing → List SliceUnit) (s t : ℤ) (es : List Standing) → int_lt s t ≡ true → From t es → Above s (pieces f es)
above-pieces f s t [] h g = tt
above-pieces f s t (e ∷ es) h g = above-with s e.start (f e) (pieces f es) (further s t e.start h g.0) (above-pieces f s t es h g.1)

first-in : (s : ℤ) (us : List SliceUnit) (ps : List Piece) → Above s ps → with_piece s us ps ≡ sort_one s us ps
first-in s [] ps a = refl
first-in s (u ∷ us) [] a = refl
first-in s (u ∷ us) (p ∷ ps) a = simp a refl

later-in : (s t : ℤ) (us vs : List SliceUnit) (ps : List Piece) → int_lt s t ≡ false → with_piece t vs (sort_one s us ps) ≡ sort_one s us (with_piece t vs ps)
later-in s t [] vs ps h = refl
later-in s t (u ∷ us) [] ps h = refl
later-in s t (u ∷ us) (v ∷ vs) ps h = simp h refl

pieces-put : (f : Standing → List SliceUnit) (x : Standing) (es : List Standing) → IsSorted es → pieces f (put_by_start x es) ≡ sort_one x.start (f x) (pieces f es)
pieces-put f x [] s = first-in x.start (f x) [] tt
pieces-put f x (e ∷ es) s = by_test (int_lt x.start e.start)
    (λ c. simp c (first-in x.start (f x) (pieces f (e ∷ es)) (above-with x.start e.start (f e) (pieces f es) c (above-pieces f x.start e.start es c s.0))))
    (λ c. simp c (ap (with_piece e.start (f e)) (pieces-put f x es s.1) ∙ later-in x.start e.start (f x) (f e) (pieces f es) c))

sorted-with : (s : ℤ) (us : List SliceUnit) (ps : List Piece) → sort_one s us (sorted ps) ≡ sorted (with_piece s us ps)
sorted-with s [] ps = refl
sorted-with s (u ∷ us) ps = refl

pieces-sorted : (f : Standing → List SliceUnit) (es : List Standing) → pieces f (by_start es) ≡ sorted (pieces f es)
pieces-sorted f [] = refl
pieces-sorted f (e ∷ es) =
    pieces-put f e (by_start es) (by_start-sorted es) ∙ ap (sort_one e.start (f e)) (pieces-sorted f es) ∙ sorted-with e.start (f e) (pieces f es)

joined-with : (s : ℤ) (us : List SliceUnit) (ps : List Piece) → joined (with_piece s us ps) ≡ us ++ joined ps
joined-with s [] ps = refl
joined-with s (u ∷ us) ps = refl

joined-pieces : (f : Standing → List SliceUnit) (es : List Standing) → flat_map f es ≡ joined (pieces f es)
joined-pieces f [] = refl
joined-pieces f (e ∷ es) = ap (λ us. f e ++ us) (joined-pieces f es) ∙ sym (joined-with e.start (f e) (pieces f es))

-- ---- of those that pass a test

abbrev pub gated : (Standing → Bool) → (Standing → List SliceUnit) → Standing → List SliceUnit
gated test f e = if test e then f e else []

pieces-filter : (test : Standing → Bool) (f : Standing → List SliceUnit) (es : List Standing) → pieces f (filter test es) ≡ pieces (gated test f) es
pieces-filter test f [] = refl
pieces-filter test f (e ∷ es) = by_test (test e)
    (λ y. simp y (ap (with_piece e.start (f e)) (pieces-filter test f es)))
    (λ y. simp y (pieces-filter test f es))

-- of two lists of events the same goes out, where the same pieces do
pub same-by-start : (test other : Standing → Bool) (f g : Standing → List SliceUnit) (es later : List Standing) → pieces (gated test f) es ≡ pieces (gated other g) later →
    flat_map f (by_start (filter test es)) ≡ flat_map g (by_start (filter other later))
same-by-start test other f g es later h =
    joined-pieces f (by_start (filter test es))
    ∙ ap joined (pieces-sorted f (filter test es) ∙ ap sorted (pieces-filter test f es ∙ h ∙ sym (pieces-filter other g later)) ∙ sym (pieces-sorted g (filter other later)))
    ∙ sym (joined-pieces g (by_start (filter other later)))
