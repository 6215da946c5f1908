-- Frames of bytes that go on.
use Rattle.std.proofs.Common.{◌≡◌, ℕ, ◌-◌, ◌<◌, ◌≤◌, true, false, List, [], ◌∷◌, length, slice_index, Option, Some, None, refl, sym, ap, ◌∙◌, arith, inl, inr}
use Rattle.std.specs.Prelude.{nat_lt}
use Rattle.std.proofs.lemmas.Bool.{cases_lt, lt-ltb, le-ltb}
use Rattle.scte104_codec.specs.declared.framing.Frame.TheVariants.{NeedMore, Whole, BadSize}
use Rattle.wire_fields.specs.Numbers.{number16_at}
use Rattle.scte104_codec.specs.Framing.{size_in, frame_by, frame_of}
use Rattle.as_session.specs.Pending.{is_partial, needs_more}

-- the size stands in the first four bytes
pub size_of_front : (xs : List ℕ) → 4 ≤ length xs → size_in (slice_index xs 0 ∷ slice_index xs 1 ∷ slice_index xs 2 ∷ slice_index xs 3 ∷ []) ≡ size_in xs
unfolding size_in number16_at
size_of_front [] le = absurd (omega arith)
size_of_front (a ∷ []) le = absurd (omega arith)
size_of_front (a ∷ b ∷ []) le = absurd (omega arith)
size_of_front (a ∷ b ∷ c ∷ []) le = absurd (omega arith)
size_of_front (a ∷ b ∷ c ∷ d ∷ xs) le = refl

-- ---- a frame, by what is known of the bytes

pub frame_short : (xs : List ℕ) → length xs < 4 → frame_of xs ≡ NeedMore (4 - length xs)
unfolding frame_of
frame_short xs lt = rw (lt-ltb (length xs) 4 lt) refl

frame_long : (xs : List ℕ) → 4 ≤ length xs → frame_of xs ≡ frame_by xs (size_in xs)
unfolding frame_of
frame_long xs le = rw (le-ltb (length xs) 4 le) refl

pub frame_bad : (xs : List ℕ) → 4 ≤ length xs → size_in xs ≡ None → frame_of xs ≡ BadSize
frame_bad xs le e = frame_long xs le ∙ ap (frame_by xs) e

pub frame_below : (xs : List ℕ) (size : ℕ) → 4 ≤ length xs → size_in xs ≡ Some size → length xs < size → frame_of xs ≡ NeedMore (size - length xs)
frame_below xs size le e lt = frame_long xs le ∙ ap (frame_by xs) e ∙ rw (lt-ltb (length xs) size lt) refl

-- ---- bytes that need more

pub partial_none : (xs : List ℕ) → xs ≡ [] → is_partial xs ≡ true
unfolding frame_of
partial_none xs e = rw e refl

whole_needs_none : (xs : List ℕ) (n : ℕ) → nat_lt (length xs) n ≡ false → needs_more (frame_by xs (Some n)) ≡ true → ⊥
whole_needs_none xs n e p =
    let f : needs_more (frame_by xs (Some n)) ≡ false = rw e refl in
    let clash : false ≡ true = sym f ∙ p in
    absurd cc

-- what is known of bytes that need more, whose size is there
partial_sized : (xs : List ℕ) (o : Option ℕ) (size : ℕ) → size_in xs ≡ o → needs_more (frame_by xs o) ≡ true → size_in xs ≡ Some size → length xs < size
partial_sized xs None size e p s = let clash : None ≡ Some size = sym e ∙ s in absurd cc
partial_sized xs (Some n) size e p s =
    let same-some : ◌≡◌ {A = Option ℕ} (Some n) (Some size) = sym e ∙ s in
    let same : n ≡ size = cc in
    elim (cases_lt (length xs) n) [
      | inl lt ↦ omega arith
      | inr le ↦ absurd (whole_needs_none xs n (le-ltb (length xs) n le) p)
    ]

pub partial_below : (xs : List ℕ) (size : ℕ) → is_partial xs ≡ true → 4 ≤ length xs → size_in xs ≡ Some size → length xs < size
partial_below xs size p le s = partial_sized xs (size_in xs) size refl (ap needs_more (sym (frame_long xs le)) ∙ p) s

-- ---- bytes with a bad size

pub record BadParts (xs : List ℕ) : Type 0 where
  pub four : 4 ≤ length xs
  pub none : size_in xs ≡ None

bad_by : (xs : List ℕ) (o : Option ℕ) → size_in xs ≡ o → frame_by xs o ≡ BadSize → size_in xs ≡ None
bad_by xs None e h = e
bad_by xs (Some n) e h =
    elim (cases_lt (length xs) n) [
      | inl lt ↦ let f : NeedMore (n - length xs) ≡ BadSize = sym (rw (lt-ltb (length xs) n lt) refl) ∙ h in absurd cc
      | inr le ↦ let f : Whole n ≡ BadSize = sym (rw (le-ltb (length xs) n le) refl) ∙ h in absurd cc
    ]

pub bad_parts : (xs : List ℕ) → frame_of xs ≡ BadSize → BadParts xs
bad_parts xs h =
    elim (cases_lt (length xs) 4) [
      | inl lt ↦ let f : NeedMore (4 - length xs) ≡ BadSize = sym (frame_short xs lt) ∙ h in absurd cc
      | inr le ↦ record { four = le; none = bad_by xs (size_in xs) refl (sym (frame_long xs le) ∙ h) }
    ]
