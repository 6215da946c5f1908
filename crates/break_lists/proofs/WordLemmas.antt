-- Words that are text or not, and what stands before a byte and behind it.
use Rattle.std.proofs.Common.{◌≡◌, ◌≢◌, ℕ, ◌<◌, List, [], ◌∷◌, length, drop, Bool, true, false, Option, None, refl, arith}
use Rattle.std.specs.Prelude.{if◌then◌else◌}
use Rattle.std.specs.List.{list_any, slice_split, before_first, after_first, position_or_len}

-- text is read
pub text_is_read : (u : Bool) (x r : Option ℕ) → u ≡ true → r ≡ x → r ≡ (if u then x else None)
text_is_read true x r e h = h
text_is_read false x r e h = absurd (cc)

-- what is no text is not
pub no_text_is_read : (u : Bool) (x : Option ℕ) → u ≢ true → None ≡ (if u then x else None)
no_text_is_read true x broken = absurd (broken refl)
no_text_is_read false x broken = refl

-- ---- a text cut at the first byte that passes a test

by_test : {P : Type 0} (b : Bool) → (b ≡ true → P) → (b ≡ false → P) → P
by_test {P} b s t = (elim b as (λ v. (v ≡ true → P) → (v ≡ false → P) → P) [ true ↦ λ h k. h refl | false ↦ λ h k. k refl ]) s t

-- such a byte stands there, with this behind it
pub cut_behind : (p : ℕ → Bool) (text : List ℕ) (b : ℕ) (rest : List ℕ) → drop (position_or_len p text) text ≡ b ∷ rest
    → (list_any p text ≡ true) × (after_first p text ≡ rest) × (slice_split p text ≡ before_first p text ∷ slice_split p rest) × (length rest < length text)
cut_behind p [] b rest h = absurd (cc)
cut_behind p (x ∷ xs) b rest h = by_test (p x)
    (λ e. let k : x ∷ xs ≡ b ∷ rest = (simp e at h) in let same : xs ≡ rest = cc in rw (e, ← same) (refl, refl, refl, omega arith))
    (λ e. let k = simp e at h in let (found, after, parts, shorter) = cut_behind p xs b rest (grind (arith, k)) in
    (simp (e, found) refl, simp e (grind (arith, after)), simp (e, parts) (grind arith), omega (arith, shorter)))

-- there is none
pub cut_without : (p : ℕ → Bool) (text : List ℕ) → drop (position_or_len p text) text ≡ []
    → (list_any p text ≡ false) × (after_first p text ≡ []) × (slice_split p text ≡ before_first p text ∷ [])
cut_without p [] h = (refl, refl, refl)
cut_without p (x ∷ xs) h = by_test (p x)
    (λ e. absurd (let k = simp e at h in cc))
    (λ e. let k = simp e at h in let (found, after, parts) = cut_without p xs (grind (arith, k)) in
    (simp (e, found) refl, simp e (grind (arith, after)), simp (e, parts) (grind arith)))
