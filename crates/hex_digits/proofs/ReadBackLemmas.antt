-- What is written is read back, and what is read was written so.
use Rattle.std.proofs.Common.{◌≡◌, ℕ, suc, ◌+◌, ◌*◌, ◌/◌, ◌%◌, ◌<◌, List, [], ◌∷◌, Option, Some, None, refl, ap, arith}
use Rattle.std.specs.Prelude.{All}
use Rattle.std.proofs.lemmas.List.Elements.{All-nil, All-cons}
use Rattle.hex_digits.specs.Digits.{digit_value, digit_of, digits_of, byte_before, spelled}
use Rattle.hex_digits.proofs.DigitLemmas.{digit_value-digit_of}

-- ---- what is written

pub spelled-digits_of : (bytes : List ℕ) → All (λ b. b < 256) bytes → spelled (digits_of bytes) ≡ Some bytes
spelled-digits_of [] small = refl
spelled-digits_of (b ∷ bytes) small =
    let byte : b < 256 = small 0 0 (omega arith) in
    let v : ℕ = b / 16 in
    let w : ℕ = b % 16 in
    let high : v < 16 = omega arith in
    let low : w < 16 = omega arith in
    let whole : 16 * v + w ≡ b = omega arith in
    let rest : spelled (digits_of bytes) ≡ Some bytes = spelled-digits_of bytes (λ k d inside. small (suc k) d (omega (arith, inside))) in
    rw (digit_value-digit_of v high, digit_value-digit_of w low, rest, whole) refl

-- ---- what is read

digit_of-digit_value : (c v : ℕ) → digit_value c ≡ Some v → c ≡ digit_of v
digit_of-digit_value c v e = grind (arith, e)

digit_value-small : (c v : ℕ) → digit_value c ≡ Some v → v < 16
digit_value-small c v e = grind (arith, e)

-- the halves and the bytes behind that were joined
record Joined (high low : Option ℕ) (more : Option (List ℕ)) (bytes : List ℕ) : Type 0 where
  pub h : ℕ
  pub l : ℕ
  pub rest : List ℕ
  pub high_is : high ≡ Some h
  pub low_is : low ≡ Some l
  pub rest_is : more ≡ Some rest
  pub bytes_are : bytes ≡ (16 * h + l) ∷ rest

joined : (high low : Option ℕ) (more : Option (List ℕ)) (bytes : List ℕ) → byte_before high low more ≡ Some bytes → Joined high low more bytes
joined None low more bytes e = absurd cc
joined (Some h) None more bytes e = absurd cc
joined (Some h) (Some l) None bytes e = absurd cc
joined (Some h) (Some l) (Some rest) bytes e = record { h = h; l = l; rest = rest; high_is = refl; low_is = refl; rest_is = refl; bytes_are = cc }

pub spelled_by : (text bytes : List ℕ) → spelled text ≡ Some bytes → (text ≡ digits_of bytes) × All (λ b. b < 256) bytes
spelled_by [] bytes e = let none : bytes ≡ [] = cc in rw none (refl, All-nil (λ b. b < 256))
spelled_by (x ∷ []) bytes e = absurd cc
spelled_by (x ∷ y ∷ text) bytes e =
    let j = joined (digit_value x) (digit_value y) (spelled text) bytes e in
    let behind = spelled_by text j.rest j.rest_is in
    let high : j.h < 16 = digit_value-small x j.h j.high_is in
    let low : j.l < 16 = digit_value-small y j.l j.low_is in
    let first : (16 * j.h + j.l) / 16 ≡ j.h = omega (arith, high, low) in
    let second : (16 * j.h + j.l) % 16 ≡ j.l = omega (arith, high, low) in
    let byte : 16 * j.h + j.l < 256 = omega (arith, high, low) in
    rw j.bytes_are (
      rw (first, second, ← digit_of-digit_value x j.h j.high_is, ← digit_of-digit_value y j.l j.low_is) (ap (λ t. x ∷ y ∷ t) behind.0),
      All-cons (λ b. b < 256) (16 * j.h + j.l) j.rest byte behind.1,
    )
