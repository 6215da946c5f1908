-- CRC_32 behind its bytes takes the remainder away, and no other number does: a step of the division can be undone.
use Rattle.std.proofs.Common.{◌≡◌, ℕ, zero, suc, ◌-◌, ◌*◌, ◌/◌, ◌%◌, ◌^◌, ◌<◌, ◌⊎◌, inl, inr, List, [], ◌∷◌, ◌++◌, bit_xor, refl, sym, ap, ◌∙◌, arith}
use Rattle.std.specs.Prelude.{◌==◌, if◌then◌else◌}
use Rattle.std.specs.List.{AllByRecursion}
use Rattle.std.specs.Int.Bits.{xor_assoc, xor_zero_r, xor_self}
use Rattle.std.proofs.lemmas.Nat.{xor_lt, xor_shr, xor_mod}
use Rattle.byteorder.specs.Endian.{big_bytes}
use Rattle.psi_section.specs.Crc.{generator, with_bit, bits_of, with_bits, remainder_after, crc, crc_remainder}
use Rattle.psi_section.proofs.CrcLemmas.{crc-below, crc_remainder-append, word_closes}

-- ---- a step can be undone

xor_cancel : (a b g : ℕ) → bit_xor a g ≡ bit_xor b g → a ≡ b
xor_cancel a b g e =
    let left : bit_xor (bit_xor a g) g ≡ a = xor_assoc a g g ∙ ap (λ (x : ℕ). bit_xor a x) (xor_self g) ∙ xor_zero_r a in
    let right : bit_xor (bit_xor b g) g ≡ b = xor_assoc b g g ∙ ap (λ (x : ℕ). bit_xor b x) (xor_self g) ∙ xor_zero_r b in
    sym left ∙ ap (λ (x : ℕ). bit_xor x g) e ∙ right

-- what v is reduced to: itself, where that is even, or else v less the generator
record Reduces (v w : ℕ) : Type 0 where
  below : w < 4294967296
  choice : ((w % 2 ≡ 0) × (w ≡ v)) ⊎ ((w % 2 ≡ 1) × (w ≡ bit_xor v generator))

reduces_by : (v q : ℕ) → v < 8589934592 → v % 2 ≡ 0 → v / 4294967296 ≡ q → Reduces v (if q == 1 then bit_xor v generator else v)
reduces_by v zero lt even top = record { below = omega arith; choice = inl (even, refl) }
reduces_by v (suc zero) lt even top =
    let high : bit_xor v generator / 2 ^ 32 ≡ 0 = xor_shr v generator 32 ∙ ap (λ (x : ℕ). bit_xor x 1) top in
    let odd : bit_xor v generator % 2 ^ 1 ≡ 1 = xor_mod v generator 1 ∙ ap (λ (x : ℕ). bit_xor x 1) even in
    record { below = omega arith; choice = inr (odd, refl) }
reduces_by v (suc (suc q)) lt even top = absurd (omega arith)

reduced_same : (v v' w : ℕ) → Reduces v w → Reduces v' w → v ≡ v'
reduced_same v v' w a b =
    elim a.choice [
      | inl x ↦ elim b.choice [
        | inl y ↦ sym x.1 ∙ y.1
        | inr y ↦ absurd (omega (arith, x.0, y.0))
      ]
      | inr x ↦ elim b.choice [
        | inl y ↦ absurd (omega (arith, x.0, y.0))
        | inr y ↦ xor_cancel v v' generator (sym x.1 ∙ y.1)
      ]
    ]

shifted : ℕ → ℕ → ℕ
shifted r bit = bit_xor (2 * r) (bit * 4294967296)

bit_reduces : (r bit : ℕ) → r < 4294967296 → bit < 2 → Reduces (shifted r bit) (with_bit r bit)
unfolding shifted
bit_reduces r bit lt two =
    let v = bit_xor (2 * r) (bit * 4294967296) in
    let wide : v < 2 ^ 33 = xor_lt 33 (2 * r) (bit * 4294967296) (omega arith) (omega arith) in
    let first : 2 * r % 2 ^ 1 ≡ 0 = omega arith in
    let second : bit * 4294967296 % 2 ^ 1 ≡ 0 = omega arith in
    let even : v % 2 ^ 1 ≡ 0 = xor_mod (2 * r) (bit * 4294967296) 1 ∙ ap (λ (x : ℕ). bit_xor x (bit * 4294967296 % 2 ^ 1)) first ∙ ap (λ (x : ℕ). bit_xor 0 x) second in
    reduces_by v (v / 4294967296) wide even refl

bit_undone : (r s bit : ℕ) → r < 4294967296 → s < 4294967296 → bit < 2 → with_bit r bit ≡ with_bit s bit → r ≡ s
unfolding shifted
bit_undone r s bit rl sl two e =
    let a = bit_reduces r bit rl two in
    let b = bit_reduces s bit sl two in
    let b' : Reduces (shifted s bit) (with_bit r bit) = rw e b in
    let same = reduced_same (shifted r bit) (shifted s bit) (with_bit r bit) a b' in
    let twice : 2 * r ≡ 2 * s = xor_cancel (2 * r) (2 * s) (bit * 4294967296) same in
    omega arith

-- ---- bits, bytes

abbrev AreBits : List ℕ → Type 0
AreBits bits = AllByRecursion (λ b. b < 2) bits

bits_below : (r : ℕ) (bits : List ℕ) → r < 4294967296 → AreBits bits → with_bits r bits < 4294967296
bits_below r [] lt all = lt
bits_below r (b ∷ bits) lt all = bits_below (with_bit r b) bits (bit_reduces r b lt all.0).below all.1

bits_undone : (r s : ℕ) (bits : List ℕ) → r < 4294967296 → s < 4294967296 → AreBits bits → with_bits r bits ≡ with_bits s bits → r ≡ s
bits_undone r s [] rl sl all e = e
bits_undone r s (b ∷ bits) rl sl all e =
    bit_undone r s b rl sl all.0 (bits_undone (with_bit r b) (with_bit s b) bits (bit_reduces r b rl all.0).below (bit_reduces s b sl all.0).below all.1 e)

low : (n : ℕ) → n % 2 < 2
low n = omega arith

of_byte : (b : ℕ) → AreBits (bits_of b)
of_byte b = (low (b / 128), (low (b / 64), (low (b / 32), (low (b / 16), (low (b / 8), (low (b / 4), (low (b / 2), (low b, tt))))))))

after_undone : (r s : ℕ) (bs : List ℕ) → r < 4294967296 → s < 4294967296 → remainder_after r bs ≡ remainder_after s bs → r ≡ s
after_undone r s [] rl sl e = e
after_undone r s (b ∷ bs) rl sl e =
    bits_undone r s (bits_of b) rl sl (of_byte b) (after_undone (with_bits r (bits_of b)) (with_bits s (bits_of b)) bs (bits_below r (bits_of b) rl (of_byte b)) (bits_below s (bits_of b) sl (of_byte b)) e)

remainder_undone : (r s : ℕ) (bs : List ℕ) → r < 4294967296 → s < 4294967296 → crc_remainder r bs ≡ crc_remainder s bs → r ≡ s
unfolding crc_remainder
remainder_undone r s bs rl sl e = after_undone r s bs rl sl e

-- ---- the remainder's own bytes take it away

crc-append : (bs cs : List ℕ) → crc (bs ++ cs) ≡ crc_remainder (crc bs) cs
unfolding crc
crc-append bs cs = crc_remainder-append (2 ^ 32 - 1) bs cs

pub crc_alone_closes : (bs : List ℕ) (n : ℕ) → n < 4294967296 → crc (bs ++ big_bytes 4 n) ≡ 0 → n ≡ crc bs
crc_alone_closes bs n lt e = remainder_undone n (crc bs) (big_bytes 4 n) lt (crc-below bs) (word_closes n lt ∙ sym e ∙ crc-append bs (big_bytes 4 n))
