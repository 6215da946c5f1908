-- A byte's eight steps are one look in the table: the division is linear.
use Rattle.std.proofs.Common.{◌≡◌, ℕ, zero, suc, ◌+◌, ◌*◌, ◌/◌, ◌%◌, ◌^◌, ◌<◌, ◌≤◌, List, [], ◌∷◌, ◌++◌, refl, sym, ap, ◌∙◌, arith, ◌==◌, if◌then◌else◌, lit<, add-zero, zero-add, slice_index, map, drop, length, add-one, ◌-◌}
use Rattle.std.proofs.Math.Seq.{drop-cons}
use Rattle.std.proofs.Math.ListN.{drop_of_length-le}
use Rattle.std.specs.List.{range_with_len}
use Rattle.std.proofs.lemmas.List.FromFn.{get_or-map-range_with_len}
use Rattle.std.specs.Prelude.{bit_xor}
use Rattle.std.specs.Int.Bits.{xor_assoc, xor_zero_l, xor_zero_r, xor_self}
use Rattle.std.proofs.Math.Nat.{mul_comm}
use Rattle.std.proofs.lemmas.Nat.{pow_pos, xor_comm, xor_lt, xor_shr, xor_mod, xor_block}
use Rattle.psi_section.specs.Crc.{generator, reduced, with_bit, bits_of, with_bits, remainder_after, crc_remainder, crc, with_crc}
use Rattle.byteorder.specs.Endian.{big_bytes}

-- ---- sums

swap_inner : (a b c d : ℕ) → bit_xor (bit_xor a b) (bit_xor c d) ≡ bit_xor (bit_xor a c) (bit_xor b d)
swap_inner a b c d =
    let e1 = xor_assoc a b (bit_xor c d) in
    let e2 = sym (xor_assoc b c d) in
    let e3 = xor_comm b c in
    let e4 = xor_assoc c b d in
    let e5 = sym (xor_assoc a c (bit_xor b d)) in
    e1 ∙ ap (bit_xor a) (e2 ∙ ap (λ x. bit_xor x d) e3 ∙ e4) ∙ e5

shifted-xor : (k a b : ℕ) → bit_xor (a * 2 ^ k) (b * 2 ^ k) ≡ bit_xor a b * 2 ^ k
shifted-xor k a b =
    let z = pow_pos k in
    let e : bit_xor (a * 2 ^ k + 0) (b * 2 ^ k + 0) ≡ bit_xor a b * 2 ^ k + bit_xor 0 0 = xor_block k a b 0 0 z z in
    rw (← add-zero (a * 2 ^ k), ← add-zero (b * 2 ^ k), ← add-zero (bit_xor a b * 2 ^ k)) e

twice-xor : (a b : ℕ) → 2 * bit_xor a b ≡ bit_xor (2 * a) (2 * b)
twice-xor a b = rw (mul_comm 2 (bit_xor a b), mul_comm 2 a, mul_comm 2 b) (sym (shifted-xor 1 a b))

-- ---- one step

-- what is added to divide
times : ℕ → ℕ
times zero = 0
times (suc n) = generator

times-xor : (a b : ℕ) → a < 2 → b < 2 → times (bit_xor a b) ≡ bit_xor (times a) (times b)
unfolding times
times-xor zero zero h k = refl
times-xor zero (suc zero) h k = refl
times-xor (suc zero) zero h k = refl
times-xor (suc zero) (suc zero) h k = refl
times-xor (suc (suc n)) b h k = absurd (omega arith)
times-xor a (suc (suc n)) h k = absurd (omega arith)

reduced_by : (v q : ℕ) → q < 2 → (if q == 1 then bit_xor v generator else v) ≡ bit_xor v (times q)
unfolding times
reduced_by v zero h = sym (xor_zero_r v)
reduced_by v (suc zero) h = refl
reduced_by v (suc (suc n)) h = absurd (omega arith)

reduced-is : (v : ℕ) → v < 2 ^ 33 → reduced v ≡ bit_xor v (times (v / 2 ^ 32))
reduced-is v h = reduced_by v (v / 2 ^ 32) (omega arith)

low_part : (v q : ℕ) → q ≡ v / 2 ^ 32 → q < 2 → bit_xor v (times q) < 2 ^ 32
unfolding times
low_part v zero e h = rw (xor_zero_r v) (omega arith)
low_part v (suc zero) e h =
    let s : v ≡ 1 * 2 ^ 32 + v % 2 ^ 32 = omega arith in
    let m : v % 2 ^ 32 < 2 ^ 32 = omega arith in
    let x : bit_xor (1 * 2 ^ 32 + v % 2 ^ 32) (1 * 2 ^ 32 + 0x4C11DB7) ≡ bit_xor 1 1 * 2 ^ 32 + bit_xor (v % 2 ^ 32) 0x4C11DB7 = xor_block 32 1 1 (v % 2 ^ 32) 0x4C11DB7 m (lit< tt) in
    let b : bit_xor (v % 2 ^ 32) 0x4C11DB7 < 2 ^ 32 = xor_lt 32 (v % 2 ^ 32) 0x4C11DB7 m (lit< tt) in
    let y : bit_xor v generator ≡ bit_xor (v % 2 ^ 32) 0x4C11DB7 = ap (λ t. bit_xor t generator) s ∙ x ∙ zero-add _ in
    rw y b
low_part v (suc (suc n)) e h = absurd (omega arith)

module _ (r : ℕ) (rb : r < 2 ^ 32) (a : ℕ) (ab : a < 2) where
  shifted_in_below : bit_xor (2 * r) (a * 2 ^ 32) < 2 ^ 33
  shifted_in_below = xor_lt 33 (2 * r) (a * 2 ^ 32) (omega arith) (omega arith)

  top_is : bit_xor (2 * r) (a * 2 ^ 32) / 2 ^ 32 ≡ bit_xor (2 * r / 2 ^ 32) a
  top_is =
      let e : a * 2 ^ 32 / 2 ^ 32 ≡ a = omega arith in
      xor_shr (2 * r) (a * 2 ^ 32) 32 ∙ ap (bit_xor (2 * r / 2 ^ 32)) e

  step-is : with_bit r a ≡ bit_xor (bit_xor (2 * r) (a * 2 ^ 32)) (bit_xor (times (2 * r / 2 ^ 32)) (times a))
  step-is =
      reduced-is (bit_xor (2 * r) (a * 2 ^ 32)) shifted_in_below
      ∙ ap (λ q. bit_xor (bit_xor (2 * r) (a * 2 ^ 32)) (times q)) top_is
      ∙ ap (bit_xor (bit_xor (2 * r) (a * 2 ^ 32))) (times-xor (2 * r / 2 ^ 32) a (omega arith) ab)

  step-below : with_bit r a < 2 ^ 32
  step-below =
      let v = bit_xor (2 * r) (a * 2 ^ 32) in
      let vb : v < 2 ^ 33 = shifted_in_below in
      rw (reduced-is v vb) (low_part v (v / 2 ^ 32) refl (omega arith))

bit-xor-below : (a b : ℕ) → a < 2 → b < 2 → bit_xor a b < 2
bit-xor-below a b h k = xor_lt 1 a b h k

-- a step is linear
module _ (r s : ℕ) (rb : r < 2 ^ 32) (sb : s < 2 ^ 32) (a b : ℕ) (ab : a < 2) (bb : b < 2) where
  step-xor : with_bit (bit_xor r s) (bit_xor a b) ≡ bit_xor (with_bit r a) (with_bit s b)
  step-xor =
      let xb : bit_xor r s < 2 ^ 32 = xor_lt 32 r s rb sb in
      let cb = bit-xor-below a b ab bb in
      let e0 : bit_xor (2 * bit_xor r s) (bit_xor a b * 2 ^ 32) ≡ bit_xor (bit_xor (2 * r) (a * 2 ^ 32)) (bit_xor (2 * s) (b * 2 ^ 32)) =
      rw (twice-xor r s, ← shifted-xor 32 a b) (swap_inner (2 * r) (2 * s) (a * 2 ^ 32) (b * 2 ^ 32)) in
      let t0 : times (2 * bit_xor r s / 2 ^ 32) ≡ bit_xor (times (2 * r / 2 ^ 32)) (times (2 * s / 2 ^ 32)) =
      ap (λ v. times (v / 2 ^ 32)) (twice-xor r s) ∙ ap times (xor_shr (2 * r) (2 * s) 32) ∙ times-xor (2 * r / 2 ^ 32) (2 * s / 2 ^ 32) (omega arith) (omega arith) in
      let t1 : times (bit_xor a b) ≡ bit_xor (times a) (times b) = times-xor a b ab bb in
      let w : bit_xor (times (2 * bit_xor r s / 2 ^ 32)) (times (bit_xor a b)) ≡ bit_xor (bit_xor (times (2 * r / 2 ^ 32)) (times a)) (bit_xor (times (2 * s / 2 ^ 32)) (times b)) =
      rw (t0, t1) (swap_inner (times (2 * r / 2 ^ 32)) (times (2 * s / 2 ^ 32)) (times a) (times b)) in
      let m : bit_xor (bit_xor (2 * bit_xor r s) (bit_xor a b * 2 ^ 32)) (bit_xor (times (2 * bit_xor r s / 2 ^ 32)) (times (bit_xor a b)))
      ≡ bit_xor (bit_xor (bit_xor (2 * r) (a * 2 ^ 32)) (bit_xor (times (2 * r / 2 ^ 32)) (times a))) (bit_xor (bit_xor (2 * s) (b * 2 ^ 32)) (bit_xor (times (2 * s / 2 ^ 32)) (times b))) =
      rw (e0, w) (swap_inner (bit_xor (2 * r) (a * 2 ^ 32)) (bit_xor (2 * s) (b * 2 ^ 32)) (bit_xor (times (2 * r / 2 ^ 32)) (times a)) (bit_xor (times (2 * s / 2 ^ 32)) (times b))) in
      let n : bit_xor (with_bit r a) (with_bit s b) ≡ bit_xor (bit_xor (bit_xor (2 * r) (a * 2 ^ 32)) (bit_xor (times (2 * r / 2 ^ 32)) (times a))) (bit_xor (bit_xor (2 * s) (b * 2 ^ 32)) (bit_xor (times (2 * s / 2 ^ 32)) (times b))) =
      ap (λ x. bit_xor x (with_bit s b)) (step-is r rb a ab) ∙ ap (bit_xor _) (step-is s sb b bb) in
      step-is (bit_xor r s) xb (bit_xor a b) cb ∙ m ∙ sym n

-- ---- a byte

-- two lists of as many bits
IsBits : List ℕ → List ℕ → Type 0
IsBits [] [] = Unit {0}
IsBits [] (b ∷ bs) = ⊥
IsBits (a ∷ as') [] = ⊥
IsBits (a ∷ as') (b ∷ bs) = (a < 2) × (b < 2) × IsBits as' bs

xors : List ℕ → List ℕ → List ℕ
xors [] bs = []
xors (a ∷ as') [] = []
xors (a ∷ as') (b ∷ bs) = bit_xor a b ∷ xors as' bs

steps-xor : (r s : ℕ) → r < 2 ^ 32 → s < 2 ^ 32 → (as' bs : List ℕ) → IsBits as' bs → with_bits (bit_xor r s) (xors as' bs) ≡ bit_xor (with_bits r as') (with_bits s bs)
unfolding IsBits xors
steps-xor r s rb sb [] [] h = refl
steps-xor r s rb sb [] (b ∷ bs) h = absurd h
steps-xor r s rb sb (a ∷ as') [] h = absurd h
steps-xor r s rb sb (a ∷ as') (b ∷ bs) h =
    ap (λ x. with_bits x (xors as' bs)) (step-xor r s rb sb a b h.0 h.1)
    ∙ steps-xor (with_bit r a) (with_bit s b) (step-below r rb a h.0) (step-below s sb b h.1) as' bs h.2

bit-xor : (k a b : ℕ) → bit_xor a b / 2 ^ k % 2 ≡ bit_xor (a / 2 ^ k % 2) (b / 2 ^ k % 2)
bit-xor k a b = ap (λ x. x % 2) (xor_shr a b k) ∙ xor_mod (a / 2 ^ k) (b / 2 ^ k) 1

bits-xor : (a b : ℕ) → bits_of (bit_xor a b) ≡ xors (bits_of a) (bits_of b)
unfolding xors
bits-xor a b =
    let e = λ (k : ℕ). bit-xor k a b in
    rw (e 7, e 6, e 5, e 4, e 3, e 2, e 1, xor_mod a b 1) refl

bits-are : (a b : ℕ) → IsBits (bits_of a) (bits_of b)
unfolding IsBits
bits-are a b =
    (omega arith, omega arith, (omega arith, omega arith, (omega arith, omega arith, (omega arith, omega arith, (omega arith, omega arith, (omega arith, omega arith, (omega arith, omega arith, (omega arith, omega arith, tt))))))))

pub byte-xor : (r s a b : ℕ) → r < 2 ^ 32 → s < 2 ^ 32 → with_bits (bit_xor r s) (bits_of (bit_xor a b)) ≡ bit_xor (with_bits r (bits_of a)) (with_bits s (bits_of b))
byte-xor r s a b rb sb =
    ap (with_bits (bit_xor r s)) (bits-xor a b) ∙ steps-xor r s rb sb (bits_of a) (bits_of b) (bits-are a b)

-- a zero behind a remainder whose top bit is clear
zero_step : (r : ℕ) → r < 2 ^ 31 → with_bit r 0 ≡ 2 * r
zero_step r h =
    let z : 2 * r / 2 ^ 32 ≡ 0 = omega arith in
    ap reduced (xor_zero_r (2 * r)) ∙ rw z refl

low_byte : (lo : ℕ) → lo < 2 ^ 24 → with_bits lo (bits_of 0) ≡ lo * 256
low_byte lo h =
    let e1 : with_bit lo 0 ≡ 2 * lo = zero_step lo (omega arith) in
    let e2 : with_bit (2 * lo) 0 ≡ 4 * lo = zero_step (2 * lo) (omega arith) ∙ omega arith in
    let e3 : with_bit (4 * lo) 0 ≡ 8 * lo = zero_step (4 * lo) (omega arith) ∙ omega arith in
    let e4 : with_bit (8 * lo) 0 ≡ 16 * lo = zero_step (8 * lo) (omega arith) ∙ omega arith in
    let e5 : with_bit (16 * lo) 0 ≡ 32 * lo = zero_step (16 * lo) (omega arith) ∙ omega arith in
    let e6 : with_bit (32 * lo) 0 ≡ 64 * lo = zero_step (32 * lo) (omega arith) ∙ omega arith in
    let e7 : with_bit (64 * lo) 0 ≡ 128 * lo = zero_step (64 * lo) (omega arith) ∙ omega arith in
    let e8 : with_bit (128 * lo) 0 ≡ lo * 256 = zero_step (128 * lo) (omega arith) ∙ omega arith in
    let f = λ (x : ℕ). with_bit x 0 in
    ap (λ x. f (f (f (f (f (f (f x))))))) e1 ∙ ap (λ x. f (f (f (f (f (f x)))))) e2 ∙ ap (λ x. f (f (f (f (f x))))) e3 ∙ ap (λ x. f (f (f (f x)))) e4
    ∙ ap (λ x. f (f (f x))) e5 ∙ ap (λ x. f (f x)) e6 ∙ ap f e7 ∙ e8

-- where the top byte is the byte behind, both go: computed for each
gone_all : map (λ h. with_bits (h * 2 ^ 24) (bits_of h)) (range_with_len 0 256) ≡ map (λ h. 0) (range_with_len 0 256)
gone_all = refl

gone : (h : ℕ) → h < 256 → with_bits (h * 2 ^ 24) (bits_of h) ≡ 0
gone h k =
    sym (get_or-map-range_with_len (λ x. with_bits (x * 2 ^ 24) (bits_of x)) 0 256 h h 0 k (omega arith))
    ∙ ap (λ t. slice_index t h) gone_all
    ∙ get_or-map-range_with_len (λ x. 0) 0 256 h h 0 k (omega arith)

split_top : (r : ℕ) → r ≡ bit_xor (r / 2 ^ 24 * 2 ^ 24) (r % 2 ^ 24)
split_top r =
    let m : r % 2 ^ 24 < 2 ^ 24 = omega arith in
    let e : bit_xor (r / 2 ^ 24 * 2 ^ 24 + 0) (0 * 2 ^ 24 + r % 2 ^ 24) ≡ bit_xor (r / 2 ^ 24) 0 * 2 ^ 24 + bit_xor 0 (r % 2 ^ 24) = xor_block 24 (r / 2 ^ 24) 0 0 (r % 2 ^ 24) (pow_pos 24) m in
    let f : bit_xor (r / 2 ^ 24 * 2 ^ 24) (r % 2 ^ 24) ≡ bit_xor (r / 2 ^ 24 * 2 ^ 24 + 0) (0 * 2 ^ 24 + r % 2 ^ 24) = rw (add-zero (r / 2 ^ 24 * 2 ^ 24), zero-add (r % 2 ^ 24)) refl in
    let g : bit_xor (r / 2 ^ 24) 0 * 2 ^ 24 + bit_xor 0 (r % 2 ^ 24) ≡ r = rw (xor_zero_r (r / 2 ^ 24), xor_zero_l (r % 2 ^ 24)) (omega arith) in
    sym (f ∙ e ∙ g)

again : (h b : ℕ) → b ≡ bit_xor h (bit_xor h b)
again h b = sym (sym (xor_assoc h h b) ∙ ap (λ x. bit_xor x b) (xor_self h) ∙ xor_zero_l b)

-- eight steps are one look in the table
pub byte_step : (r b : ℕ) → r < 2 ^ 32 → b < 256 → with_bits r (bits_of b) ≡ bit_xor (with_bits 0 (bits_of (bit_xor (r / 2 ^ 24) b))) (r * 256 % 2 ^ 32)
byte_step r b rb bb =
    let hi = r / 2 ^ 24 in
    let lo = r % 2 ^ 24 in
    let c = bit_xor hi b in
    let lob : lo < 2 ^ 24 = omega arith in
    let hib : hi < 256 = omega arith in
    let e1 : with_bits r (bits_of b) ≡ with_bits (bit_xor (hi * 2 ^ 24) lo) (bits_of (bit_xor hi c)) =
    ap (λ x. with_bits x (bits_of b)) (split_top r) ∙ ap (λ x. with_bits (bit_xor (hi * 2 ^ 24) lo) (bits_of x)) (again hi b) in
    let e2 : with_bits (bit_xor (hi * 2 ^ 24) lo) (bits_of (bit_xor hi c)) ≡ bit_xor (with_bits (hi * 2 ^ 24) (bits_of hi)) (with_bits lo (bits_of c)) =
    byte-xor (hi * 2 ^ 24) lo hi c (omega arith) (omega arith) in
    let e3 : bit_xor (with_bits (hi * 2 ^ 24) (bits_of hi)) (with_bits lo (bits_of c)) ≡ with_bits lo (bits_of c) =
    ap (λ x. bit_xor x (with_bits lo (bits_of c))) (gone hi hib) ∙ xor_zero_l (with_bits lo (bits_of c)) in
    let e4 : with_bits lo (bits_of c) ≡ with_bits (bit_xor 0 lo) (bits_of (bit_xor c 0)) =
    sym (ap (λ x. with_bits x (bits_of (bit_xor c 0))) (xor_zero_l lo) ∙ ap (λ x. with_bits lo (bits_of x)) (xor_zero_r c)) in
    let e5 : with_bits (bit_xor 0 lo) (bits_of (bit_xor c 0)) ≡ bit_xor (with_bits 0 (bits_of c)) (with_bits lo (bits_of 0)) =
    byte-xor 0 lo c 0 (omega arith) (omega arith) in
    let e6 : with_bits lo (bits_of 0) ≡ r * 256 % 2 ^ 32 = low_byte lo lob ∙ omega arith in
    e1 ∙ e2 ∙ e3 ∙ e4 ∙ e5 ∙ ap (bit_xor (with_bits 0 (bits_of c))) e6

pub byte_step_crc : (r b : ℕ) → r < 2 ^ 32 → b < 256 → crc_remainder r (b ∷ []) ≡ bit_xor (crc_remainder 0 (bit_xor (r / 2 ^ 24) b ∷ [])) (r * 256 % 2 ^ 32)
unfolding crc_remainder
byte_step_crc r b rb bb = byte_step r b rb bb

pub crc_remainder-nil : (r : ℕ) → crc_remainder r [] ≡ r
unfolding crc_remainder
crc_remainder-nil r = refl

pub crc_remainder-cons : (r b : ℕ) (bs : List ℕ) → crc_remainder r (b ∷ bs) ≡ crc_remainder (crc_remainder r (b ∷ [])) bs
unfolding crc_remainder
crc_remainder-cons r b bs = refl

-- a step of the walk over the bytes, and its end
pub walk_step : (r i : ℕ) (bs : List ℕ) → i < length bs → crc_remainder (crc_remainder r (slice_index bs i ∷ [])) (drop (i + 1) bs) ≡ crc_remainder r (drop i bs)
walk_step r i bs h =
    let e : drop i bs ≡ slice_index bs i ∷ drop (i + 1) bs = rw add-one (drop-cons bs i 0 h) in
    sym (ap (crc_remainder r) e ∙ crc_remainder-cons r (slice_index bs i) (drop (i + 1) bs))

pub walk_end : (r s i : ℕ) (bs : List ℕ) → length bs ≤ i → crc_remainder r (drop i bs) ≡ crc_remainder s bs → r ≡ crc_remainder s bs
walk_end r s i bs h e = sym (crc_remainder-nil r) ∙ ap (crc_remainder r) (sym (drop_of_length-le bs h)) ∙ e

-- ---- the CRC_32 behind its own bytes

bits_below : (r : ℕ) → r < 2 ^ 32 → (bits bs : List ℕ) → IsBits bits bs → with_bits r bits < 2 ^ 32
unfolding IsBits
bits_below r h [] [] b = h
bits_below r h [] (y ∷ ys) b = absurd b
bits_below r h (x ∷ xs) [] b = absurd b
bits_below r h (x ∷ xs) (y ∷ ys) b = bits_below (with_bit r x) (step-below r h x b.0) xs ys b.2

pub byte_below : (r b : ℕ) → r < 2 ^ 32 → with_bits r (bits_of b) < 2 ^ 32
byte_below r b h = bits_below r h (bits_of b) (bits_of b) (bits-are b b)

remainder_below : (r : ℕ) → r < 2 ^ 32 → (bs : List ℕ) → remainder_after r bs < 2 ^ 32
remainder_below r h [] = h
remainder_below r h (b ∷ bs) = remainder_below (with_bits r (bits_of b)) (byte_below r b h) bs

pub crc-below : (bs : List ℕ) → crc bs < 2 ^ 32
unfolding crc crc_remainder
crc-below bs = remainder_below (2 ^ 32 - 1) (omega arith) bs

remainder-append : (r : ℕ) (as' bs : List ℕ) → remainder_after r (as' ++ bs) ≡ remainder_after (remainder_after r as') bs
remainder-append r [] bs = refl
remainder-append r (a ∷ as') bs = remainder-append (with_bits r (bits_of a)) as' bs

pub crc_remainder-append : (r : ℕ) (as' bs : List ℕ) → crc_remainder r (as' ++ bs) ≡ crc_remainder (crc_remainder r as') bs
unfolding crc_remainder
crc_remainder-append r as' bs = remainder-append r as' bs

-- a remainder's first byte behind it moves the others up
own_byte : (r : ℕ) → r < 2 ^ 32 → with_bits r (bits_of (r / 2 ^ 24)) ≡ r * 256 % 2 ^ 32
own_byte r h =
    byte_step r (r / 2 ^ 24) h (omega arith)
    ∙ ap (λ x. bit_xor (with_bits 0 (bits_of x)) (r * 256 % 2 ^ 32)) (xor_self (r / 2 ^ 24))
    ∙ xor_zero_l (r * 256 % 2 ^ 32)

own_next : (r b : ℕ) → r < 2 ^ 32 → b ≡ r / 2 ^ 24 → with_bits r (bits_of b) ≡ r * 256 % 2 ^ 32
own_next r b h e = ap (λ x. with_bits r (bits_of x)) e ∙ own_byte r h

own_word : (r : ℕ) → r < 2 ^ 32 → remainder_after r (big_bytes 4 r) ≡ 0
own_word r h =
    let a = r * 256 % 2 ^ 32 in
    let b = a * 256 % 2 ^ 32 in
    let c = b * 256 % 2 ^ 32 in
    let e1 : with_bits r (bits_of (r / 2 ^ 24 % 256)) ≡ a = own_next r (r / 2 ^ 24 % 256) h (omega arith) in
    let e2 : with_bits a (bits_of (r / 2 ^ 16 % 256)) ≡ b = own_next a (r / 2 ^ 16 % 256) (omega arith) (omega arith) in
    let e3 : with_bits b (bits_of (r / 2 ^ 8 % 256)) ≡ c = own_next b (r / 2 ^ 8 % 256) (omega arith) (omega arith) in
    let e4 : with_bits c (bits_of (r % 256)) ≡ c * 256 % 2 ^ 32 = own_next c (r % 256) (omega arith) (omega arith) in
    ap (λ x. with_bits (with_bits (with_bits x (bits_of (r / 2 ^ 16 % 256))) (bits_of (r / 2 ^ 8 % 256))) (bits_of (r % 256))) e1
    ∙ ap (λ x. with_bits (with_bits x (bits_of (r / 2 ^ 8 % 256))) (bits_of (r % 256))) e2
    ∙ ap (λ x. with_bits x (bits_of (r % 256))) e3
    ∙ e4
    ∙ omega arith

pub word_closes : (r : ℕ) → r < 2 ^ 32 → crc_remainder r (big_bytes 4 r) ≡ 0
unfolding crc_remainder
word_closes r h = own_word r h

pub crc_closed : (bs : List ℕ) → crc (with_crc bs) ≡ 0
unfolding crc crc_remainder
crc_closed bs = remainder-append (2 ^ 32 - 1) bs (big_bytes 4 (crc bs)) ∙ own_word (remainder_after (2 ^ 32 - 1) bs) (remainder_below (2 ^ 32 - 1) (omega arith) bs)
