-- The remainder with a chunk of eight bytes behind: the sum of those of each byte alone, with zeros in the place of the bytes behind it.
use Rattle.std.proofs.Common.{◌≡◌, ℕ, zero, suc, ◌+◌, ◌*◌, ◌/◌, ◌%◌, ◌^◌, ◌<◌, List, [], ◌∷◌, refl, sym, ap, ◌∙◌, arith, length, replicate, get_or, map, take, drop}
use Rattle.std.specs.List.{range_with_len}
use Rattle.std.specs.Prelude.{bit_xor}
use Rattle.std.specs.Simd.{first_chunks}
use Rattle.std.specs.Int.Bits.{xor_zero_r}
use Rattle.std.proofs.lemmas.List.{drop-drop, ext_get_or, take-append-drop}
use Rattle.std.proofs.lemmas.List.FromFn.{get_or-map-range_with_len}
use Rattle.std.proofs.lemmas.Nat.{xor_comm}
use Rattle.psi_section.specs.Crc.{bits_of, with_bits, remainder_after, crc_remainder}
use Rattle.psi_section.proofs.CrcLemmas.{byte-xor, byte_step, byte_below, crc_remainder-append}

-- the second of two remainders needs no bytes
remainder-plus : (r s : ℕ) → r < 2 ^ 32 → s < 2 ^ 32 → (bs : List ℕ) → remainder_after (bit_xor r s) bs ≡ bit_xor (remainder_after r bs) (remainder_after s (replicate (length bs) 0))
remainder-plus r s rb sb [] = refl
remainder-plus r s rb sb (b ∷ bs) =
    let e : with_bits (bit_xor r s) (bits_of b) ≡ bit_xor (with_bits r (bits_of b)) (with_bits s (bits_of 0)) =
    ap (λ x. with_bits (bit_xor r s) (bits_of x)) (sym (xor_zero_r b)) ∙ byte-xor r s b 0 rb sb in
    ap (λ x. remainder_after x bs) e ∙ remainder-plus (with_bits r (bits_of b)) (with_bits s (bits_of 0)) (byte_below r b rb) (byte_below s 0 sb) bs

-- a byte's remainder with so many zeros behind
abbrev word : ℕ → ℕ → ℕ
word k b = crc_remainder 0 (b ∷ replicate k 0)

-- The top byte of a remainder joins the first byte behind it, and the others move up.
byte_joined : (r b : ℕ) (bs : List ℕ) → r < 2 ^ 32 → b < 256 → crc_remainder r (b ∷ bs) ≡ bit_xor (crc_remainder (r * 256 % 2 ^ 32) bs) (word (length bs) (bit_xor (r / 2 ^ 24) b))
unfolding crc_remainder
byte_joined r b bs rb bb =
    let w = with_bits 0 (bits_of (bit_xor (r / 2 ^ 24) b)) in
    let s = r * 256 % 2 ^ 32 in
    ap (λ x. remainder_after x bs) (byte_step r b rb bb ∙ xor_comm w s)
    ∙ remainder-plus s w (omega arith) (byte_below 0 (bit_xor (r / 2 ^ 24) b) (omega arith)) bs

-- the same for a top byte t, and a remainder s that is moved up
joined : (r b t s : ℕ) (bs : List ℕ) → r < 2 ^ 32 → b < 256 → t ≡ r / 2 ^ 24 → s ≡ r * 256 % 2 ^ 32 → crc_remainder r (b ∷ bs) ≡ bit_xor (crc_remainder s bs) (word (length bs) (bit_xor t b))
joined r b t s bs rb bb e f = rw (e, f) (byte_joined r b bs rb bb)

-- from the start value 0 nothing joins it
alone : (b : ℕ) (bs : List ℕ) → b < 256 → crc_remainder 0 (b ∷ bs) ≡ bit_xor (crc_remainder 0 bs) (word (length bs) b)
alone b bs bb = joined 0 b 0 0 bs (omega arith) bb refl refl

eight_listed : (bs : List ℕ) → length bs ≡ 8 → get_or bs 0 0 ∷ get_or bs 1 0 ∷ get_or bs 2 0 ∷ get_or bs 3 0 ∷ get_or bs 4 0 ∷ get_or bs 5 0 ∷ get_or bs 6 0 ∷ get_or bs 7 0 ∷ [] ≡ bs
eight_listed bs e =
    ext_get_or 0 (map (λ j. get_or bs j 0) (range_with_len 0 8)) bs (sym e) (λ i h. get_or-map-range_with_len (λ j. get_or bs j 0) 0 8 i i 0 h (omega arith))

-- eight bytes behind: the remainder's own four join the first four
pub chunk_behind : (r : ℕ) (own bs : List ℕ) → r < 2 ^ 32 → own ≡ r / 2 ^ 24 % 256 ∷ r / 2 ^ 16 % 256 ∷ r / 2 ^ 8 % 256 ∷ r % 256 ∷ [] → length bs ≡ 8 → ((i : ℕ) → get_or bs i 0 < 256)
    → bit_xor (bit_xor (bit_xor (bit_xor (bit_xor (bit_xor (bit_xor
    (word 0 (get_or bs 7 0)) (word 1 (get_or bs 6 0))) (word 2 (get_or bs 5 0))) (word 3 (get_or bs 4 0)))
    (word 4 (bit_xor (get_or own 3 0) (get_or bs 3 0))))
    (word 5 (bit_xor (get_or own 2 0) (get_or bs 2 0))))
    (word 6 (bit_xor (get_or own 1 0) (get_or bs 1 0))))
    (word 7 (bit_xor (get_or own 0 0) (get_or bs 0 0)))
    ≡ crc_remainder r bs
chunk_behind r own bs rb is eight fits =
    let s = r * 256 % 2 ^ 32 in
    let t = s * 256 % 2 ^ 32 in
    let u = t * 256 % 2 ^ 32 in
    let b = λ (i : ℕ). get_or bs i 0 in
    let e1 = joined r (b 0) (r / 2 ^ 24 % 256) s (b 1 ∷ b 2 ∷ b 3 ∷ b 4 ∷ b 5 ∷ b 6 ∷ b 7 ∷ []) rb (fits 0) (omega arith) refl in
    let e2 = joined s (b 1) (r / 2 ^ 16 % 256) t (b 2 ∷ b 3 ∷ b 4 ∷ b 5 ∷ b 6 ∷ b 7 ∷ []) (omega arith) (fits 1) (omega arith) refl in
    let e3 = joined t (b 2) (r / 2 ^ 8 % 256) u (b 3 ∷ b 4 ∷ b 5 ∷ b 6 ∷ b 7 ∷ []) (omega arith) (fits 2) (omega arith) refl in
    let e4 = joined u (b 3) (r % 256) 0 (b 4 ∷ b 5 ∷ b 6 ∷ b 7 ∷ []) (omega arith) (fits 3) (omega arith) (omega arith) in
    let e5 = alone (b 4) (b 5 ∷ b 6 ∷ b 7 ∷ []) (fits 4) in
    let e6 = alone (b 5) (b 6 ∷ b 7 ∷ []) (fits 5) in
    let e7 = alone (b 6) (b 7 ∷ []) (fits 6) in
    rw is (sym (ap (crc_remainder r) (sym (eight_listed bs eight)) ∙ rw (e1, e2, e3, e4, e5, e6, e7) refl))

-- ---- the walk over chunks

chunk_is : {X : Type 0} (n k i : ℕ) (xs : List X) → i < k → get_or (first_chunks n k xs) i [] ≡ take n (drop (i * n) xs)
chunk_is n zero i xs h = absurd (omega arith)
chunk_is n (suc k) zero xs h =
    let e : 0 * n ≡ 0 = omega arith in
    rw e refl
chunk_is n (suc k) (suc i) xs h =
    let e : n + i * n ≡ suc i * n = omega arith in
    chunk_is n k i (drop n xs) (omega arith) ∙ ap (take n) (drop-drop (i * n) n xs ∙ ap (λ j. drop j xs) e)

-- a step of the walk over chunks of eight
pub chunk_step : (r i k : ℕ) (chunks : List (List ℕ)) (bs : List ℕ) → chunks ≡ first_chunks 8 k bs → i < k → crc_remainder (crc_remainder r (get_or chunks i [])) (drop ((i + 1) * 8) bs) ≡ crc_remainder r (drop (i * 8) bs)
chunk_step r i k chunks bs e h =
    let f : i * 8 + 8 ≡ (i + 1) * 8 = omega arith in
    let c : get_or chunks i [] ≡ take 8 (drop (i * 8) bs) = ap (λ t. get_or t i []) e ∙ chunk_is 8 k i bs h in
    let d : drop ((i + 1) * 8) bs ≡ drop 8 (drop (i * 8) bs) = sym (drop-drop 8 (i * 8) bs ∙ ap (λ j. drop j bs) f) in
    rw (c, d) (sym (crc_remainder-append r (take 8 (drop (i * 8) bs)) (drop 8 (drop (i * 8) bs))) ∙ ap (crc_remainder r) (take-append-drop 8 (drop (i * 8) bs)))
