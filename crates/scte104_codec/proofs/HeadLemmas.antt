-- The head of a message, spelled and read.
use Rattle.std.proofs.Common.{◌≡◌, ℕ, ◌+◌, ◌≤◌, List, ◌∷◌, ◌++◌, length, drop, slice_index, refl, ap, ◌∙◌, arith}
use Rattle.byteorder.specs.Endian.{big_bytes}
use Rattle.wire_fields.specs.Numbers.{number16_at, AreBytes}
use Rattle.wire_fields.proofs.Cells.{field16, two_at, one_at, number16_fits}
use Rattle.scte104_codec.specs.declared.head.Head.{Head}
use Rattle.scte104_codec.specs.Head.{head_at, head_bytes, HeadFits}

pub head_back : (bytes : List ℕ) (place : ℕ) (h : Head) (rest : List ℕ) → slice_index bytes place ≡ h.as_index → slice_index bytes (place + 1) ≡ h.number → drop (place + 2) bytes ≡ big_bytes 2 h.index ++ rest → HeadFits h → head_at bytes place ≡ h
unfolding head_at
head_back bytes place h rest a b e fits =
    let c = field16 bytes (place + 2) h.index rest e fits.index in
    rw (a, b, c) refl

pub head_fits : (bytes : List ℕ) (place : ℕ) → AreBytes bytes → HeadFits (head_at bytes place)
unfolding head_at
head_fits bytes place h = record { as_index = h place; number = h (place + 1); index = number16_fits bytes (place + 2) h }

pub head_is : (bytes : List ℕ) (place : ℕ) → place + 4 ≤ length bytes → AreBytes bytes → drop place bytes ≡ head_bytes (head_at bytes place) ++ drop (place + 4) bytes
unfolding head_at
head_is bytes place le h =
    let a = one_at bytes place (omega arith) in
    let b = one_at bytes (place + 1) (omega arith) in
    let c = two_at bytes (place + 2) (omega arith) h in
    let b-place : place + 1 + 1 ≡ place + 2 = omega arith in
    let c-place : place + 2 + 2 ≡ place + 4 = omega arith in
    let b' : drop (place + 1) bytes ≡ slice_index bytes (place + 1) ∷ drop (place + 2) bytes = b ∙ ap (λ (n : ℕ). slice_index bytes (place + 1) ∷ drop n bytes) b-place in
    let c' : drop (place + 2) bytes ≡ big_bytes 2 (number16_at bytes (place + 2)) ++ drop (place + 4) bytes = c ∙ ap (λ (n : ℕ). big_bytes 2 (number16_at bytes (place + 2)) ++ drop n bytes) c-place in
    a ∙ ap (λ (xs : List ℕ). slice_index bytes place ∷ xs) (b' ∙ ap (λ (xs : List ℕ). slice_index bytes (place + 1) ∷ xs) c')
