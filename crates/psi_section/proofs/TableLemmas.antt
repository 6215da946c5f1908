-- The tables' rule: each word is the remainder of its byte with the row's number of zero bytes behind. It is computed for whole rows,
-- each from the one before it, and lifted to each word.
use Rattle.std.proofs.Common.{◌≡◌, ℕ, zero, suc, ◌<◌, [], ◌∷◌, refl, sym, ap, ◌∙◌, arith, add-one, one-add, get_or, map, take, drop, replicate}
use Rattle.std.specs.List.{range_with_len}
use Rattle.std.proofs.Math.ListN.{get_or-map}
use Rattle.std.proofs.lemmas.List.{get_or-drop, get_or-take, replicate_more}
use Rattle.std.proofs.lemmas.List.FromFn.{get_or-map-range_with_len}
use Rattle.psi_section.specs.declared.tables.TheConstants.{TABLES}
use Rattle.psi_section.specs.Crc.{crc_remainder}
use Rattle.psi_section.proofs.CrcLemmas.{crc_remainder-append}

-- the remainder with a zero byte behind
zero_behind : ℕ → ℕ
zero_behind r = crc_remainder r (0 ∷ [])

zero_behind-zero : zero_behind 0 ≡ 0
unfolding zero_behind crc_remainder
zero_behind-zero = refl

first_row : get_or TABLES 0 [] ≡ map (λ b. crc_remainder 0 (b ∷ [])) (range_with_len 0 256)
unfolding crc_remainder
first_row = refl

next_rows : drop 1 TABLES ≡ map (map zero_behind) (take 7 TABLES)
unfolding zero_behind crc_remainder
next_rows = refl

next_row : (k : ℕ) → k < 7 → get_or TABLES (suc k) [] ≡ map zero_behind (get_or TABLES k [])
next_row k h =
    rw one-add at (sym (get_or-drop 1 TABLES k []))
    ∙ ap (λ t. get_or t k []) next_rows
    ∙ get_or-map (map zero_behind) (take 7 TABLES) k []
    ∙ ap (map zero_behind) (get_or-take 7 TABLES k [] h)

next_word : (k b : ℕ) → k < 7 → get_or (get_or TABLES (suc k) []) b 0 ≡ zero_behind (get_or (get_or TABLES k []) b 0)
next_word k b h =
    ap (λ t. get_or t b 0) (next_row k h)
    ∙ ap (get_or (map zero_behind (get_or TABLES k [])) b) (sym zero_behind-zero)
    ∙ get_or-map zero_behind (get_or TABLES k []) b 0

longer : (k b : ℕ) → zero_behind (crc_remainder 0 (b ∷ replicate k 0)) ≡ crc_remainder 0 (b ∷ replicate (suc k) 0)
unfolding zero_behind
longer k b = sym (crc_remainder-append 0 (b ∷ replicate k 0) (0 ∷ [])) ∙ ap (λ t. crc_remainder 0 (b ∷ t)) (rw add-one at (replicate_more {X = ℕ} k 0))

pub word_is : (k b : ℕ) → k < 8 → b < 256 → get_or (get_or TABLES k []) b 0 ≡ crc_remainder 0 (b ∷ replicate k 0)
word_is zero b h bb =
    ap (λ t. get_or t b 0) first_row ∙ get_or-map-range_with_len (λ x. crc_remainder 0 (x ∷ [])) 0 256 b b 0 bb (omega arith)
word_is (suc k) b h bb =
    next_word k b (omega arith) ∙ ap zero_behind (word_is k b (omega arith) bb) ∙ longer k b
