-- What the two bytes behind table_id say.
use Rattle.std.proofs.Common.{◌≡◌, ℕ, ◌/◌, ◌%◌, ◌<◌, ◌≤◌, List, [], ◌∷◌, length, slice_index, arith}
use Rattle.wire_fields.specs.Numbers.{AreBytes, number16_at}
use Rattle.psi_section.specs.Sections.{section_length}

-- section_length and section_syntax_indicator, in the number that these bytes are
pub length_is : (bytes : List ℕ) → 3 ≤ length bytes → AreBytes bytes → section_length bytes ≡ number16_at bytes 1 % 4096
unfolding number16_at
length_is [] le h = absurd (omega arith)
length_is (a ∷ []) le h = absurd (omega arith)
length_is (a ∷ b ∷ []) le h = absurd (omega arith)
length_is (a ∷ b ∷ c ∷ bytes) le h = let low : c < 256 = h 2 in omega arith

pub syntax_is : (bytes : List ℕ) → 3 ≤ length bytes → AreBytes bytes → slice_index bytes 1 / 128 % 2 ≡ 1 → number16_at bytes 1 / 32768 ≡ 1
unfolding number16_at
syntax_is [] le h s = absurd (omega arith)
syntax_is (a ∷ []) le h s = absurd (omega arith)
syntax_is (a ∷ b ∷ []) le h s = absurd (omega arith)
syntax_is (a ∷ b ∷ c ∷ bytes) le h s = let high : b < 256 = h 1 in let low : c < 256 = h 2 in let t : b / 128 % 2 ≡ 1 = s in omega arith
