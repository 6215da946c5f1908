-- A packet moved by nothing is the packet itself.
use Rattle.std.proofs.Common.{◌≡◌, ℕ, ◌+◌, ◌*◌, ◌/◌, ◌%◌, List, [], ◌∷◌, refl, arith, length}
use Rattle.ts_packet.specs.Fields.{number, renumbered, with_number}

pub renumbered-zero : (p : List ℕ) → length p ≡ 188 → renumbered 0 p ≡ p
unfolding renumbered with_number number
renumbered-zero [] h = absurd (omega (arith, h))
renumbered-zero (a ∷ []) h = absurd (omega (arith, h))
renumbered-zero (a ∷ b ∷ []) h = absurd (omega (arith, h))
renumbered-zero (a ∷ b ∷ c ∷ []) h = absurd (omega (arith, h))
renumbered-zero (a ∷ b ∷ c ∷ d ∷ r) h = let e : d / 16 * 16 + (d % 16 + 0) % 16 ≡ d = omega arith in rw e refl
