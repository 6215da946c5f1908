-- The packets of a stream with the counters that they go out with.
use Rattle.std.proofs.Common.{◌≡◌, ℕ, ◌+◌, ◌%◌, List, [], ◌∷◌, Bool, false, refl, sym, ap, ◌∙◌, length}
use Rattle.std.specs.Prelude.{is_some}
use Rattle.ts_packet.specs.Fields.{number, renumbered, with_number, payload}
use Rattle.ts_packet.specs.Numbering.{Step, moved, number_out}
use Rattle.ts_packet.proofs.FieldLemmas.{number-below}
use Rattle.ts_packet.proofs.Renumbered.{renumbered-zero}
use Rattle.psi_section.proofs.ReadBackLemmas.{number_none}
use Rattle.splice_plans.specs.Counting.{left_place}

pub moved-out : (n : ℕ) (p : List ℕ) (steps : List Step) → n ≡ number_out p steps → with_number n p ≡ renumbered (moved steps) p
unfolding renumbered
moved-out n p steps h = ap (λ k. with_number k p) h

with-own : (p : List ℕ) (n : ℕ) → n ≡ (number p + 0) % 16 → length p ≡ 188 → with_number n p ≡ p
unfolding renumbered
with-own p n is size = ap (λ k. with_number k p) is ∙ renumbered-zero p size

-- one whose counter stays
pub unmoved-out : (n : ℕ) (p : List ℕ) (steps : List Step) → n ≡ number_out p steps → n ≡ number p → length p ≡ 188 → p ≡ renumbered (moved steps) p
unmoved-out n p steps is same size = sym (with-own p n (same ∙ number_none (number p) (number-below p)) size) ∙ moved-out n p steps is

-- one without payload stays, in a unit that is left out too
pub stays-out : (is_repeat : Bool) (p : List ℕ) (steps : List Step) → is_some (payload p) ≡ false → left_place is_repeat p steps ≡ renumbered (moved steps) p ∷ []
stays-out is_repeat p steps none = simp none refl
