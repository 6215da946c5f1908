-- Bytes that fill packets.
use Rattle.std.proofs.Common.{◌≡◌, ℕ, suc, ◌-◌, ◌<◌, ◌≤◌, List, ap, ◌∙◌, arith, length, take, drop, min, ⊎_elim, sym}
use Rattle.std.proofs.lemmas.Bool.{cases_lt}
use Rattle.std.proofs.lemmas.List.{take_min}
use Rattle.std.proofs.Math.Nat.{min_comm, le_refl}
use Rattle.std.proofs.Math.ListN.{drop_of_length-le}
use Rattle.ts_packet.specs.Filling.{packets_for}

pub count-more : (size : ℕ) → 0 < size → packets_for size ≡ suc (packets_for (size - 184))
count-more size h = omega arith

pub take-min : (room k : ℕ) (s : List ℕ) → k ≡ min (length s) room → take k s ≡ take room s
take-min room k s h = ap (λ n. take n s) (h ∙ min_comm (length s) room) ∙ take_min room s

min_right : (n m : ℕ) → n < m → min m n ≡ n
min_right n m h = omega arith

min_left : (n m : ℕ) → m ≤ n → min m n ≡ m
min_left n m h = omega arith

pub drop-min : (n : ℕ) (bs : List ℕ) → drop (min (length bs) n) bs ≡ drop n bs
drop-min n bs = ⊎_elim (λ h. ap (λ x. drop x bs) (min_right n (length bs) h)) (λ h. ap (λ x. drop x bs) (min_left n (length bs) h) ∙ drop_of_length-le bs (le_refl (length bs)) ∙ sym (drop_of_length-le bs h)) (cases_lt n (length bs))
