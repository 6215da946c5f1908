-- The bytes of a store after a step.
use Rattle.std.proofs.Common.{◌≡◌, ℕ, ◌+◌, ◌-◌, ◌≤◌, List, ◌++◌, sym, ap, ◌∙◌, length, take, drop}
use Rattle.std.proofs.lemmas.List.{drop-drop, drop-append-le, length-take-le}
use Rattle.std.proofs.lemmas.Slice.{between_is, take-put_mid}
use borrow.Rule.Slice.PartMut.{put_mid}

pub skip_drops : (xs : List ℕ) (at end n : ℕ) → take (end - (at + n)) (drop (at + n) xs) ≡ drop n (take (end - at) (drop at xs))
skip_drops xs at end n = between_is xs (at + n) end ∙ sym (drop-drop n at (take end xs)) ∙ ap (drop n) (sym (between_is xs at end))

pub put_appends : (xs ys zs : List ℕ) (at end k : ℕ) → at ≤ end → end ≤ length xs → ys ≡ zs
    → take (end + length zs - at) (drop at (put_mid end k xs ys)) ≡ take (end - at) (drop at xs) ++ zs
put_appends xs ys zs at end k h i e =
    let j : at ≤ length (take end xs) = rw (length-take-le end xs i) h in
    between_is (put_mid end k xs ys) at (end + length zs)
    ∙ ap (drop at) (take-put_mid end k xs ys (end + length zs) (ap (λ l. end + length l) (sym e)) i)
    ∙ drop-append-le at (take end xs) ys j
    ∙ ap (λ l. drop at (take end xs) ++ l) e
    ∙ ap (λ l. l ++ zs) (sym (between_is xs at end))
