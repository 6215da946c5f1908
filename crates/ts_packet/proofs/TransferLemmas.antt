-- What a read into the rest of a buffer leaves in it.
use Rattle.std.proofs.Common.{◌≡◌, ℕ, ◌+◌, ◌-◌, ◌≤◌, List, Option, ◌++◌, arith, length, take, drop, ap, ◌∙◌, le_refl, drop_at, length-take-le, length-append, length-drop, [], Some, None}
use Rattle.std.proofs.lemmas.Slice.{take-put_mid_below}
use Rattle.std.specs.Io.KnownBytes.{Consumes, IsAtEnd}
use Rattle.std.proofs.lemmas.List.{append-nil}
use Rattle.std.specs.Prelude.{IfSome}
use borrow.Rule.Slice.PartMut.{put_mid, post_of}
use lib.Seq.{take-add, take-append-le}

-- it keeps its length
pub length-filled : (a : ℕ) (xs ys : List ℕ) → a ≤ length xs → length ys ≡ length xs - a → length (put_mid a (length xs - a) xs ys) ≡ length xs
length-filled a xs ys h e =
    let front = length-take-le a xs h in
    let whole = length-append (take a xs) (ys ++ post_of a (length xs - a) xs) in
    let back = length-append ys (post_of a (length xs - a) xs) in
    let rest : length (post_of a (length xs - a) xs) ≡ length xs - a - (length xs - a) = length-drop (length xs - a) (drop a xs) ∙ ap (λ n. n - (length xs - a)) (length-drop a xs) in
    omega arith

-- the front up to here, and then what was read
pub take-filled : (a k n : ℕ) (xs ys : List ℕ) → a ≤ length xs → n ≤ length ys → take (a + n) (put_mid a k xs ys) ≡ take a xs ++ take n ys
take-filled a k n xs ys within fits =
    let after = post_of a k xs in
    take-add a n (put_mid a k xs ys)
    ∙ ap (λ l. l ++ take n (drop a (put_mid a k xs ys))) (take-put_mid_below a k xs ys a (le_refl a) within)
    ∙ ap (λ l. take a xs ++ take n l) (drop_at (take a xs) (ys ++ after) a (length-take-le a xs within))
    ∙ ap (λ l. take a xs ++ l) (take-append-le n ys after fits)

-- where a read finds the end, what was read is all
pub at_end : (a b c : Option (List ℕ)) (bs none : List ℕ) → Consumes a b bs → Consumes b c none → none ≡ [] → IsAtEnd c → IfSome a (λ all. all ≡ bs)
at_end None b c bs none p q e end = tt
at_end (Some x) None c bs none p q e end = absurd p
at_end (Some x) (Some y) None bs none p q e end = absurd q
at_end (Some x) (Some y) (Some z) bs none p q e end = p ∙ ap (λ l. bs ++ l) (q ∙ ap (λ l. l ++ z) e ∙ end) ∙ append-nil bs
