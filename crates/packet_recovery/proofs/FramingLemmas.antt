-- How the packets of bytes go on, packet by packet and place by place.
use Rattle.std.proofs.Common.{◌≡◌, ℕ, zero, suc, ◌+◌, ◌*◌, ◌-◌, ◌<◌, ◌≤◌, List, [], ◌∷◌, ◌++◌, Bool, true, false, if◌then◌else◌, nat_lt, All, arith, length, take, drop, refl, ap, ◌∙◌, le_refl, drop_at, length-append, length-take-le, length-drop}
use Rattle.std.proofs.lemmas.Bool.Decides.{nat_tests}
use Rattle.std.proofs.lemmas.List.Elements.{All-nil, All-cons}
use lib.Seq.{take_all, take-append-le}
use Rattle.packet_recovery.specs.Framing.{begins_with_sync, resumes, resumed, framed_in, framed, skipped}

-- ---- places of sync

short_of : (t : Bool) (xs ys : List ℕ) (n : ℕ) → length xs ≤ n → length ys ≤ n → length (if t then xs else ys) ≤ n
short_of true xs ys n h k = h
short_of false xs ys n h k = k

longer : (b : ℕ) (bs : List ℕ) (n : ℕ) → n ≤ length bs → n ≤ length (b ∷ bs)
longer b bs n h = grind (arith, h)

pub resumed-le : (bs : List ℕ) → length (resumed bs) ≤ length bs
unfolding resumed
resumed-le [] = le_refl 0
resumed-le (b ∷ bs) = short_of (resumes (b ∷ bs)) (b ∷ bs) (resumed bs) (length (b ∷ bs)) (le_refl _) (longer b bs _ (resumed-le bs))

-- where sync is found, nothing is left out
pub resumed-here : (bs : List ℕ) → resumes bs ≡ true → resumed bs ≡ bs
unfolding resumed
resumed-here [] h = refl
resumed-here (b ∷ bs) h = rw h refl

-- and where it is not, the first byte is
pub resumed-skip : (b : ℕ) (bs : List ℕ) → resumes (b ∷ bs) ≡ false → resumed (b ∷ bs) ≡ resumed bs
unfolding resumed
resumed-skip b bs h = rw h refl

pub no_sync : (bs : List ℕ) → begins_with_sync bs ≡ false → resumes bs ≡ false
unfolding resumes
no_sync bs h = rw h refl

-- ---- one more

pub not_below : (a b : ℕ) → nat_lt a b ≡ false → b ≤ a
not_below a b h = grind (arith, nat_tests, h)

choose : (t s : Bool) (a c b d : List (List ℕ)) → (t ≡ false → a ≡ c) → (t ≡ false → b ≡ d) → (if t then [] else (if s then a else b)) ≡ (if t then [] else (if s then c else d))
choose true s a c b d h k = refl
choose false true a c b d h k = h refl
choose false false a c b d h k = k refl

less_behind : (n : ℕ) (bs : List ℕ) → length bs ≤ suc n → 188 ≤ length bs → length (drop 188 bs) ≤ n
less_behind n bs h k = let l = length-drop 188 bs in omega (arith, l)

less_on : (n : ℕ) (bs : List ℕ) → length bs ≤ suc n → 188 ≤ length bs → length (resumed (drop 1 bs)) ≤ n
less_on n bs h k = let l = length-drop 1 bs in let r = resumed-le (drop 1 bs) in omega (arith, l, r)

same : (n m : ℕ) (bs : List ℕ) → length bs ≤ n → length bs ≤ m → framed_in n bs ≡ framed_in m bs
same zero zero bs h k = refl
same zero (suc m) [] h k = refl
same zero (suc m) (b ∷ bs) h k = absurd (grind (arith, h))
same (suc n) zero [] h k = refl
same (suc n) zero (b ∷ bs) h k = absurd (grind (arith, k))
same (suc n) (suc m) bs h k =
    choose (nat_lt (length bs) 188) (begins_with_sync bs) _ _ _ _
    (λ t. let long = not_below (length bs) 188 t in ap (λ l. take 188 bs ∷ l) (same n m (drop 188 bs) (less_behind n bs h long) (less_behind m bs k long)))
    (λ t. let long = not_below (length bs) 188 t in same n m (resumed (drop 1 bs)) (less_on n bs h long) (less_on m bs k long))

up : (n : ℕ) → n ≤ suc n
up n = omega arith

pub unroll : (bs : List ℕ) → framed bs ≡ (if nat_lt (length bs) 188 then [] else (if begins_with_sync bs then take 188 bs ∷ framed (drop 188 bs) else framed (resumed (drop 1 bs))))
unfolding framed
unroll bs =
    same (length bs) (suc (length bs)) bs (le_refl _) (up _)
    ∙ choose (nat_lt (length bs) 188) (begins_with_sync bs) _ _ _ _
    (λ t. let long = not_below (length bs) 188 t in ap (λ l. take 188 bs ∷ l) (same (length bs) (length (drop 188 bs)) (drop 188 bs) (less_behind _ bs (up _) long) (le_refl _)))
    (λ t. let long = not_below (length bs) 188 t in same (length bs) (length (resumed (drop 1 bs))) (resumed (drop 1 bs)) (less_on _ bs (up _) long) (le_refl _))

below : (a b : ℕ) → a < b → nat_lt a b ≡ true
below a b h = grind (arith, nat_tests, h)

above : (a b : ℕ) → b ≤ a → nat_lt a b ≡ false
above a b h = grind (arith, nat_tests, h)

taken : {A : Type 0} (t s : Bool) (a b c : A) → t ≡ true → (if t then a else (if s then b else c)) ≡ a
taken t s a b c h = rw h refl

second : {A : Type 0} (t s : Bool) (a b c : A) → t ≡ false → s ≡ true → (if t then a else (if s then b else c)) ≡ b
second t s a b c h k = rw (h, k) refl

third : {A : Type 0} (t s : Bool) (a b c : A) → t ≡ false → s ≡ false → (if t then a else (if s then b else c)) ≡ c
third t s a b c h k = rw (h, k) refl

-- fewer than 188 bytes
pub framed-short : (bs : List ℕ) → length bs < 188 → framed bs ≡ []
framed-short bs h = unroll bs ∙ taken _ (begins_with_sync bs) [] _ _ (below (length bs) 188 h)

-- where sync is lost
pub framed-lost : (bs : List ℕ) → 188 ≤ length bs → begins_with_sync bs ≡ false → framed bs ≡ framed (resumed (drop 1 bs))
framed-lost bs h k = unroll bs ∙ third _ (begins_with_sync bs) [] _ _ (above (length bs) 188 h) k

sync-front : (p rest : List ℕ) → length p ≡ 188 → begins_with_sync (p ++ rest) ≡ begins_with_sync p
sync-front [] rest h = absurd (grind (arith, h))
sync-front (b ∷ p) rest h = refl

-- where it is not
pub framed-next : (p rest : List ℕ) → length p ≡ 188 → begins_with_sync p ≡ true → framed (p ++ rest) ≡ p ∷ framed rest
framed-next p rest h k =
    let l = length-append p rest in
    let long : 188 ≤ length (p ++ rest) = omega (arith, l, h) in
    unroll (p ++ rest) ∙ second _ (begins_with_sync (p ++ rest)) [] _ _ (above (length (p ++ rest)) 188 long) (sync-front p rest h ∙ k)
    ∙ ap (λ q. q ∷ framed (drop 188 (p ++ rest))) (take-append-le 188 p rest (omega (arith, h)) ∙ take_all 188 p (omega (arith, h)))
    ∙ ap (λ l. p ∷ framed l) (drop_at p rest 188 h)

-- ---- what all of them are

Sized : List ℕ → Type 0
Sized p = length p ≡ 188

sized_if : (P : List ℕ → Type 0) (t s : Bool) (xs ys : List (List ℕ)) → (t ≡ false → s ≡ true → All P xs) → (t ≡ false → All P ys) → All P (if t then [] else (if s then xs else ys))
sized_if P true s xs ys h k = All-nil P
sized_if P false true xs ys h k = h refl refl
sized_if P false false xs ys h k = k refl

all_sized : (n : ℕ) (bs : List ℕ) → All (λ p. length p ≡ 188) (framed_in n bs)
all_sized zero bs = All-nil (λ p. length p ≡ 188)
all_sized (suc n) bs =
    sized_if (λ p. length p ≡ 188) (nat_lt (length bs) 188) (begins_with_sync bs) _ _
    (λ t s. All-cons (λ p. length p ≡ 188) (take 188 bs) _ (length-take-le 188 bs (not_below (length bs) 188 t)) (all_sized n (drop 188 bs)))
    (λ t. all_sized n (resumed (drop 1 bs)))

pub framed-sized : (bs : List ℕ) → All (λ p. length p ≡ 188) (framed bs)
unfolding framed
framed-sized bs = all_sized (length bs) bs

pub sync-take : (bs : List ℕ) → begins_with_sync (take 188 bs) ≡ begins_with_sync bs
sync-take [] = refl
sync-take (b ∷ bs) = refl

all_synced : (n : ℕ) (bs : List ℕ) → All (λ p. begins_with_sync p ≡ true) (framed_in n bs)
all_synced zero bs = All-nil (λ p. begins_with_sync p ≡ true)
all_synced (suc n) bs =
    sized_if (λ p. begins_with_sync p ≡ true) (nat_lt (length bs) 188) (begins_with_sync bs) _ _
    (λ t s. All-cons (λ p. begins_with_sync p ≡ true) (take 188 bs) _ (sync-take bs ∙ s) (all_synced n (drop 188 bs)))
    (λ t. all_synced n (resumed (drop 1 bs)))

pub framed-synced : (bs : List ℕ) → All (λ p. begins_with_sync p ≡ true) (framed bs)
unfolding framed
framed-synced bs = all_synced (length bs) bs

-- ---- how many bytes they take

fits_if : (t s : Bool) (xs ys : List (List ℕ)) (n : ℕ) → (t ≡ false → 188 * length xs ≤ n) → (t ≡ false → 188 * length ys ≤ n) → 188 * length (if t then [] else (if s then xs else ys)) ≤ n
fits_if true s xs ys n h k = omega arith
fits_if false true xs ys n h k = h refl
fits_if false false xs ys n h k = k refl

one_fits : (p : List ℕ) (ps : List (List ℕ)) (n m : ℕ) → 188 * length ps ≤ m → m ≡ n - 188 → 188 ≤ n → 188 * length (p ∷ ps) ≤ n
one_fits p ps n m h e k = grind (arith, h, e, k)

all_fit : (n : ℕ) (bs : List ℕ) → 188 * length (framed_in n bs) ≤ length bs
all_fit zero bs = omega arith
all_fit (suc n) bs =
    fits_if (nat_lt (length bs) 188) (begins_with_sync bs) _ _ (length bs)
    (λ t. one_fits (take 188 bs) (framed_in n (drop 188 bs)) (length bs) (length (drop 188 bs)) (all_fit n (drop 188 bs)) (length-drop 188 bs) (not_below (length bs) 188 t))
    (λ t. let r = all_fit n (resumed (drop 1 bs)) in let s = resumed-le (drop 1 bs) in let l = length-drop 1 bs in omega (arith, r, s, l))

pub framed-fits : (bs : List ℕ) → 188 * length (framed bs) ≤ length bs
unfolding framed
framed-fits bs = all_fit (length bs) bs

pub counted : (bs : List ℕ) → length bs ≡ skipped bs + 188 * length (framed bs)
unfolding skipped
counted bs = let f = framed-fits bs in omega (arith, f)
