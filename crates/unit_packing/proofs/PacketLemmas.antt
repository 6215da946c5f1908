-- What one packet of a unit says.
use Rattle.std.proofs.Common.{◌≡◌, ℕ, zero, suc, ◌+◌, ◌-◌, ◌/◌, ◌%◌, ◌<◌, ◌≤◌, ◌==◌, List, [], ◌∷◌, ◌++◌, Bool, false, refl, sym, ap, ◌∙◌, arith, length, take, drop, replicate, if◌then◌else◌, length-append}
use Rattle.std.proofs.lemmas.List.{take-append-le, append-nil, length-drop, drop-append-le}
use lib.Seq.{take_all}
use borrow.Rule.Slice.PartMut.{put_mid}
use Rattle.std.proofs.Math.ListN.{drop_of_length-le}
use Rattle.ts_packet.proofs.Cases.{by_test}
use Rattle.unit_packing.specs.Packing.{field, header_front, unit_packet}

length-replicate' : (k x : ℕ) → length (replicate k x) ≡ k
length-replicate' zero x = refl
length-replicate' (suc k) x = ap suc (length-replicate' k x)

replicate-append : (j k x : ℕ) → replicate j x ++ replicate k x ≡ replicate (j + k) x
replicate-append zero k x = ap (λ m. replicate m x) {x = k} {y = 0 + k} (omega arith)
replicate-append (suc j) k x = ap (λ l. x ∷ l) (replicate-append j k x) ∙ ap (λ m. replicate m x) {x = suc (j + k)} {y = suc j + k} (omega arith)

pub length-field : (access : Bool) (k : ℕ) → length (field access k) ≡ k
length-field access zero = refl
length-field access (suc k) = ap suc (length-replicate' k 255)

-- the flags and the stuffing, and 0xFF behind them
field_filled : (access : Bool) (k size : ℕ) → k + size ≡ 183 → 0 < k → field access k ++ replicate size 255 ≡ (if access then 64 else 0) ∷ replicate 182 255
field_filled access zero size e h = absurd (omega arith)
field_filled access (suc k) size e h = ap (λ l. (if access then 64 else 0) ∷ l) (replicate-append k size 255 ∙ ap (λ j. replicate j 255) {x = k + size} {y = 182} (omega arith))

pub not_whole : (size : ℕ) → size < 184 → (size == 184) ≡ false
not_whole size h = by_test (size == 184) (λ e. absurd (grind (arith, e))) (λ e. e)

pub front_filled : (pid n size : ℕ) (start access : Bool) → size < 183 → 0 < size
    → 71 ∷ (pid / 256 + (if start then 64 else 0)) ∷ pid % 256 ∷ (48 + n) ∷ (183 - size) ∷ (if access then 64 else 0) ∷ replicate 182 255 ≡ header_front pid n start access size ++ replicate size 255
front_filled pid n size start access h k =
    let e : (size == 184) ≡ false = not_whole size (omega arith) in
    let f : (183 - size) + size ≡ 183 = omega arith in
    let z : 0 < 183 - size = omega arith in
    rw e (ap (λ l. 71 ∷ (pid / 256 + (if start then 64 else 0)) ∷ pid % 256 ∷ (48 + n) ∷ (183 - size) ∷ l) (sym (field_filled access (183 - size) size f z)))

-- the bytes as they are written
pub front_written : (pid number i k n size : ℕ) (start access : Bool) → number ≡ pid → i ≡ (if start then 64 else 0) → k ≡ (if access then 64 else 0) → size ≤ 184 → 0 < size → (size ≡ 184 → ⊥) → (size ≡ 183 → ⊥)
    → 71 ∷ (number / 256 + i) ∷ number % 256 ∷ (48 + n) ∷ (183 - size) ∷ k ∷ replicate 182 255 ≡ header_front pid n start access size ++ replicate size 255
front_written pid number i k n size start access e f g h m u v =
    ap (λ x. 71 ∷ (x / 256 + i) ∷ x % 256 ∷ (48 + n) ∷ (183 - size) ∷ k ∷ replicate 182 255) e
    ∙ ap (λ x. 71 ∷ (pid / 256 + x) ∷ pid % 256 ∷ (48 + n) ∷ (183 - size) ∷ k ∷ replicate 182 255) f
    ∙ ap (λ x. 71 ∷ (pid / 256 + (if start then 64 else 0)) ∷ pid % 256 ∷ (48 + n) ∷ (183 - size) ∷ x ∷ replicate 182 255) g
    ∙ front_filled pid n size start access (omega arith) m

pub length-front : (pid n size : ℕ) (start access : Bool) → size ≤ 184 → length (header_front pid n start access size) + size ≡ 188
length-front pid n size start access h =
    by_test (size == 184)
    (λ e. rw e (grind (arith, e)))
    (λ e. let l = length-field access (183 - size) in let m : size < 184 = grind (arith, e) in rw e (omega (arith, l)))

front_of : (a : ℕ) (xs ys : List ℕ) → a ≡ length xs → take a (xs ++ ys) ≡ xs
front_of a xs ys e = take-append-le a xs ys (omega arith) ∙ take_all a xs (omega arith)

nothing_behind : (k : ℕ) (xs : List ℕ) → length xs ≤ k → drop k xs ≡ []
nothing_behind k xs h = drop_of_length-le xs h

-- a part written at the end of a packet
pub part_written : (pid n : ℕ) (start access : Bool) (h ys part : List ℕ) → h ≡ header_front pid n start access (length part) ++ replicate (length part) 255 → ys ≡ part → length part ≤ 184
    → put_mid (188 - length part) (188 - (188 - length part)) h ys ≡ unit_packet pid n start access part
unfolding unit_packet
part_written pid n start access h ys part e f s =
    let F = header_front pid n start access (length part) in
    let lf : length F + length part ≡ 188 = length-front pid n (length part) start access s in
    let lh : length h ≡ 188 = rw e (length-append F (replicate (length part) 255) ∙ ap (λ k. length F + k) (length-replicate' (length part) 255) ∙ lf) in
    let t : take (188 - length part) h ≡ F = rw e (front_of (188 - length part) F (replicate (length part) 255) (omega arith)) in
    let d : drop (188 - (188 - length part)) (drop (188 - length part) h) ≡ [] =
    nothing_behind (188 - (188 - length part)) (drop (188 - length part) h) (rw (length-drop (188 - length part) h) (omega arith)) in
    rw (t, f, d) (ap (λ l. F ++ l) (append-nil part))

-- a packet that the part fills, as it is written
pub full_written : (pid number n : ℕ) (ys part : List ℕ) → number ≡ pid → number < 8192 → n < 16 → ys ≡ part → length part ≡ 184
    → 71 ∷ (number / 256 % 32) ∷ number % 256 ∷ (16 + n % 16) ∷ (ys ++ []) ≡ unit_packet pid n false false part
unfolding unit_packet
full_written pid number n ys part e h k g l =
    let a : pid / 256 % 32 ≡ pid / 256 + 0 = omega arith in
    let b : n % 16 ≡ n = omega arith in
    rw (l, e, g, append-nil, a, b) refl

-- the part at the end of a packet, and another in its place
module _ (pid n : ℕ) (start access : Bool) (size : ℕ) (raw part : List ℕ) (made : raw ≡ unit_packet pid n start access part) (is_size : size ≡ length part) (few : size ≤ 184) where
  abbrev head : List ℕ
  head = header_front pid n start access (length part)

  head_size : length head ≡ 188 - size
  head_size = let l = length-front pid n (length part) start access (omega (arith, is_size, few)) in omega (arith, l, is_size)

  raw_is : raw ≡ head ++ part
  unfolding unit_packet
  raw_is = made

  behind_head : drop (188 - size) raw ≡ part
  behind_head = ap (drop (188 - size)) raw_is ∙ drop-append-le (188 - size) head part (omega (arith, head_size)) ∙ ap (λ l. l ++ part) (nothing_behind (188 - size) head (omega (arith, head_size)))

  pub part_behind : take (188 - (188 - size)) (drop (188 - size) raw) ≡ part
  part_behind = ap (take (188 - (188 - size))) behind_head ∙ take_all (188 - (188 - size)) part (omega (arith, is_size, few))

  pub part_rewritten : (ys : List ℕ) → length ys ≡ length part → put_mid (188 - size) (188 - (188 - size)) raw ys ≡ unit_packet pid n start access ys
  unfolding unit_packet
  part_rewritten ys e =
      let t : take (188 - size) raw ≡ head = ap (take (188 - size)) raw_is ∙ front_of (188 - size) head part (sym head_size) in
      let d : drop (188 - (188 - size)) (drop (188 - size) raw) ≡ [] = ap (drop (188 - (188 - size))) behind_head ∙ nothing_behind (188 - (188 - size)) part (omega (arith, is_size, few)) in
      rw (t, d, append-nil) (ap (λ k. header_front pid n start access k ++ ys) (sym e))
