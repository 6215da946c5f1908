-- A stamp that is written is read back, alone; a second one in its place takes the first one's; two at two places do not meet.
use Rattle.std.proofs.Common.{◌≡◌, ℕ, ◌+◌, ◌*◌, ◌/◌, ◌%◌, ◌^◌, ◌<◌, ◌≤◌, ◌⊎◌, inl, inr, List, length, get_or, set, refl, sym, ◌∙◌, ap, arith, length-set, get_or-set_other}
use Rattle.std.proofs.lemmas.Grind.{common_steps, same_number_lists}
use Rattle.std.proofs.lemmas.Bool.{cases_order}
use Rattle.pes_time.specs.Stamps.{stamp_at, with_stamp_at}

-- five bytes in a row
five : List ℕ → ℕ → ℕ → ℕ → ℕ → ℕ → ℕ → List ℕ
five b k v0 v1 v2 v3 v4 = set (set (set (set (set b k v0) (k + 1) v1) (k + 2) v2) (k + 3) v3) (k + 4) v4

length-five : (b : List ℕ) (k v0 v1 v2 v3 v4 : ℕ) → length (five b k v0 v1 v2 v3 v4) ≡ length b
unfolding five
length-five b k v0 v1 v2 v3 v4 = simp length-set

five-other : (b : List ℕ) (k v0 v1 v2 v3 v4 j : ℕ) → (j < k) ⊎ (k + 5 ≤ j) → get_or (five b k v0 v1 v2 v3 v4) j 0 ≡ get_or b j 0
unfolding five
five-other b k v0 v1 v2 v3 v4 j (inl below) =
    get_or-set_other _ _ j _ 0 (omega arith) ∙ get_or-set_other _ _ j _ 0 (omega arith) ∙ get_or-set_other _ _ j _ 0 (omega arith) ∙ get_or-set_other _ _ j _ 0 (omega arith) ∙ get_or-set_other b k j v0 0 (omega arith)
five-other b k v0 v1 v2 v3 v4 j (inr above) =
    get_or-set_other _ _ j _ 0 (omega arith) ∙ get_or-set_other _ _ j _ 0 (omega arith) ∙ get_or-set_other _ _ j _ 0 (omega arith) ∙ get_or-set_other _ _ j _ 0 (omega arith) ∙ get_or-set_other b k j v0 0 (omega arith)

record IsFive (b : List ℕ) (k v0 v1 v2 v3 v4 : ℕ) : Type 0 where
  at0 : get_or b k 0 ≡ v0
  at1 : get_or b (k + 1) 0 ≡ v1
  at2 : get_or b (k + 2) 0 ≡ v2
  at3 : get_or b (k + 3) 0 ≡ v3
  at4 : get_or b (k + 4) 0 ≡ v4

is-five : (b : List ℕ) (k v0 v1 v2 v3 v4 : ℕ) → k + 5 ≤ length b → IsFive (five b k v0 v1 v2 v3 v4) k v0 v1 v2 v3 v4
unfolding five
is-five b k v0 v1 v2 v3 v4 room = record {
  at0 = grind (arith, common_steps);
  at1 = grind (arith, common_steps);
  at2 = grind (arith, common_steps);
  at3 = grind (arith, common_steps);
  at4 = grind (arith, common_steps);
}

-- where a place stands towards five in a row
data Place (k j : ℕ) : Type 0 where
  other : (j < k) ⊎ (k + 5 ≤ j) → Place k j
  p0 : j ≡ k → Place k j
  p1 : j ≡ k + 1 → Place k j
  p2 : j ≡ k + 2 → Place k j
  p3 : j ≡ k + 3 → Place k j
  p4 : j ≡ k + 4 → Place k j

place_of : (k j : ℕ) → Place k j
place_of k j = elim (cases_order j k) [
  | inl e ↦ p0 e
  | inr (inl lt) ↦ other (inl lt)
  | inr (inr gt) ↦ elim (cases_order j (k + 1)) [
    | inl e ↦ p1 e
    | inr (inl lt) ↦ absurd (omega arith)
    | inr (inr gt1) ↦ elim (cases_order j (k + 2)) [
      | inl e ↦ p2 e
      | inr (inl lt) ↦ absurd (omega arith)
      | inr (inr gt2) ↦ elim (cases_order j (k + 3)) [
        | inl e ↦ p3 e
        | inr (inl lt) ↦ absurd (omega arith)
        | inr (inr gt3) ↦ elim (cases_order j (k + 4)) [
          | inl e ↦ p4 e
          | inr (inl lt) ↦ absurd (omega arith)
          | inr (inr gt4) ↦ other (inr (omega arith))
        ]
      ]
    ]
  ]
]

-- lists with the same five, and the same elsewhere
same-five : (a b : List ℕ) (k v0 v1 v2 v3 v4 : ℕ) → length a ≡ length b → IsFive a k v0 v1 v2 v3 v4 → IsFive b k v0 v1 v2 v3 v4 → ((j : ℕ) → (j < k) ⊎ (k + 5 ≤ j) → get_or a j 0 ≡ get_or b j 0) → a ≡ b
same-five a b k v0 v1 v2 v3 v4 len fa fb else = same_number_lists a b len at
  where
    at : (j : ℕ) → j < length a → get_or a j 0 ≡ get_or b j 0
    at j within = elim (place_of k j) [
      | other o ↦ else j o
      | p0 e ↦ rw e (fa.at0 ∙ sym fb.at0)
      | p1 e ↦ rw e (fa.at1 ∙ sym fb.at1)
      | p2 e ↦ rw e (fa.at2 ∙ sym fb.at2)
      | p3 e ↦ rw e (fa.at3 ∙ sym fb.at3)
      | p4 e ↦ rw e (fa.at4 ∙ sym fb.at4)
    ]

five-twice : (b : List ℕ) (k v0 v1 v2 v3 v4 u0 u1 u2 u3 u4 : ℕ) → k + 5 ≤ length b → five (five b k v0 v1 v2 v3 v4) k u0 u1 u2 u3 u4 ≡ five b k u0 u1 u2 u3 u4
five-twice b k v0 v1 v2 v3 v4 u0 u1 u2 u3 u4 room =
    let len : length (five b k v0 v1 v2 v3 v4) ≡ length b = length-five b k v0 v1 v2 v3 v4 in
    same-five _ _ k u0 u1 u2 u3 u4
    (length-five _ k u0 u1 u2 u3 u4 ∙ len ∙ sym (length-five b k u0 u1 u2 u3 u4))
    (is-five _ k u0 u1 u2 u3 u4 (omega arith))
    (is-five b k u0 u1 u2 u3 u4 room)
    (λ j o. five-other _ k u0 u1 u2 u3 u4 j o ∙ five-other b k v0 v1 v2 v3 v4 j o ∙ sym (five-other b k u0 u1 u2 u3 u4 j o))

-- five written behind are kept by five written before
kept-five : (b : List ℕ) (k l v0 v1 v2 v3 v4 u0 u1 u2 u3 u4 : ℕ) → k + 5 ≤ l → l + 5 ≤ length b → IsFive (five (five b l u0 u1 u2 u3 u4) k v0 v1 v2 v3 v4) l u0 u1 u2 u3 u4
kept-five b k l v0 v1 v2 v3 v4 u0 u1 u2 u3 u4 apart room =
    let f = is-five b l u0 u1 u2 u3 u4 room in
    record {
      at0 = five-other _ k v0 v1 v2 v3 v4 _ (inr (omega arith)) ∙ f.at0;
      at1 = five-other _ k v0 v1 v2 v3 v4 _ (inr (omega arith)) ∙ f.at1;
      at2 = five-other _ k v0 v1 v2 v3 v4 _ (inr (omega arith)) ∙ f.at2;
      at3 = five-other _ k v0 v1 v2 v3 v4 _ (inr (omega arith)) ∙ f.at3;
      at4 = five-other _ k v0 v1 v2 v3 v4 _ (inr (omega arith)) ∙ f.at4;
    }

five-apart : (b : List ℕ) (k l v0 v1 v2 v3 v4 u0 u1 u2 u3 u4 : ℕ) → k + 5 ≤ l → l + 5 ≤ length b → five (five b k v0 v1 v2 v3 v4) l u0 u1 u2 u3 u4 ≡ five (five b l u0 u1 u2 u3 u4) k v0 v1 v2 v3 v4
five-apart b k l v0 v1 v2 v3 v4 u0 u1 u2 u3 u4 apart room =
    let len_k : length (five b k v0 v1 v2 v3 v4) ≡ length b = length-five b k v0 v1 v2 v3 v4 in
    let len_l : length (five b l u0 u1 u2 u3 u4) ≡ length b = length-five b l u0 u1 u2 u3 u4 in
    same-five _ _ l u0 u1 u2 u3 u4
    (length-five _ l u0 u1 u2 u3 u4 ∙ len_k ∙ sym (length-five _ k v0 v1 v2 v3 v4 ∙ len_l))
    (is-five _ l u0 u1 u2 u3 u4 (omega arith))
    (kept-five b k l v0 v1 v2 v3 v4 u0 u1 u2 u3 u4 apart room)
    else
  where
    else : (j : ℕ) → (j < l) ⊎ (l + 5 ≤ j) → get_or (five (five b k v0 v1 v2 v3 v4) l u0 u1 u2 u3 u4) j 0 ≡ get_or (five (five b l u0 u1 u2 u3 u4) k v0 v1 v2 v3 v4) j 0
    else j o =
        let len_l : length (five b l u0 u1 u2 u3 u4) ≡ length b = length-five b l u0 u1 u2 u3 u4 in
        let f = is-five b k v0 v1 v2 v3 v4 (omega arith) in
        let g = is-five (five b l u0 u1 u2 u3 u4) k v0 v1 v2 v3 v4 (omega arith) in
        five-other _ l u0 u1 u2 u3 u4 j o ∙ elim (place_of k j) [
          | other p ↦ five-other b k v0 v1 v2 v3 v4 j p ∙ sym (five-other _ k v0 v1 v2 v3 v4 j p ∙ five-other b l u0 u1 u2 u3 u4 j o)
          | p0 e ↦ rw e (f.at0 ∙ sym g.at0)
          | p1 e ↦ rw e (f.at1 ∙ sym g.at1)
          | p2 e ↦ rw e (f.at2 ∙ sym g.at2)
          | p3 e ↦ rw e (f.at3 ∙ sym g.at3)
          | p4 e ↦ rw e (f.at4 ∙ sym g.at4)
        ]

-- a stamp is five bytes
is_five : (b : List ℕ) (k t : ℕ) → with_stamp_at b k t ≡ five b k (get_or b k 0 / 16 * 16 + t / 2 ^ 30 * 2 + get_or b k 0 % 2) (t / 2 ^ 22 % 256) (t / 2 ^ 15 % 128 * 2 + get_or b (k + 2) 0 % 2) (t / 2 ^ 7 % 256) (t % 128 * 2 + get_or b (k + 4) 0 % 2)
unfolding with_stamp_at five
is_five b k t = refl

pub length-with_stamp_at : (b : List ℕ) (k t : ℕ) → length (with_stamp_at b k t) ≡ length b
length-with_stamp_at b k t = rw (is_five b k t) (length-five b k _ _ _ _ _)

pub with_stamp_at-other : (b : List ℕ) (k t j : ℕ) → (j < k) ⊎ (k + 5 ≤ j) → get_or (with_stamp_at b k t) j 0 ≡ get_or b j 0
with_stamp_at-other b k t j o = rw (is_five b k t) (five-other b k _ _ _ _ _ j o)

top : (x h : ℕ) → h < 8 → (x / 16 * 16 + h * 2 + x % 2) / 2 % 8 ≡ h
top x h below = omega arith

middle : (x m : ℕ) → (m * 2 + x % 2) / 2 ≡ m
middle x m = omega arith

parts : (t : ℕ) → t / 2 ^ 30 * 2 ^ 30 + t / 2 ^ 22 % 256 % 256 * 2 ^ 22 + t / 2 ^ 15 % 128 % 128 * 2 ^ 15 + t / 2 ^ 7 % 256 % 256 * 2 ^ 7 + t % 128 % 128 ≡ t
parts t = omega arith

-- what is written is read
pub stamp_at-with_stamp_at : (b : List ℕ) (k t : ℕ) → t < 2 ^ 33 → k + 5 ≤ length b → stamp_at (with_stamp_at b k t) k ≡ t
stamp_at-with_stamp_at b k t below room =
    let f = is-five b k (get_or b k 0 / 16 * 16 + t / 2 ^ 30 * 2 + get_or b k 0 % 2) (t / 2 ^ 22 % 256) (t / 2 ^ 15 % 128 * 2 + get_or b (k + 2) 0 % 2) (t / 2 ^ 7 % 256) (t % 128 * 2 + get_or b (k + 4) 0 % 2) room in
    let high : t / 2 ^ 30 < 8 = omega arith in
    rw (is_five b k t, f.at0, f.at1, f.at2, f.at3, f.at4, top (get_or b k 0) (t / 2 ^ 30) high, middle (get_or b (k + 2) 0) (t / 2 ^ 15 % 128), middle (get_or b (k + 4) 0) (t % 128)) (parts t)

-- a stamp elsewhere is read as before
pub stamp_at-elsewhere : (b : List ℕ) (k t l : ℕ) → (l + 5 ≤ k) ⊎ (k + 5 ≤ l) → stamp_at (with_stamp_at b k t) l ≡ stamp_at b l
stamp_at-elsewhere b k t l (inl before) =
    rw (with_stamp_at-other b k t l (inl (omega arith)), with_stamp_at-other b k t (l + 1) (inl (omega arith)), with_stamp_at-other b k t (l + 2) (inl (omega arith)), with_stamp_at-other b k t (l + 3) (inl (omega arith)), with_stamp_at-other b k t (l + 4) (inl (omega arith)))
stamp_at-elsewhere b k t l (inr behind) =
    rw (with_stamp_at-other b k t l (inr (omega arith)), with_stamp_at-other b k t (l + 1) (inr (omega arith)), with_stamp_at-other b k t (l + 2) (inr (omega arith)), with_stamp_at-other b k t (l + 3) (inr (omega arith)), with_stamp_at-other b k t (l + 4) (inr (omega arith)))

five-same : (b : List ℕ) (k v0 v1 v2 v3 v4 u0 u2 u4 : ℕ) → v0 ≡ u0 → v2 ≡ u2 → v4 ≡ u4 → five b k v0 v1 v2 v3 v4 ≡ five b k u0 v1 u2 v3 u4
five-same b k v0 v1 v2 v3 v4 u0 u2 u4 p q r = cc

five-on : (a b : List ℕ) (k v0 v1 v2 v3 v4 : ℕ) → a ≡ b → five a k v0 v1 v2 v3 v4 ≡ five b k v0 v1 v2 v3 v4
five-on a b k v0 v1 v2 v3 v4 e = ap (λ l. five l k v0 v1 v2 v3 v4) e

-- a second stamp in the place of the first
pub with_stamp_at-twice : (b : List ℕ) (k t u : ℕ) → t < 2 ^ 33 → k + 5 ≤ length b → with_stamp_at (with_stamp_at b k t) k u ≡ with_stamp_at b k u
with_stamp_at-twice b k t u below room =
    let w = with_stamp_at b k t in
    let f = is-five b k (get_or b k 0 / 16 * 16 + t / 2 ^ 30 * 2 + get_or b k 0 % 2) (t / 2 ^ 22 % 256) (t / 2 ^ 15 % 128 * 2 + get_or b (k + 2) 0 % 2) (t / 2 ^ 7 % 256) (t % 128 * 2 + get_or b (k + 4) 0 % 2) room in
    let high : t / 2 ^ 30 < 8 = omega arith in
    let x0 : get_or w k 0 ≡ get_or b k 0 / 16 * 16 + t / 2 ^ 30 * 2 + get_or b k 0 % 2 = rw (is_five b k t) f.at0 in
    let x2 : get_or w (k + 2) 0 ≡ t / 2 ^ 15 % 128 * 2 + get_or b (k + 2) 0 % 2 = rw (is_five b k t) f.at2 in
    let x4 : get_or w (k + 4) 0 ≡ t % 128 * 2 + get_or b (k + 4) 0 % 2 = rw (is_five b k t) f.at4 in
    is_five w k u
    ∙ five-same w k _ _ _ _ _ _ _ _ (outer (get_or b k 0) (t / 2 ^ 30) (u / 2 ^ 30) _ high x0) (lower (get_or b (k + 2) 0) (t / 2 ^ 15 % 128) (u / 2 ^ 15 % 128) _ x2) (lower (get_or b (k + 4) 0) (t % 128) (u % 128) _ x4)
    ∙ five-on _ _ k _ _ _ _ _ (is_five b k t)
    ∙ five-twice b k _ _ _ _ _ _ _ _ _ _ room
    ∙ sym (is_five b k u)
  where
    outer : (x h g y : ℕ) → h < 8 → y ≡ x / 16 * 16 + h * 2 + x % 2 → y / 16 * 16 + g * 2 + y % 2 ≡ x / 16 * 16 + g * 2 + x % 2
    outer x h g y below e = omega arith

    lower : (x m n y : ℕ) → y ≡ m * 2 + x % 2 → n * 2 + y % 2 ≡ n * 2 + x % 2
    lower x m n y e = omega arith

-- stamps at two places, in either order
pub with_stamp_at-apart : (b : List ℕ) (k l t u : ℕ) → k + 5 ≤ l → l + 5 ≤ length b → with_stamp_at (with_stamp_at b k t) l u ≡ with_stamp_at (with_stamp_at b l u) k t
with_stamp_at-apart b k l t u apart room =
    let w = with_stamp_at b k t in
    let v = with_stamp_at b l u in
    is_five w l u
    ∙ five-same w l _ _ _ _ _ _ _ _ (ap (λ x. x / 16 * 16 + u / 2 ^ 30 * 2 + x % 2) (with_stamp_at-other b k t l (inr (omega arith)))) (ap (λ x. u / 2 ^ 15 % 128 * 2 + x % 2) (with_stamp_at-other b k t (l + 2) (inr (omega arith)))) (ap (λ x. u % 128 * 2 + x % 2) (with_stamp_at-other b k t (l + 4) (inr (omega arith))))
    ∙ five-on _ _ l _ _ _ _ _ (is_five b k t)
    ∙ five-apart b k l _ _ _ _ _ _ _ _ _ _ apart room
    ∙ sym (
    is_five v k t
    ∙ five-same v k _ _ _ _ _ _ _ _ (ap (λ x. x / 16 * 16 + t / 2 ^ 30 * 2 + x % 2) (with_stamp_at-other b l u k (inl (omega arith)))) (ap (λ x. t / 2 ^ 15 % 128 * 2 + x % 2) (with_stamp_at-other b l u (k + 2) (inl (omega arith)))) (ap (λ x. t % 128 * 2 + x % 2) (with_stamp_at-other b l u (k + 4) (inl (omega arith))))
    ∙ five-on _ _ k _ _ _ _ _ (is_five b l u)
    )
