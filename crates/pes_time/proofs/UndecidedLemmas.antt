-- A split payload goes on in two ways that are read differently: with the rest of a header whose stamps end in 0, or in 1.
use Rattle.std.proofs.Common.{◌≡◌, ◌≢◌, ℕ, ◌+◌, ◌-◌, ◌*◌, ◌/◌, ◌<◌, ◌≤◌, ◌==◌, inl, inr, Bool, true, false, not, ◌||◌, nat_lt, List, [], ◌∷◌, length, get_or, drop, ◌++◌, refl, sym, ◌∙◌, ap, arith, length-append, length-drop}
use Rattle.std.proofs.lemmas.Bool.{cases_order, or_from, or_parts}
use Rattle.std.proofs.lemmas.Bool.Decides.{nat_tests}
use Rattle.std.proofs.lemmas.List.{get_or-drop}
use Rattle.std.proofs.Math.Bool.{and-false}
use Rattle.std.proofs.Math.ListN.{get_or-append}
use Rattle.std.proofs.Math.Seq.{get_or-append_right}
use Rattle.pes_time.specs.Stamps.{shows, is_headless, is_untimed, is_split, stamp_count, stamp_at, head_of, Undecided}
use Rattle.pes_time.proofs.ReadLemmas.{read-single, read-double}

-- a whole header with room for both stamps
abbrev pattern : ℕ → List ℕ
pattern x = 0 ∷ 0 ∷ 1 ∷ 0xE0 ∷ 0 ∷ 0 ∷ 0x80 ∷ 0x80 ∷ 10 ∷ 0 ∷ 0 ∷ 0 ∷ 0 ∷ x ∷ 0 ∷ 0 ∷ 0 ∷ 0 ∷ x ∷ []

abbrev filled : List ℕ → ℕ → List ℕ
filled a x = a ++ drop (length a) (pattern x)

filled-own : (a : List ℕ) (x j : ℕ) → j < length a → get_or (filled a x) j 0 ≡ get_or a j 0
filled-own a x j within = get_or-append a (drop (length a) (pattern x)) 0 j within

filled-rest : (a : List ℕ) (x j : ℕ) → length a ≤ j → get_or (filled a x) j 0 ≡ get_or (pattern x) j 0
filled-rest a x j past =
    get_or-append_right a (drop (length a) (pattern x)) j 0 past
    ∙ get_or-drop (length a) (pattern x) (j - length a) 0
    ∙ ap (λ n. get_or (pattern x) n 0) (let e : length a + (j - length a) ≡ j = omega arith in e)

length-filled : (a : List ℕ) (x : ℕ) → length a ≤ 19 → length (filled a x) ≡ 19
length-filled a x short = simp (length-append, length-drop) (omega arith)

-- two fillings differ where the patterns do
filled-same : (a : List ℕ) (j : ℕ) → get_or (pattern 0) j 0 ≡ get_or (pattern 2) j 0 → get_or (filled a 0) j 0 ≡ get_or (filled a 2) j 0
filled-same a j e = elim (cases_order j (length a)) [
  | inl same ↦ filled-rest a 0 j (omega arith) ∙ e ∙ sym (filled-rest a 2 j (omega arith))
  | inr (inl before) ↦ filled-own a 0 j before ∙ sym (filled-own a 2 j before)
  | inr (inr past) ↦ filled-rest a 0 j (omega arith) ∙ e ∙ sym (filled-rest a 2 j (omega arith))
]

-- no byte tells that there is no stamp
record Silent (a : List ℕ) : Type 0 where
  s0 : shows a 0 (λ b. not (b == 0)) ≡ false
  s1 : shows a 1 (λ b. not (b == 0)) ≡ false
  s2 : shows a 2 (λ b. not (b == 1)) ≡ false
  s3 : shows a 3 is_headless ≡ false
  s6 : shows a 6 (λ b. not (b / 64 == 2)) ≡ false
  s7 : shows a 7 (λ b. nat_lt (b / 64) 2) ≡ false
  s8 : shows a 8 (λ b. nat_lt b (5 * stamp_count a)) ≡ false

silent : (a : List ℕ) → is_untimed a ≡ false → Silent a
unfolding is_untimed
silent a h =
    let t0 = shows a 0 (λ b. not (b == 0)) in
    let t1 = shows a 1 (λ b. not (b == 0)) in
    let t2 = shows a 2 (λ b. not (b == 1)) in
    let t3 = shows a 3 is_headless in
    let t6 = shows a 6 (λ b. not (b / 64 == 2)) in
    let t7 = shows a 7 (λ b. nat_lt (b / 64) 2) in
    let t8 = shows a 8 (λ b. nat_lt b (5 * stamp_count a)) in
    let h7 = (or_parts (t0 || t1 || t2 || t3 || t6 || t7) t8 h).0 in
    let h6 = (or_parts (t0 || t1 || t2 || t3 || t6) t7 h7).0 in
    let h3 = (or_parts (t0 || t1 || t2 || t3) t6 h6).0 in
    let h2 = (or_parts (t0 || t1 || t2) t3 h3).0 in
    let h1 = (or_parts (t0 || t1) t2 h2).0 in
    record {
      s0 = (or_parts t0 t1 h1).0;
      s1 = (or_parts t0 t1 h1).1;
      s2 = (or_parts (t0 || t1) t2 h2).1;
      s3 = (or_parts (t0 || t1 || t2) t3 h3).1;
      s6 = (or_parts (t0 || t1 || t2 || t3) t6 h6).1;
      s7 = (or_parts (t0 || t1 || t2 || t3 || t6) t7 h7).1;
      s8 = (or_parts (t0 || t1 || t2 || t3 || t6 || t7) t8 h).1;
    }

silent-untimed : (a : List ℕ) → Silent a → is_untimed a ≡ false
unfolding is_untimed
silent-untimed a s = or_from _ _ (or_from _ _ (or_from _ _ (or_from _ _ (or_from _ _ (or_from _ _ s.s0 s.s1) s.s2) s.s3) s.s6) s.s7) s.s8

hides : (a : List ℕ) (k : ℕ) (test : ℕ → Bool) → test (get_or a k 0) ≡ false → shows a k test ≡ false
hides a k test e = rw e (and-false (nat_lt k (length a)))

passes-not : (a : List ℕ) (k : ℕ) (test : ℕ → Bool) → k < length a → shows a k test ≡ false → test (get_or a k 0) ≡ false
passes-not a k test within h =
    let there : nat_lt k (length a) ≡ true = grind (arith, nat_tests) in
    rw there at h

-- a silent byte and a silent pattern make a silent filling
filled-hides : (a : List ℕ) (x k : ℕ) (test : ℕ → Bool) → shows a k test ≡ false → test (get_or (pattern x) k 0) ≡ false → shows (filled a x) k test ≡ false
filled-hides a x k test own rest = elim (cases_order k (length a)) [
  | inl same ↦ hides (filled a x) k test (ap test (filled-rest a x k (omega arith)) ∙ rest)
  | inr (inl before) ↦ hides (filled a x) k test (ap test (filled-own a x k before) ∙ passes-not a k test before own)
  | inr (inr past) ↦ hides (filled a x) k test (ap test (filled-rest a x k (omega arith)) ∙ rest)
]

-- bytes announce two stamps at most
count-filled : (a : List ℕ) (x : ℕ) → get_or a 7 0 < 256 → stamp_count (filled a x) ≤ 2
count-filled a x byte = elim (cases_order 7 (length a)) [
  | inl same ↦ (let e = filled-rest a x 7 (omega arith) in omega (arith, e))
  | inr (inl before) ↦ (let e = filled-own a x 7 before in omega (arith, e))
  | inr (inr past) ↦ (let e = filled-rest a x 7 (omega arith) in omega (arith, e))
]

count-own : (a : List ℕ) (x : ℕ) → 7 < length a → stamp_count (filled a x) ≡ stamp_count a
count-own a x within = ap (λ b. b / 64 - 1) (filled-own a x 7 within)

ten : (n : ℕ) → n ≤ 2 → nat_lt 10 (5 * n) ≡ false
ten n few = grind (arith, nat_tests)

room-filled : (a : List ℕ) (x : ℕ) → get_or a 7 0 < 256 → Silent a → shows (filled a x) 8 (λ b. nat_lt b (5 * stamp_count (filled a x))) ≡ false
room-filled a x byte s = elim (cases_order 8 (length a)) [
  | inl same ↦ at_end (omega arith)
  | inr (inl before) ↦ hides (filled a x) 8 test
      (ap test (filled-own a x 8 before)
      ∙ ap (λ n. nat_lt (get_or a 8 0) (5 * n)) (count-own a x (omega arith))
      ∙ passes-not a 8 (λ b. nat_lt b (5 * stamp_count a)) before s.s8)
  | inr (inr past) ↦ at_end (omega arith)
]
  where
    test : ℕ → Bool
    test = λ b. nat_lt b (5 * stamp_count (filled a x))

    at_end : length a ≤ 8 → shows (filled a x) 8 test ≡ false
    at_end past = hides (filled a x) 8 test (ap test (filled-rest a x 8 past) ∙ ten (stamp_count (filled a x)) (count-filled a x byte))

filled-untimed : (a : List ℕ) (x : ℕ) → get_or a 7 0 < 256 → Silent a → is_untimed (filled a x) ≡ false
filled-untimed a x byte s = silent-untimed (filled a x) record {
  s0 = filled-hides a x 0 (λ b. not (b == 0)) s.s0 refl;
  s1 = filled-hides a x 1 (λ b. not (b == 0)) s.s1 refl;
  s2 = filled-hides a x 2 (λ b. not (b == 1)) s.s2 refl;
  s3 = filled-hides a x 3 is_headless s.s3 refl;
  s6 = filled-hides a x 6 (λ b. not (b / 64 == 2)) s.s6 refl;
  s7 = filled-hides a x 7 (λ b. nat_lt (b / 64) 2) s.s7 refl;
  s8 = room-filled a x byte s;
}

filled-whole : (a : List ℕ) (x : ℕ) → get_or a 7 0 < 256 → length a ≤ 19 → is_untimed (filled a x) ≡ false → is_split (filled a x) ≡ false
unfolding is_split
filled-whole a x byte short u =
    let size = length-filled a x short in
    let few = count-filled a x byte in
    rw u (grind (arith, nat_tests))

-- what a split payload is
split_untimed : (a : List ℕ) → is_split a ≡ true → is_untimed a ≡ false
unfolding is_split
split_untimed a h = by_cases (is_untimed a) refl
  where
    by_cases : (u : Bool) → is_untimed a ≡ u → is_untimed a ≡ false
    by_cases false e = e
    by_cases true e = absurd (let h' : false ≡ true = rw e at h in cc)

split_ends : (a : List ℕ) → is_split a ≡ true → length a < 9 + 5 * stamp_count a
unfolding is_split
split_ends a h =
    let u = split_untimed a h in
    let short : nat_lt (length a) (9 + 5 * stamp_count a) ≡ true = rw u at h in
    grind (arith, nat_tests)

pts-differ : (a : List ℕ) → length a ≤ 13 → stamp_at (filled a 0) 9 ≢ stamp_at (filled a 2) 9
pts-differ a short e =
    let e0 = filled-same a 9 refl in
    let e1 = filled-same a 10 refl in
    let e2 = filled-same a 11 refl in
    let e3 = filled-same a 12 refl in
    let zero' : get_or (filled a 0) 13 0 ≡ 0 = filled-rest a 0 13 short in
    let two' : get_or (filled a 2) 13 0 ≡ 2 = filled-rest a 2 13 short in
    omega (arith, e0, e1, e2, e3, zero', two')

dts-differ : (a : List ℕ) → length a ≤ 18 → stamp_at (filled a 0) 14 ≢ stamp_at (filled a 2) 14
dts-differ a short e =
    let e0 = filled-same a 14 refl in
    let e1 = filled-same a 15 refl in
    let e2 = filled-same a 16 refl in
    let e3 = filled-same a 17 refl in
    let zero' : get_or (filled a 0) 18 0 ≡ 0 = filled-rest a 0 18 short in
    let two' : get_or (filled a 2) 18 0 ≡ 2 = filled-rest a 2 18 short in
    omega (arith, e0, e1, e2, e3, zero', two')

pub split_is_undecided : (a : List ℕ) → get_or a 7 0 < 256 → is_split a ≡ true → Undecided a
split_is_undecided a byte h = record {
  one = drop (length a) (pattern 0);
  other = drop (length a) (pattern 2);
  one_whole = whole 0;
  other_whole = whole 2;
  differ = differ;
}
  where
    u : is_untimed a ≡ false
    u = split_untimed a h

    ends : length a < 9 + 5 * stamp_count a
    ends = split_ends a h

    short : length a ≤ 18
    short = let few : stamp_count a ≤ 2 = omega arith in let e : length a < 9 + 5 * stamp_count a = ends in omega arith

    untimed : (x : ℕ) → is_untimed (filled a x) ≡ false
    untimed x = filled-untimed a x byte (silent a u)

    whole : (x : ℕ) → is_split (filled a x) ≡ false
    whole x = filled-whole a x byte (let e : length a ≤ 18 = short in omega arith) (untimed x)

    counts : stamp_count (filled a 0) ≡ stamp_count (filled a 2)
    counts = ap (λ b. b / 64 - 1) (filled-same a 7 refl)

    by_count : (both : Bool) → (stamp_count (filled a 0) == 2) ≡ both → head_of (filled a 0) ≢ head_of (filled a 2)
    by_count true c e =
        let one = (read-double (filled a 0) (untimed 0) (whole 0) c).0 in
        let other = (read-double (filled a 2) (untimed 2) (whole 2) (ap (λ n. n == 2) (sym counts) ∙ c)).0 in
        dts-differ a short (cc)
    by_count false c e =
        let one = (read-single (filled a 0) (untimed 0) (whole 0) c).0 in
        let other = (read-single (filled a 2) (untimed 2) (whole 2) (ap (λ n. n == 2) (sym counts) ∙ c)).0 in
        pts-differ a (before_pts c) (cc)
      where
        before_pts : (stamp_count (filled a 0) == 2) ≡ false → length a ≤ 13
        before_pts c = elim (cases_order (length a) 13) [
          | inl same ↦ omega arith
          | inr (inl before) ↦ omega arith
          | inr (inr past) ↦ (
              let own : stamp_count (filled a 0) ≡ stamp_count a = count-own a 0 (omega arith) in
              let few : stamp_count (filled a 0) ≤ 2 = count-filled a 0 byte in
              let e : length a < 9 + 5 * stamp_count a = ends in
              absurd (grind (arith, nat_tests)))
        ]

    differ : head_of (filled a 0) ≢ head_of (filled a 2)
    differ = by_count (stamp_count (filled a 0) == 2) refl
