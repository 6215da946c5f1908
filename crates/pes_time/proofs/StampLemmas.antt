-- What a payload without a sign of being untimed tells.
use Rattle.std.proofs.Common.{◌≡◌, ℕ, ◌+◌, ◌-◌, ◌*◌, ◌/◌, ◌^◌, ◌<◌, ◌≤◌, Bool, true, false, not, ◌||◌, List, length, get_or, refl, arith, nat_lt, ◌==◌, ◌≢◌, ◌∙◌, ap, lit<, ◌++◌, length-append, Option, None, Some, Ok, Err}
use Rattle.std.specs.Prelude.{IfSome}
use Rattle.std.proofs.lemmas.Grind.{common_steps}
use Rattle.std.proofs.lemmas.Bool.Decides.{nat_tests}
use Rattle.std.proofs.Math.ListN.{get_or-append}
use Rattle.std.proofs.lemmas.Bool.{or_parts}
use Rattle.std.proofs.Math.Bool.{or-true}
use Rattle.pes_time.specs.Stamps.{shows, is_headless, other_start_code, stamp_count, stamp_at, is_untimed, is_split, head_of, stamp_of}
use Rattle.pes_time.specs.declared.head.PesHead.TheVariants.{Timed, Untimed}

-- the flags of a payload that is not untimed announce a stamp
pub announces : (payload : List ℕ) → is_untimed payload ≡ false → 8 ≤ length payload → 2 ≤ get_or payload 7 0 / 64
unfolding is_untimed
announces payload h long =
    let flags : shows payload 7 (λ b. nat_lt (b / 64) 2) ≡ false =
    (or_parts (other_start_code payload || shows payload 3 is_headless || shows payload 6 (λ b. not (b / 64 == 2))) _ ((or_parts _ (shows payload 8 (λ b. nat_lt b (5 * stamp_count payload))) h).0)).1 in
    grind (arith, common_steps, nat_tests)

-- before byte 14 no stamp is whole
pub split_short : (payload : List ℕ) → is_untimed payload ≡ false → length payload < 14 → is_split payload ≡ true
unfolding is_split
split_short payload h short = grind (arith, common_steps, nat_tests, announces)

-- with two stamps announced, neither is before byte 19
pub split_before_dts : (payload : List ℕ) → is_untimed payload ≡ false → length payload < 19 → get_or payload 7 0 / 64 ≡ 3 → is_split payload ≡ true
unfolding is_split
split_before_dts payload h short flags = rw (h, flags) (grind (arith, nat_tests))

-- flags of two bits that are not 10 are 11
pub both : (payload : List ℕ) → is_untimed payload ≡ false → 14 ≤ length payload → get_or payload 7 0 < 256 → get_or payload 7 0 / 64 ≢ 2 → get_or payload 7 0 / 64 ≡ 3
both payload h long byte other = let two : 2 ≤ get_or payload 7 0 / 64 = announces payload h (omega arith) in omega arith

-- a whole header of two stamps
pub whole_both : (payload : List ℕ) → is_untimed payload ≡ false → 19 ≤ length payload → get_or payload 7 0 / 64 ≡ 3 → is_split payload ≡ false
unfolding is_split
whole_both payload h long flags = rw (h, flags) (grind (arith, nat_tests))

-- the four answers, each with what is known there
pub data HeadCase (payload : List ℕ) : Type 0 where
  untimed : is_untimed payload ≡ true → head_of payload ≡ Ok Untimed → stamp_of payload ≡ None → is_split payload ≡ false → HeadCase payload
  split : is_split payload ≡ true → head_of payload ≡ Err (record {}) → stamp_of payload ≡ None → HeadCase payload
  single : is_untimed payload ≡ false → is_split payload ≡ false → 14 ≤ length payload → (stamp_count payload == 2) ≡ false → head_of payload ≡ Ok (Timed (stamp_at payload 9) None 9 None) → stamp_of payload ≡ Some (stamp_at payload 9) → HeadCase payload
  double : is_untimed payload ≡ false → is_split payload ≡ false → 19 ≤ length payload → (stamp_count payload == 2) ≡ true → head_of payload ≡ Ok (Timed (stamp_at payload 9) (Some (stamp_at payload 14)) 9 (Some 14)) → stamp_of payload ≡ Some (stamp_at payload 9) → HeadCase payload

untimed_not_split : (payload : List ℕ) → is_untimed payload ≡ true → is_split payload ≡ false
unfolding is_split
untimed_not_split payload h = rw h

whole_long : (payload : List ℕ) → is_untimed payload ≡ false → is_split payload ≡ false → 9 + 5 * stamp_count payload ≤ length payload
unfolding is_split
whole_long payload h w = let short : nat_lt (length payload) (9 + 5 * stamp_count payload) ≡ false = rw h at w in grind (arith, nat_tests)

pub head_case : (payload : List ℕ) → HeadCase payload
unfolding head_of stamp_of
head_case payload = by_untimed (is_untimed payload) refl
  where
    by_count : (double? : Bool) → is_untimed payload ≡ false → is_split payload ≡ false → (stamp_count payload == 2) ≡ double? → HeadCase payload
    by_count true u s e = double u s (let long : 9 + 5 * stamp_count payload ≤ length payload = whole_long payload u s in grind (arith, nat_tests)) e (rw (u, s, e)) (rw (u, s))
    by_count false u s e = single u s (let long : 9 + 5 * stamp_count payload ≤ length payload = whole_long payload u s in let front : 8 ≤ length payload = omega arith in let some : 2 ≤ get_or payload 7 0 / 64 = announces payload u front in omega arith) e (rw (u, s, e)) (rw (u, s))

    by_split : (split? : Bool) → is_untimed payload ≡ false → is_split payload ≡ split? → HeadCase payload
    by_split true u s = split s (rw (u, s)) (rw (u, s))
    by_split false u s = by_count (stamp_count payload == 2) u s refl

    by_untimed : (untimed? : Bool) → is_untimed payload ≡ untimed? → HeadCase payload
    by_untimed true u = untimed u (rw u) (rw u) (untimed_not_split payload u)
    by_untimed false u = by_split (is_split payload) u refl

-- the PTS of a head that was read stands in the bytes
pub pts_fits : (bytes : List ℕ) (pts : ℕ) (dts : Option ℕ) (pts_at : ℕ) (dts_at : Option ℕ) → head_of bytes ≡ Ok (Timed pts dts pts_at dts_at) → pts_at + 5 ≤ length bytes
pts_fits bytes pts dts pts_at dts_at h = elim (head_case bytes) [
  | untimed u e p s ↦ absurd (cc)
  | split s e p ↦ absurd (cc)
  | single u s long c e p ↦ (let at : pts_at ≡ 9 = cc in omega arith)
  | double u s long c e p ↦ (let at : pts_at ≡ 9 = cc in omega arith)
]

-- and so does the DTS
pub dts_fits : (bytes : List ℕ) (pts : ℕ) (dts : Option ℕ) (pts_at k : ℕ) → head_of bytes ≡ Ok (Timed pts dts pts_at (Some k)) → k + 5 ≤ length bytes
dts_fits bytes pts dts pts_at k h = elim (head_case bytes) [
  | untimed u e p s ↦ absurd (cc)
  | split s e p ↦ absurd (cc)
  | single u s long c e p ↦ absurd (cc)
  | double u s long c e p ↦ (let at : k ≡ 14 = cc in omega arith)
]

-- the sign of a byte that both payloads have
shows-same : (a b : List ℕ) (k : ℕ) (test : ℕ → Bool) → k < length a → k < length b → get_or b k 0 ≡ get_or a k 0 → shows b k test ≡ shows a k test
shows-same a b k test in_a in_b e = rw e (grind (arith, common_steps, nat_tests))

or-same : (a a' b b' : Bool) → a ≡ a' → b ≡ b' → (a || b) ≡ (a' || b')
or-same a a' b b' p q = cc

-- payloads of the same nine bytes
pub record SameFront (a b : List ℕ) : Type 0 where
  pub long_a : 9 ≤ length a
  pub long_b : 9 ≤ length b
  pub bytes : (j : ℕ) → j < 9 → get_or b j 0 ≡ get_or a j 0

pub stamp_count-same : (a b : List ℕ) → SameFront a b → stamp_count b ≡ stamp_count a
stamp_count-same a b f = ap (λ x. x / 64 - 1) (f.bytes 7 (lit< tt))

pub is_untimed-same : (a b : List ℕ) → SameFront a b → is_untimed b ≡ is_untimed a
unfolding is_untimed
is_untimed-same a b f =
    let at = λ (k : ℕ) (below : k < 9) (test : ℕ → Bool). let la : 9 ≤ length a = f.long_a in let lb : 9 ≤ length b = f.long_b in shows-same a b k test (omega arith) (omega arith) (f.bytes k below) in
    let count : stamp_count b ≡ stamp_count a = stamp_count-same a b f in
    let room : shows b 8 (λ x. nat_lt x (5 * stamp_count b)) ≡ shows a 8 (λ x. nat_lt x (5 * stamp_count a)) =
    ap (λ n. shows b 8 (λ x. nat_lt x (5 * n))) count ∙ at 8 (lit< tt) (λ x. nat_lt x (5 * stamp_count a)) in
    or-same _ _ _ _ (or-same _ _ _ _ (or-same _ _ _ _ (or-same _ _ _ _ (or-same _ _ _ _ (or-same _ _ _ _ (at 0 (lit< tt) (λ x. not (x == 0))) (at 1 (lit< tt) (λ x. not (x == 0)))) (at 2 (lit< tt) (λ x. not (x == 1)))) (at 3 (lit< tt) is_headless)) (at 6 (lit< tt) (λ x. not (x / 64 == 2)))) (at 7 (lit< tt) (λ x. nat_lt (x / 64) 2))) room

pub is_split-whole : (a b : List ℕ) → SameFront a b → length a ≤ length b → is_untimed a ≡ false → is_split a ≡ false → is_split b ≡ false
unfolding is_split
is_split-whole a b f longer u s =
    let room : 9 + 5 * stamp_count a ≤ length a = whole_long a u s in
    let count : stamp_count b ≡ stamp_count a = stamp_count-same a b f in
    rw (is_untimed-same a b f, u) (grind (arith, nat_tests))

-- a byte that tells that there is no stamp is there in a longer payload too
shows-more : (a more : List ℕ) (k : ℕ) (test : ℕ → Bool) → shows a k test ≡ true → shows (a ++ more) k test ≡ true
shows-more a more k test h =
    let in_a : k < length a = grind (arith, common_steps, nat_tests) in
    let in_more : k < length (a ++ more) = simp length-append (omega arith) in
    shows-same a (a ++ more) k test in_a in_more (get_or-append a more 0 k in_a) ∙ h

or-more : (a a' b b' : Bool) → (a ≡ true → a' ≡ true) → (b ≡ true → b' ≡ true) → (a || b) ≡ true → (a' || b') ≡ true
or-more true a' b b' f g h = rw (f refl) refl
or-more false a' b b' f g h = rw (g h) (or-true a')

pub is_untimed-more : (a more : List ℕ) → is_untimed a ≡ true → is_untimed (a ++ more) ≡ true
unfolding is_untimed
is_untimed-more a more h =
    let room : shows a 8 (λ x. nat_lt x (5 * stamp_count a)) ≡ true → shows (a ++ more) 8 (λ x. nat_lt x (5 * stamp_count (a ++ more))) ≡ true =
    λ e. let in_a : 8 < length a = grind (arith, common_steps, nat_tests) in
    let count : stamp_count (a ++ more) ≡ stamp_count a = ap (λ x. x / 64 - 1) (get_or-append a more 0 7 (omega arith)) in
    ap (λ n. shows (a ++ more) 8 (λ x. nat_lt x (5 * n))) count ∙ shows-more a more 8 (λ x. nat_lt x (5 * stamp_count a)) e in
    or-more _ _ _ _ (or-more _ _ _ _ (or-more _ _ _ _ (or-more _ _ _ _ (or-more _ _ _ _ (or-more _ _ _ _ (shows-more a more 0 (λ x. not (x == 0))) (shows-more a more 1 (λ x. not (x == 0)))) (shows-more a more 2 (λ x. not (x == 1)))) (shows-more a more 3 is_headless)) (shows-more a more 6 (λ x. not (x / 64 == 2)))) (shows-more a more 7 (λ x. nat_lt (x / 64) 2))) room h

-- a stamp has 33 bits
pub stamp_at_below : (bytes : List ℕ) (k : ℕ) → stamp_at bytes k < 2 ^ 33
stamp_at_below bytes k = omega arith

pub stamp_of_below : (payload : List ℕ) → IfSome (stamp_of payload) (λ pts. pts < 2 ^ 33)
stamp_of_below payload = elim (head_case payload) [
  | untimed u h p s ↦ rw p tt
  | split s h p ↦ rw p tt
  | single u s long c h p ↦ rw p (stamp_at_below payload 9)
  | double u s long c h p ↦ rw p (stamp_at_below payload 9)
]
