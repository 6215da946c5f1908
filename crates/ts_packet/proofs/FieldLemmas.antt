-- What another counter leaves as it was.
use Rattle.std.proofs.Common.{◌≡◌, ℕ, ◌+◌, ◌*◌, ◌/◌, ◌%◌, ◌<◌, List, [], ◌∷◌, true, false, refl, sym, ap, ◌∙◌, arith, length, slice_index, slice_set, drop, not, ◌&&◌, ◌==◌, zero, suc, Some}
use Rattle.std.specs.Prelude.{nat_eq, is_some, slice_get}
use Rattle.std.proofs.lemmas.Grind.{common_steps}
use Rattle.std.proofs.lemmas.List.{drop-drop, get_or-drop}
use Rattle.std.proofs.lemmas.Bool.{and_parts, eqb-true, or_right}
use Rattle.std.proofs.Math.Bool.{and-false}
use Rattle.ts_packet.proofs.Cases.{by_test, test-same}
use Rattle.ts_packet.specs.Fields.{in_error, unit_start, pid_of, scrambled, number, payload, with_number, on, payload_on, bytes, or_none, carries_as, alike, renumbered, without_number, is_among, marked}

-- the code's write is the definition
pub set_is_with_number : (p : List ℕ) (n : ℕ) → length p ≡ 188 → slice_set p 3 (slice_index p 3 / 16 * 16 + n) ≡ with_number n p
unfolding with_number
set_is_with_number [] n h = absurd (grind (arith, h))
set_is_with_number (a ∷ []) n h = absurd (grind (arith, h))
set_is_with_number (a ∷ b ∷ []) n h = absurd (grind (arith, h))
set_is_with_number (a ∷ b ∷ c ∷ []) n h = absurd (grind (arith, h))
set_is_with_number (a ∷ b ∷ c ∷ d ∷ r) n h = refl

pub set_is_marked : (p : List ℕ) → length p ≡ 188 → slice_set p 1 (slice_index p 1 % 128 + 128) ≡ marked p
unfolding marked
set_is_marked [] h = absurd (grind (arith, h))
set_is_marked (a ∷ []) h = absurd (grind (arith, h))
set_is_marked (a ∷ b ∷ r) h = refl

pub number-below : (p : List ℕ) → number p < 16
unfolding number
number-below p = omega arith

pub number-with : (n : ℕ) (p : List ℕ) → n < 16 → number (with_number n p) ≡ n
unfolding number with_number
number-with n p h = omega arith

pub pid-with : (n : ℕ) (p : List ℕ) → pid_of (with_number n p) ≡ pid_of p
unfolding pid_of with_number
pid-with n p = refl

pub error-with : (n : ℕ) (p : List ℕ) → in_error (with_number n p) ≡ in_error p
unfolding in_error with_number
error-with n p = refl

pub start-with : (n : ℕ) (p : List ℕ) → unit_start (with_number n p) ≡ unit_start p
unfolding unit_start with_number
start-with n p = refl

high_with : (x n : ℕ) → n < 16 → (x / 16 * 16 + n) / 16 ≡ x / 16
high_with x n h = omega arith

-- what stands behind the first four bytes
rest_with : (n k : ℕ) (p : List ℕ) → drop (5 + k) (with_number n p) ≡ drop (5 + k) p
unfolding with_number
rest_with n k p =
    let five : 5 + k ≡ 4 + (1 + k) = omega arith in
    rw five (sym (drop-drop (1 + k) 4 (with_number n p)) ∙ drop-drop (1 + k) 4 p)

pub length_with : (n : ℕ) (p : List ℕ) → slice_index (with_number n p) 4 ≡ slice_index p 4
unfolding with_number
length_with n p = get_or-drop 4 p 0 0

pub control_with : (n : ℕ) (p : List ℕ) → n < 16 → slice_index (with_number n p) 3 / 16 ≡ slice_index p 3 / 16
unfolding with_number
control_with n p h = high_with (slice_index p 3) n h

fourth_with : (n : ℕ) (p : List ℕ) → drop 4 (with_number n p) ≡ drop 4 p
unfolding with_number
fourth_with n p = refl

pub payload-with : (n : ℕ) (p : List ℕ) → n < 16 → payload (with_number n p) ≡ payload p
unfolding payload
payload-with n p h = rw (error-with n p, control_with n p h, length_with n p, fourth_with n p, rest_with n (slice_index p 4) p) refl

pub bytes-with : (n : ℕ) (p : List ℕ) → n < 16 → bytes (with_number n p) ≡ bytes p
unfolding bytes
bytes-with n p h = ap or_none (payload-with n p h)

pub scrambled-with : (n : ℕ) (p : List ℕ) → n < 16 → scrambled (with_number n p) ≡ scrambled p
unfolding scrambled with_number
scrambled-with n p h = let e : (slice_index p 3 / 16 * 16 + n) / 64 ≡ slice_index p 3 / 64 = omega arith in rw e refl

-- ---- the packet with its counter moved up

pub below_16 : (m : ℕ) → m % 16 < 16
below_16 m = omega arith

pub number-renumbered : (n : ℕ) (p : List ℕ) → number (renumbered n p) ≡ (number p + n) % 16
unfolding renumbered
number-renumbered n p = number-with ((number p + n) % 16) p (below_16 (number p + n))

pub start-renumbered : (n : ℕ) (p : List ℕ) → unit_start (renumbered n p) ≡ unit_start p
unfolding renumbered
start-renumbered n p = start-with ((number p + n) % 16) p

pub on-renumbered : (pid n : ℕ) (p : List ℕ) → on pid (renumbered n p) ≡ on pid p
unfolding on renumbered
on-renumbered pid n p = rw (error-with ((number p + n) % 16) p, pid-with ((number p + n) % 16) p) refl

pub payload_on-renumbered : (pid n : ℕ) (p : List ℕ) → payload_on pid (renumbered n p) ≡ payload_on pid p
unfolding payload_on renumbered on
payload_on-renumbered pid n p = let b = below_16 (number p + n) in rw (error-with ((number p + n) % 16) p, pid-with ((number p + n) % 16) p, payload-with ((number p + n) % 16) p b) refl

pub payload_on-on : (pid : ℕ) (p : List ℕ) → payload_on pid p ≡ true → on pid p ≡ true
unfolding payload_on
payload_on-on pid p h = grind arith

pub off_payload : (pid : ℕ) (p : List ℕ) → on pid p ≡ false → payload_on pid p ≡ false
off_payload pid p h = by_test (payload_on pid p) (λ y. let k = payload_on-on pid p y in cc) (λ n. n)

pub payload-renumbered : (n : ℕ) (p : List ℕ) → payload (renumbered n p) ≡ payload p
unfolding renumbered
payload-renumbered n p = payload-with ((number p + n) % 16) p (below_16 (number p + n))

pub bytes-renumbered : (n : ℕ) (p : List ℕ) → bytes (renumbered n p) ≡ bytes p
unfolding renumbered
bytes-renumbered n p = bytes-with ((number p + n) % 16) p (below_16 (number p + n))

pub alike-number : (q p : List ℕ) → alike q p ≡ true → number q ≡ number p
unfolding alike carries_as
alike-number q p h = grind (arith, common_steps)

same_test : (a b c d : ℕ) → (a ≡ b → c ≡ d) → (c ≡ d → a ≡ b) → nat_eq a b ≡ nat_eq c d
same_test a b c d h k = grind (arith, common_steps)

same_number : (n a b : ℕ) → a < 16 → b < 16 → nat_eq ((a + n) % 16) ((b + n) % 16) ≡ nat_eq a b
same_number n a b h k = same_test _ _ _ _ (λ e. omega arith) (λ e. omega arith)

-- moved alike, they are alike
pub alike-renumbered : (n : ℕ) (q p : List ℕ) → alike (renumbered n q) (renumbered n p) ≡ alike q p
unfolding alike carries_as
alike-renumbered n q p =
    rw (
      number-renumbered n q,
      number-renumbered n p,
      start-renumbered n q,
      start-renumbered n p,
      payload-renumbered n q,
      payload-renumbered n p,
      same_number n (number q) (number p) (number-below q) (number-below p),
    ) refl

-- but for its counter it is the same packet
pub without_number-renumbered : (n : ℕ) (p : List ℕ) → without_number (renumbered n p) ≡ without_number p
unfolding without_number renumbered with_number
without_number-renumbered n p =
    let e : (slice_index p 3 / 16 * 16 + (number p + n) % 16) / 16 * 16 + 0 ≡ slice_index p 3 / 16 * 16 + 0 = omega arith in rw e refl

-- moved by nothing it is the packet itself, moved twice it is moved by both
pub renumbered-same : (m n : ℕ) (p : List ℕ) → m % 16 ≡ n % 16 → renumbered m p ≡ renumbered n p
unfolding renumbered
renumbered-same m n p h = let e : (number p + m) % 16 ≡ (number p + n) % 16 = omega arith in rw e refl

-- what a packet carries does not hang on its counter
pub carries-with : (n : ℕ) (q p : List ℕ) → n < 16 → carries_as (with_number n q) p ≡ carries_as q p
unfolding carries_as
carries-with n q p h = rw (start-with n q, payload-with n q h) refl

pub payload-some : (pid : ℕ) (p : List ℕ) → payload_on pid p ≡ true → is_some (payload p) ≡ true
unfolding payload_on
payload-some pid p h = (and_parts (on pid p) (is_some (payload p)) h).1

pub without-payload : (pid : ℕ) (p : List ℕ) → is_some (payload p) ≡ false → payload_on pid p ≡ false
unfolding payload_on
without-payload pid p n = ap (λ b. on pid p && b) n ∙ and-false (on pid p)

pub pid_is : (pid : ℕ) (p : List ℕ) → on pid p ≡ true → pid_of p ≡ pid
unfolding on
pid_is pid p h = eqb-true (pid_of p) pid (and_parts (not (in_error p)) (pid_of p == pid) h).1

pub error-off : (pid : ℕ) (p : List ℕ) → in_error p ≡ true → on pid p ≡ false
unfolding on
error-off pid p e = simp e refl

pub among-get : (xs : List ℕ) (n x : ℕ) → slice_get xs n ≡ Some x → is_among x xs ≡ true
among-get [] n x h = absurd (cc)
among-get (y ∷ xs) zero x h = let is : y ≡ x = cc in let t = ap (λ z. z == x) is ∙ test-same x in simp t
among-get (y ∷ xs) (suc n) x h = or_right (y == x) (is_among x xs) (among-get xs n x h)
