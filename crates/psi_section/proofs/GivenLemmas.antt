-- What is given can be given again, and is bytes where packets are.
use Rattle.std.proofs.Common.{◌≡◌, ℕ, zero, suc, ◌-◌, List, [], ◌∷◌, ◌++◌, Bool, true, false, ◌==◌, arith, refl, sym, ap, ◌∙◌, length, take, drop, if◌then◌else◌, nat_le}
use Rattle.std.specs.Prelude.{filter, All}
use Rattle.std.specs.List.{AllByRecursion}
use Rattle.std.proofs.lemmas.List.Elements.{All-from_recursion}
use Rattle.std.proofs.lemmas.Bool.{eq-eqb, ne_eqb, not-true}
use Rattle.std.proofs.lemmas.List.{append-nil, length-take-le}
use Rattle.ts_packet.specs.Fields.{unit_start, bytes}
use Rattle.ts_packet.specs.Duplicates.{original, last_of}
use Rattle.ts_packet.proofs.Cases.{by_test}
use Rattle.psi_section.specs.declared.front.Front.{Front}
use Rattle.psi_section.specs.declared.front.Front.TheVariants.{Nothing, Whole, Part}
use Rattle.psi_section.specs.Sections.{front_of, has_crc, is_good, is_bad, Assembled, taken_past, taken, continued, started, payload_taken, unbroken, packet_taken, held, finished, given}
use Rattle.psi_section.specs.Crc.{crc}
use Rattle.psi_section.specs.Laws.{CanBeGiven, IsSound}
use Rattle.psi_section.proofs.FrontLemmas.{whole_stays, whole_says, front_whole, front_from, not_yet, by_front, by_front_joined}

-- it is as long as it says
abbrev pub IsWhole : List ℕ → Type 0
IsWhole s = front_of s ≡ Whole (length s)

whole_taken : (bs : List ℕ) (n : ℕ) → front_of bs ≡ Whole n → IsWhole (take n bs)
whole_taken bs n h =
    ap front_of (sym (append-nil (take n bs))) ∙ whole_stays bs [] n h ∙ ap Whole (sym (length-take-le n bs (whole_says bs n h).there))

by_front_whole : (x : ℕ) (xs : List ℕ) (f : Front) → ((k : ℕ) → AllByRecursion IsWhole (taken_past k xs).finished) → front_of (x ∷ xs) ≡ f → AllByRecursion IsWhole (by_front x xs f).finished
by_front_whole x xs Nothing r h = tt
by_front_whole x xs Part r h = tt
by_front_whole x xs (Whole size) r h = (whole_taken (x ∷ xs) size h, r (size - 1))

taken_whole : (bs : List ℕ) (k : ℕ) → AllByRecursion IsWhole (taken_past k bs).finished
taken_whole [] k = tt
taken_whole (x ∷ xs) zero = by_front_whole x xs (front_of (x ∷ xs)) (taken_whole xs) refl
taken_whole (x ∷ xs) (suc k) = taken_whole xs k

joined_whole : (bs : List ℕ) (f : Front) → front_of bs ≡ f → AllByRecursion IsWhole (by_front_joined bs f).finished
joined_whole bs Nothing h = tt
joined_whole bs Part h = tt
joined_whole bs (Whole size) h = (whole_taken bs size h, tt)

continued_whole : (part bs : List ℕ) → AllByRecursion IsWhole (continued part bs).finished
continued_whole [] bs = tt
continued_whole (x ∷ xs) bs = joined_whole ((x ∷ xs) ++ bs) (front_of ((x ∷ xs) ++ bs)) refl

pub each-append : {A : Type 0} (P : A → Type 0) (xs ys : List A) → AllByRecursion P xs → AllByRecursion P ys → AllByRecursion P (xs ++ ys)
each-append P [] ys h k = k
each-append P (x ∷ xs) ys h k = (h.0, each-append P xs ys h.1 k)

started_whole : (part bs : List ℕ) → AllByRecursion IsWhole (started part bs).finished
started_whole part [] = tt
started_whole part (pointer ∷ bs) =
    by_test (nat_le pointer (length bs))
    (λ y. simp y (each-append IsWhole (continued part (take pointer bs)).finished (taken (drop pointer bs)).finished (continued_whole part (take pointer bs)) (taken_whole (drop pointer bs) 0)))
    (λ n. simp n tt)

payload_whole : (b : Bool) (part bs : List ℕ) → AllByRecursion IsWhole (payload_taken b part bs).finished
payload_whole true part bs = started_whole part bs
payload_whole false part bs = continued_whole part bs

finished_if : (b : Bool) (t : Assembled) → AllByRecursion IsWhole t.finished → AllByRecursion IsWhole (if b then t.finished else [])
finished_if true t h = h
finished_if false t h = tt

finished_whole : (pid : ℕ) (p : List ℕ) (past : List (List ℕ)) → AllByRecursion IsWhole (finished pid p past)
finished_whole pid p past =
    finished_if (original pid p past) (packet_taken p (last_of pid past) (held pid past)) (payload_whole (unit_start p) (unbroken p (last_of pid past) (held pid past)) (bytes p))

good_can : (ss : List (List ℕ)) → AllByRecursion IsWhole ss → AllByRecursion CanBeGiven (filter is_good ss)
good_can [] h = tt
good_can (s ∷ ss) h =
    by_test (is_good s)
    (λ y. simp y (record { whole = h.0; good = not-true (is_bad s) y }, good_can ss h.1))
    (λ n. simp n (good_can ss h.1))

pub given_can_each : (pid : ℕ) (p : List ℕ) (past : List (List ℕ)) → AllByRecursion CanBeGiven (given pid p past)
given_can_each pid p past = good_can (finished pid p past) (finished_whole pid p past)

pub given_can : (pid : ℕ) (p : List ℕ) (past : List (List ℕ)) → All CanBeGiven (given pid p past)
given_can pid p past = All-from_recursion CanBeGiven (given pid p past) (given_can_each pid p past)

-- ---- the same in the standard's terms

zero_is : (n : ℕ) → (n == 0) ≡ true → n ≡ 0
zero_is n h = grind arith

good_crc : (s : List ℕ) → is_bad s ≡ false → has_crc s ≡ true → crc s ≡ 0
good_crc s h k = by_test (crc s == 0) (λ y. zero_is (crc s) y) (λ n. absurd (let e : is_bad s ≡ true = simp (k, n) in cc))

pub sound : (s : List ℕ) → CanBeGiven s → IsSound s
sound [] c = absurd (let w = c.whole in cc)
sound (x ∷ []) c = absurd (not_yet x _ c.whole)
sound (x ∷ y ∷ []) c = absurd (not_yet x _ c.whole)
sound (x ∷ y ∷ z ∷ bs) c =
    let k = front_whole x y z (length (x ∷ y ∷ z ∷ bs)) bs c.whole in
    record {
      table_id = λ e. let f : (x == 0xFF) ≡ true = eq-eqb x 0xFF e in let g = k.0 in cc;
      least = omega arith;
      most = omega arith;
      size = k.1;
      checked = good_crc (x ∷ y ∷ z ∷ bs) c.good;
    }

crc_good : (s : List ℕ) → (has_crc s ≡ true → crc s ≡ 0) → is_bad s ≡ false
crc_good s h = by_test (has_crc s) (λ y. let e : (crc s == 0) ≡ true = eq-eqb (crc s) 0 (h y) in simp (y, e)) (λ n. simp n)

pub can : (s : List ℕ) → IsSound s → CanBeGiven s
can [] c = absurd (let l = c.least in omega arith)
can (x ∷ []) c = absurd (let l = c.least in omega arith)
can (x ∷ y ∷ []) c = absurd (let l = c.least in omega arith)
can (x ∷ y ∷ z ∷ bs) c =
    let size = c.size in
    let most = c.most in
    record {
      whole = front_from x y z bs (ne_eqb x 0xFF c.table_id) (omega arith) (omega arith) ∙ ap Whole size;
      good = crc_good (x ∷ y ∷ z ∷ bs) c.checked;
    }
