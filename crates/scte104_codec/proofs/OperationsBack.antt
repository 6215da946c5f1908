-- Operations that are spelled are read, and what is read was spelled.
use Rattle.std.proofs.Common.{◌≡◌, ℕ, zero, suc, ◌+◌, ◌<◌, ◌≤◌, Bool, true, false, List, [], ◌∷◌, ◌++◌, length, take, drop, Option, Some, None, refl, sym, ap, subst, ◌∙◌, arith}
use Rattle.std.specs.Prelude.{option_map, nat_lt, if◌then◌else◌}
use Rattle.std.specs.Option.{option_and_then}
use Rattle.std.specs.List.{flat_map, AllByRecursion}
use Rattle.std.proofs.lemmas.Bool.{le-ltb, ltb-false}
use Rattle.std.proofs.lemmas.List.{length-append, length-drop, length-take, take_at, drop_at, take-append-drop, drop-drop}
use Rattle.std.proofs.lemmas.List.Concat.{flat_map-cons}
use Rattle.std.proofs.lemmas.Option.{some_pair_parts}
use Rattle.byteorder.specs.Endian.{big_bytes}
use Rattle.wire_fields.specs.Numbers.{number16_at, AreBytes}
use Rattle.scte104_codec.specs.Operations.{Operation, IsOperation, operation_bytes, is_well_formed, operation_at, operations_in}
use Rattle.wire_fields.proofs.Cells.{field16, two_at, number16_fits, AreBytes-drop}

some_same : (a b : List Operation) → ◌≡◌ {A = Option (List Operation)} (Some a) (Some b) → a ≡ b
some_same a b e = cc

-- ---- spelled, then read

operation_back : (o : Operation) (rest : List ℕ) → IsOperation o → operation_at (operation_bytes o ++ rest) ≡ Some (o, rest)
unfolding operation_at
operation_back o rest is =
    let bytes = operation_bytes o ++ rest in
    let op : number16_at bytes 0 ≡ o.op = field16 bytes 0 o.op (drop 2 bytes) refl is.op in
    let size : number16_at bytes 2 ≡ length o.body = field16 bytes 2 (length o.body) (drop 4 bytes) refl is.data_length in
    let whole = length-append o.body rest in
    let long : nat_lt (length bytes) (4 + length o.body) ≡ false = le-ltb (length bytes) (4 + length o.body) (omega arith) in
    rw (size, long, op, ← drop-drop (length o.body) 4 bytes, take_at o.body rest (length o.body) refl, drop_at o.body rest (length o.body) refl) refl

pub operations_back : (os : List Operation) → AllByRecursion IsOperation os → operations_in (length os) (flat_map operation_bytes os) ≡ Some os
unfolding operations_in
operations_back [] all = refl
operations_back (o ∷ os) all =
    let first = operation_back o (flat_map operation_bytes os) all.0 in
    let others = operations_back os all.1 in
    ap (operations_in (suc (length os))) (flat_map-cons operation_bytes o os) ∙ rw (first, all.0.well_formed, others) refl

-- ---- read, then spelled

-- what was taken from the front
pub record Takes (bytes : List ℕ) (o : Operation) (rest : List ℕ) : Type 0 where
  pub parts : bytes ≡ operation_bytes o ++ rest
  pub op : o.op < 65536
  pub data_length : length o.body < 65536
  pub rest_fits : AreBytes rest

abbrev front_of : List ℕ → Operation × List ℕ
front_of bytes = (record { op = number16_at bytes 0; body = take (number16_at bytes 2) (drop 4 bytes) }, drop (4 + number16_at bytes 2) bytes)

taken_by : (b : Bool) (bytes : List ℕ) (o : Operation) (rest : List ℕ) → AreBytes bytes → nat_lt (length bytes) (4 + number16_at bytes 2) ≡ b
    → (if b then None else Some (front_of bytes)) ≡ Some (o, rest) → Takes bytes o rest
taken_by true bytes o rest fits t h = absurd cc
taken_by false bytes o rest fits t h =
    let n = number16_at bytes 2 in
    let long : 4 + n ≤ length bytes = ltb-false (length bytes) (4 + n) t in
    let made-is = some_pair_parts (front_of bytes).0 o (front_of bytes).1 rest h in
    let o-is : record { op = number16_at bytes 0; body = take n (drop 4 bytes) } ≡ o = made-is.0 in
    let rest-is : drop (4 + n) bytes ≡ rest = made-is.1 in
    let len : length (take n (drop 4 bytes)) ≡ n = omega (arith, length-take n (drop 4 bytes), length-drop 4 bytes) in
    let op = two_at bytes 0 (omega arith) fits in
    let size = two_at bytes 2 (omega arith) fits in
    let split : drop 4 bytes ≡ take n (drop 4 bytes) ++ drop (4 + n) bytes = sym (take-append-drop n (drop 4 bytes)) ∙ ap (λ (xs : List ℕ). take n (drop 4 bytes) ++ xs) (drop-drop n 4 bytes) in
    let sized : drop 2 bytes ≡ big_bytes 2 (length (take n (drop 4 bytes))) ++ drop 4 bytes = subst (λ (k : ℕ). drop 2 bytes ≡ big_bytes 2 k ++ drop 4 bytes) (sym len) size in
    let whole : bytes ≡ operation_bytes (record { op = number16_at bytes 0; body = take n (drop 4 bytes) }) ++ drop (4 + n) bytes =
    op ∙ ap (λ (xs : List ℕ). big_bytes 2 (number16_at bytes 0) ++ xs) (sized ∙ ap (λ (xs : List ℕ). big_bytes 2 (length (take n (drop 4 bytes))) ++ xs) split) in
    let op-fits = number16_fits bytes 0 fits in
    let size-fits = number16_fits bytes 2 fits in
    let made : Takes bytes (record { op = number16_at bytes 0; body = take n (drop 4 bytes) }) (drop (4 + n) bytes) = record { parts = whole; op = op-fits; data_length = omega arith; rest_fits = AreBytes-drop (4 + n) bytes fits } in
    subst (λ (p : Operation). Takes bytes p rest) o-is (subst (λ (r : List ℕ). Takes bytes (record { op = number16_at bytes 0; body = take n (drop 4 bytes) }) r) rest-is made)

operation_taken : (bytes : List ℕ) (o : Operation) (rest : List ℕ) → AreBytes bytes → operation_at bytes ≡ Some (o, rest) → Takes bytes o rest
unfolding operation_at
operation_taken bytes o rest fits h = taken_by _ bytes o rest fits refl h

-- so many operations are the bytes
pub record Fill (n : ℕ) (bytes : List ℕ) (os : List Operation) : Type 0 where
  pub count : length os ≡ n
  pub all : AllByRecursion IsOperation os
  pub parts : bytes ≡ flat_map operation_bytes os

module _ (n : ℕ) (fewer : (bytes : List ℕ) (os : List Operation) → AreBytes bytes → operations_in n bytes ≡ Some os → Fill n bytes os) (bytes : List ℕ) (fits : AreBytes bytes) where
  filled_formed : (o : Operation × List ℕ) (b : Bool) (r : Option (List Operation)) (os : List Operation) → operation_at bytes ≡ Some o → is_well_formed o.0 ≡ b → operations_in n o.1 ≡ r
      → (if b then option_map (λ (xs : List Operation). o.0 ∷ xs) r else None) ≡ Some os → Fill (suc n) bytes os
  filled_formed o false r os at formed e h = absurd cc
  filled_formed o true None os at formed e h = absurd cc
  filled_formed o true (Some xs) os at formed e h =
      let first = operation_taken bytes o.0 o.1 fits at in
      let others = fewer o.1 xs first.rest_fits e in
      let same : o.0 ∷ xs ≡ os = cc in
      let is : IsOperation o.0 = record { op = first.op; data_length = first.data_length; well_formed = formed } in
      let whole : bytes ≡ flat_map operation_bytes (o.0 ∷ xs) = first.parts ∙ ap (λ (ys : List ℕ). operation_bytes o.0 ++ ys) others.parts ∙ sym (flat_map-cons operation_bytes o.0 xs) in
      let made : Fill (suc n) bytes (o.0 ∷ xs) = record { count = ap suc others.count; all = (is, others.all); parts = whole } in
      subst (λ (ys : List Operation). Fill (suc n) bytes ys) same made

  filled_by : (r : Option (Operation × List ℕ)) (os : List Operation) → operation_at bytes ≡ r
      → option_and_then (λ (o : Operation × List ℕ). if is_well_formed o.0 then option_map (λ (xs : List Operation). o.0 ∷ xs) (operations_in n o.1) else None) r ≡ Some os → Fill (suc n) bytes os
  filled_by None os at h = absurd cc
  filled_by (Some o) os at h = filled_formed o (is_well_formed o.0) (operations_in n o.1) os at refl refl h

pub operations_filled : (n : ℕ) (bytes : List ℕ) (os : List Operation) → AreBytes bytes → operations_in n bytes ≡ Some os → Fill n bytes os
unfolding operations_in
operations_filled zero [] os fits h = subst (λ (xs : List Operation). Fill 0 [] xs) (some_same [] os h) (record { count = refl; all = tt; parts = refl })
operations_filled zero (b ∷ bytes) os fits h = absurd cc
operations_filled (suc n) bytes os fits h = filled_by n (operations_filled n) bytes fits (operation_at bytes) os refl h
