-- What is left of operations, and one operation after another.
use Rattle.std.proofs.Common.{◌≡◌, ℕ, zero, suc, ◌-◌, ◌<◌, List, [], ◌∷◌, length, Bool, true, false, Option, Some, None, refl, ap, ◌∙◌, arith, sub-one}
use Rattle.std.specs.Prelude.{option_map, is_some, ◌&&◌, ◌==◌, if◌then◌else◌}
use Rattle.std.specs.Option.{option_map_or, option_and_then}
use Rattle.scte104_codec.specs.Operations.{Operation, operation_at, operations_in, operations_from, is_well_formed, are_well_formed}

pub left_ended : (n : ℕ) (bytes : List ℕ) → operation_at bytes ≡ None → operations_from n bytes ≡ []
unfolding operations_from
left_ended zero bytes h = refl
left_ended (suc n) bytes h = rw h refl

pub left_more : (n : ℕ) (bytes after : List ℕ) (o : Operation) → 0 < n → operation_at bytes ≡ Some (o, after) → operations_from n bytes ≡ o ∷ operations_from (n - 1) after
unfolding operations_from
left_more zero bytes after o lt h = absurd (omega arith)
left_more (suc n) bytes after o lt h = rw (h, sub-one) refl

-- the operations that are read are those that an iterator gives, where that holds of one fewer
module _ (n : ℕ) (fewer : (bytes : List ℕ) (os : List Operation) → operations_in n bytes ≡ Some os → operations_from n bytes ≡ os) where
  left_formed : (o : Operation × List ℕ) (b : Bool) (r : Option (List Operation)) (os : List Operation) → operations_in n o.1 ≡ r
      → (if b then option_map (λ (xs : List Operation). o.0 ∷ xs) r else None) ≡ Some os → o.0 ∷ operations_from n o.1 ≡ os
  left_formed o false r os e h = absurd cc
  left_formed o true None os e h = absurd cc
  left_formed o true (Some xs) os e h =
      let more = fewer o.1 xs e in
      let same : o.0 ∷ xs ≡ os = cc in
      ap (λ (l : List Operation). o.0 ∷ l) more ∙ same

  left_by : (r : Option (Operation × List ℕ)) (os : List Operation)
      → option_and_then (λ (o : Operation × List ℕ). if is_well_formed o.0 then option_map (λ (xs : List Operation). o.0 ∷ xs) (operations_in n o.1) else None) r ≡ Some os
      → option_map_or (λ (o : Operation × List ℕ). o.0 ∷ operations_from n o.1) r [] ≡ os
  left_by None os h = absurd cc
  left_by (Some o) os h = left_formed o (is_well_formed o.0) (operations_in n o.1) os refl h

pub left_of_read : (n : ℕ) (bytes : List ℕ) (os : List Operation) → operations_in n bytes ≡ Some os → operations_from n bytes ≡ os
unfolding operations_in operations_from
left_of_read zero [] os h = cc
left_of_read zero (b ∷ bytes) os h = absurd cc
left_of_read (suc n) bytes os h = left_by n (left_of_read n) (operation_at bytes) os h

left_some : (n : ℕ) (bytes : List ℕ) (r : Option (List Operation)) → operations_in n bytes ≡ r → is_some r ≡ true → Some (operations_from n bytes) ≡ r
left_some n bytes None e h = absurd cc
left_some n bytes (Some os) e h = ap (λ (xs : List Operation). Some xs) (left_of_read n bytes os e)

pub left_all : (n : ℕ) (bytes : List ℕ) → is_some (operations_in n bytes) ≡ true → Some (operations_from n bytes) ≡ operations_in n bytes
left_all n bytes h = left_some n bytes (operations_in n bytes) refl h

-- ---- one operation after another, with how many of the count are behind

pub fill_ends : (n : ℕ) (bytes : List ℕ) → 0 < n → operation_at bytes ≡ None → is_some (operations_in n bytes) ≡ false
unfolding operations_in
fill_ends zero bytes lt h = absurd (omega arith)
fill_ends (suc n) bytes lt h = rw h refl

pub fill_breaks : (n : ℕ) (bytes after : List ℕ) (o : Operation) → 0 < n → operation_at bytes ≡ Some (o, after) → is_well_formed o ≡ false → is_some (operations_in n bytes) ≡ false
unfolding operations_in
fill_breaks zero bytes after o lt h f = absurd (omega arith)
fill_breaks (suc n) bytes after o lt h f = rw (h, f) refl

some_pushed : (o : Operation) (r : Option (List Operation)) → is_some (option_map (λ (xs : List Operation). o ∷ xs) r) ≡ is_some r
some_pushed o None = refl
some_pushed o (Some xs) = refl

pub fill_more : (n : ℕ) (bytes after : List ℕ) (o : Operation) → 0 < n → operation_at bytes ≡ Some (o, after) → is_well_formed o ≡ true → is_some (operations_in n bytes) ≡ is_some (operations_in (n - 1) after)
unfolding operations_in
fill_more zero bytes after o lt h f = absurd (omega arith)
fill_more (suc n) bytes after o lt h f = rw (h, f, sub-one) (some_pushed o (operations_in n after))

pub fill_done : (n : ℕ) (bytes : List ℕ) → n ≡ 0 → is_some (operations_in n bytes) ≡ (length bytes == 0)
unfolding operations_in
fill_done n [] h = rw h refl
fill_done n (b ∷ bytes) h = rw h (grind arith)

pub left_none : (n : ℕ) (bytes : List ℕ) → n ≡ 0 → operations_from n bytes ≡ []
unfolding operations_from
left_none n bytes h = rw h refl

-- ---- what was read is well formed

formed_first : (o : Operation) (b : Bool) (xs : List Operation) → is_well_formed o ≡ b → (b && are_well_formed xs) ≡ true → (is_well_formed o ≡ true) × (are_well_formed xs ≡ true)
formed_first o true xs e h = (e, h)
formed_first o false xs e h = absurd cc

pub formed_more : (o : Operation) (xs : List Operation) → are_well_formed (o ∷ xs) ≡ true → (is_well_formed o ≡ true) × (are_well_formed xs ≡ true)
formed_more o xs h = formed_first o (is_well_formed o) xs refl h

module _ (n : ℕ) (fewer : (bytes : List ℕ) (os : List Operation) → operations_in n bytes ≡ Some os → are_well_formed os ≡ true) where
  formed_then : (o : Operation × List ℕ) (b : Bool) (r : Option (List Operation)) (os : List Operation) → is_well_formed o.0 ≡ b → operations_in n o.1 ≡ r
      → (if b then option_map (λ (xs : List Operation). o.0 ∷ xs) r else None) ≡ Some os → are_well_formed os ≡ true
  formed_then o false r os t e h = absurd cc
  formed_then o true None os t e h = absurd cc
  formed_then o true (Some xs) os t e h =
      let same : os ≡ o.0 ∷ xs = cc in
      let more = fewer o.1 xs e in
      rw (same, t, more) refl

  formed_by : (r : Option (Operation × List ℕ)) (os : List Operation)
      → option_and_then (λ (o : Operation × List ℕ). if is_well_formed o.0 then option_map (λ (xs : List Operation). o.0 ∷ xs) (operations_in n o.1) else None) r ≡ Some os
      → are_well_formed os ≡ true
  formed_by None os h = absurd cc
  formed_by (Some o) os h = formed_then o (is_well_formed o.0) (operations_in n o.1) os refl refl h

pub formed_of_read : (n : ℕ) (bytes : List ℕ) (os : List Operation) → operations_in n bytes ≡ Some os → are_well_formed os ≡ true
unfolding operations_in
formed_of_read zero [] os h = let same : os ≡ [] = cc in rw same refl
formed_of_read zero (b ∷ bytes) os h = absurd cc
formed_of_read (suc n) bytes os h = formed_by n (formed_of_read n) (operation_at bytes) os h

formed_some : (n : ℕ) (bytes : List ℕ) (r : Option (List Operation)) → operations_in n bytes ≡ r → is_some r ≡ true → are_well_formed (operations_from n bytes) ≡ true
formed_some n bytes None e h = absurd cc
formed_some n bytes (Some os) e h = rw (left_of_read n bytes os e) (formed_of_read n bytes os e)

-- what an iterator over what was read has left is well formed
pub formed_left : (n : ℕ) (bytes : List ℕ) → is_some (operations_in n bytes) ≡ true → are_well_formed (operations_from n bytes) ≡ true
formed_left n bytes h = formed_some n bytes (operations_in n bytes) refl h
