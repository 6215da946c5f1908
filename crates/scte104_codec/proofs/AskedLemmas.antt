-- One operation after another, and what it asks for.
use Rattle.std.proofs.Common.{◌≡◌, ◌≢◌, ℕ, ◌+◌, ◌*◌, ◌<◌, ◌≤◌, List, ◌∷◌, ◌++◌, length, true, false, Some, refl, sym, ap, subst, ◌∙◌, append_assoc, arith, inl, inr}
use Rattle.std.proofs.lemmas.Bool.{cases_lt}
use Rattle.std.specs.Prelude.{slice_index}
use Rattle.std.proofs.lemmas.List.{length-append}
use Rattle.scte104_codec.specs.declared.requests.SpliceRequest.{SpliceRequest}
use Rattle.scte104_codec.specs.Operations.{Operation, operations_from, is_well_formed, are_well_formed}
use Rattle.scte104_codec.specs.declared.operations.Operations.{Operations}
use Rattle.scte104_codec.specs.OperationsLeft.{operations_left}
use Rattle.scte104_codec.specs.Requests.{splice_request_of, avail_ids_of}
use Rattle.scte104_codec.proofs.OperationLemmas.{formed_more}
use Rattle.scte104_codec.specs.Asked.{splice_request_in, splice_requests, avail_ids_in, avail_ids}

first_formed : (os : List Operation) (o : Operation) (rest : List Operation) → os ≡ o ∷ rest → are_well_formed os ≡ true → is_well_formed o ≡ true
first_formed os o rest e h = (formed_more o rest (subst (λ (xs : List Operation). are_well_formed xs ≡ true) e h)).0

pub next_formed : (it : Operations) (o : Operation) (rest : List Operation) → operations_left it ≡ o ∷ rest → is_well_formed o ≡ true
unfolding operations_left
next_formed it o rest e = first_formed (operations_from it.count it.bytes.now) o rest e it.well_formed

pub request_size : (o : Operation) → o.op ≡ 257 → is_well_formed o ≡ true → length o.body ≡ 14
unfolding is_well_formed
request_size o e h = grind (arith, e, h)

pub ids_size : (o : Operation) → o.op ≡ 266 → is_well_formed o ≡ true → length o.body ≡ 1 + 4 * slice_index o.body 0
unfolding is_well_formed
ids_size o e h = grind (arith, e, h)

pub requests_first : (o : Operation) (os : List Operation) (r : SpliceRequest) → o.op ≡ 257 → splice_request_of o.body ≡ Some r → splice_requests (o ∷ os) ≡ r ∷ splice_requests os
unfolding splice_request_in
requests_first o os r e h = rw (e, h) refl

pub requests_other : (o : Operation) (os : List Operation) → o.op ≢ 257 → splice_requests (o ∷ os) ≡ splice_requests os
unfolding splice_request_in
requests_other o os n = grind (arith, n)

pub ids_first : (o : Operation) (os : List Operation) (ids : List ℕ) → o.op ≡ 266 → avail_ids_of o.body ≡ Some ids → avail_ids (o ∷ os) ≡ ids ++ avail_ids os
unfolding avail_ids_in
ids_first o os ids e h = rw (e, h) refl

pub ids_other : (o : Operation) (os : List Operation) → o.op ≢ 266 → avail_ids (o ∷ os) ≡ avail_ids os
unfolding avail_ids_in
ids_other o os n = grind (arith, n)

-- how many there are, where some are there and the others to come
pub ids_count : (there more all : List ℕ) → there ++ more ≡ all → length there + length more ≡ length all
ids_count there more all e =
    let count : length (there ++ more) ≡ length all = ap length e in
    omega (arith, length-append there more, count)

-- what an insert_avail_descriptor adds, where what is there and what is to come are all
pub ids_next : (there : List ℕ) (o : Operation) (rest left : List Operation) (ids all : List ℕ) → there ++ avail_ids left ≡ all → left ≡ o ∷ rest → o.op ≡ 266 → avail_ids_of o.body ≡ Some ids → there ++ (ids ++ avail_ids rest) ≡ all
ids_next there o rest left ids all e steps op is = ap (λ (xs : List ℕ). there ++ xs) (sym (ap avail_ids steps ∙ ids_first o rest ids op is)) ∙ e

pub ids_skip : (there : List ℕ) (o : Operation) (rest left : List Operation) (all : List ℕ) → there ++ avail_ids left ≡ all → left ≡ o ∷ rest → o.op ≢ 266 → there ++ avail_ids rest ≡ all
ids_skip there o rest left all e steps op = ap (λ (xs : List ℕ). there ++ xs) (sym (ap avail_ids steps ∙ ids_other o rest op)) ∙ e

pub ids_many : (there ids rest all : List ℕ) (n : ℕ) → there ++ (ids ++ rest) ≡ all → (length there + length ids ≤ n → false ≡ true) → n < length all
ids_many there ids rest all n e full = elim (cases_lt n (length there + length ids)) [
  | inl lt ↦
      let count = ids_count there (ids ++ rest) all e in
      omega (arith, count, length-append ids rest, lt)
  | inr le ↦ let wrong : false ≡ true = full le in absurd (cc)
]

pub ids_kept : (new there ids rest all : List ℕ) (n : ℕ) → new ≡ there ++ ids → length there + length ids ≤ n → there ++ (ids ++ rest) ≡ all → (length new ≤ n) × (new ++ rest ≡ all)
ids_kept new there ids rest all n e le same =
    let count : length new ≡ length (there ++ ids) = ap length e in
    let bound : length new ≤ n = omega (arith, count, length-append there ids, le) in
    (bound, ap (λ (xs : List ℕ). xs ++ rest) e ∙ append_assoc there ids rest ∙ same)
