-- What is read of bytes is as wide as its fields.
use Rattle.std.proofs.Common.{◌≡◌, ℕ, zero, suc, ◌+◌, ◌*◌, ◌<◌, ◌^◌, Bool, true, false, List, [], ◌∷◌, ◌++◌, length, drop, slice_index, Option, Some, None, refl, subst, arith}
use Rattle.std.specs.Prelude.{nat_lt, nat_le, unwrap_or, not, ◌==◌, if◌then◌else◌}
use Rattle.std.specs.List.{flat_map, cons_option, AllByRecursion}
use Rattle.std.proofs.lemmas.List.{take_at, drop_at}
use Rattle.std.proofs.lemmas.List.Concat.{flat_map-cons}
use Rattle.byteorder.specs.Endian.{big_bytes}
use Rattle.wire_fields.specs.Numbers.{number16_at, number32_at, AreBytes}
use Rattle.wire_fields.proofs.Cells.{AreBytes-drop, AreBytes-take, number16_fits, number32_fits}
use Rattle.scte104_codec.specs.declared.requests.SpliceRequest.{SpliceRequest}
use Rattle.scte104_codec.specs.Head.{head_at}
use Rattle.scte104_codec.specs.Operations.{Operation, operation_bytes, operations_in}
use Rattle.scte104_codec.specs.Requests.{splice_request_of, avail_ids_from, avail_ids_of}
use Rattle.scte104_codec.specs.Asked.{splice_request_in, splice_requests, avail_ids_in, avail_ids}
use Rattle.scte104_codec.specs.Reading.{MessageReading, init, alive, other, bad, multiple_with, single_operation_of, multiple_operation_of, message_of}
use Rattle.scte104_codec.specs.Widths.{AllFieldsFit, OperationsFit, ReadingFits}
use Rattle.scte104_codec.specs.Laws.{WhatIsReadFits}
use Rattle.scte104_codec.proofs.HeadLemmas.{head_fits}
use Rattle.scte104_codec.proofs.OperationsBack.{operations_filled}

-- ---- parts of bytes

pub front_bytes : (front rest : List ℕ) → AreBytes (front ++ rest) → AreBytes front
front_bytes front rest h = subst (λ (xs : List ℕ). AreBytes xs) (take_at front rest (length front) refl) (AreBytes-take (length front) (front ++ rest) h)

pub behind_bytes : (front rest : List ℕ) → AreBytes (front ++ rest) → AreBytes rest
behind_bytes front rest h = subst (λ (xs : List ℕ). AreBytes xs) (drop_at front rest (length front) refl) (AreBytes-drop (length front) (front ++ rest) h)

pub both_bytes : (front rest : List ℕ) → AreBytes front → AreBytes rest → AreBytes (front ++ rest)
both_bytes [] rest h k place = k place
both_bytes (b ∷ front) rest h k zero = h 0
both_bytes (b ∷ front) rest h k (suc place) = both_bytes front rest (λ i. h (suc i)) k place

-- ---- a splice_request

abbrev request_at : List ℕ → SpliceRequest
request_at bytes = record {
  splice_insert_type = slice_index bytes 0;
  splice_event_id = number32_at bytes 1;
  unique_program_id = number16_at bytes 5;
  pre_roll_time = number16_at bytes 7;
  break_duration = number16_at bytes 9;
  avail_num = slice_index bytes 11;
  avails_expected = slice_index bytes 12;
  auto_return = not (slice_index bytes 13 == 0);
}

some_same : {A : Type 0} (a b : A) → ◌≡◌ {A = Option A} (Some a) (Some b) → a ≡ b
some_same a b e = cc

at_fits : (b : Bool) (bytes : List ℕ) (r : SpliceRequest) → AreBytes bytes → (if b then Some (request_at bytes) else None) ≡ Some r → AllFieldsFit r
at_fits false bytes r h e = absurd cc
at_fits true bytes r h e =
    subst AllFieldsFit (some_same (request_at bytes) r e) (record {
      splice_insert_type = h 0;
      wide = record {
        splice_event_id = number32_fits bytes 1 h;
        unique_program_id = number16_fits bytes 5 h;
        pre_roll_time = number16_fits bytes 7 h;
        break_duration = number16_fits bytes 9 h;
      };
      avail_num = h 11;
      avails_expected = h 12;
    })

request_fits : (bytes : List ℕ) (r : SpliceRequest) → AreBytes bytes → splice_request_of bytes ≡ Some r → AllFieldsFit r
unfolding splice_request_of
request_fits bytes r h e = at_fits (length bytes == 14) bytes r h e

either_request : (b : Bool) (bytes : List ℕ) (r : SpliceRequest) → AreBytes bytes → (if b then splice_request_of bytes else None) ≡ Some r → AllFieldsFit r
either_request false bytes r h e = absurd cc
either_request true bytes r h e = request_fits bytes r h e

request_in_fits : (o : Operation) (r : SpliceRequest) → AreBytes o.body → splice_request_in o ≡ Some r → AllFieldsFit r
unfolding splice_request_in
request_in_fits o r h e = either_request (o.op == 0x0101) o.body r h e

one_more : (f : Option SpliceRequest) (rs : List SpliceRequest) → ((r : SpliceRequest) → f ≡ Some r → AllFieldsFit r) → AllByRecursion AllFieldsFit rs → AllByRecursion AllFieldsFit (cons_option f rs)
one_more None rs k all = all
one_more (Some r) rs k all = (k r refl, all)

requests_fit : (os : List Operation) → AllByRecursion (λ (o : Operation). AreBytes o.body) os → AllByRecursion AllFieldsFit (splice_requests os)
requests_fit [] h = tt
requests_fit (o ∷ os) h = one_more (splice_request_in o) (splice_requests os) (λ r e. request_in_fits o r h.0 e) (requests_fit os h.1)

-- ---- avail ids

abbrev AreIds : List ℕ → Type 0
AreIds ids = AllByRecursion (λ id. id < 2 ^ 32) ids

ids_both : (xs ys : List ℕ) → AreIds xs → AreIds ys → AreIds (xs ++ ys)
ids_both [] ys a b = b
ids_both (x ∷ xs) ys a b = (a.0, ids_both xs ys a.1 b)

unless : (b : Bool) (ids : List ℕ) → AreIds ids → AreIds (if b then [] else ids)
unless true ids h = tt
unless false ids h = h

from_fits : (n : ℕ) (bytes : List ℕ) → AreBytes bytes → AreIds (avail_ids_from n bytes)
unfolding avail_ids_from
from_fits zero bytes h = tt
from_fits (suc n) bytes h = unless (nat_lt (length bytes) 4) _ (number32_fits bytes 0 h, from_fits n (drop 4 bytes) (AreBytes-drop 4 bytes h))

given : (b : Bool) (ids : List ℕ) → AreIds ids → AreIds (unwrap_or (if b then Some ids else None) [])
given true ids h = h
given false ids h = tt

ids_fit : (bytes : List ℕ) → AreBytes bytes → AreIds (unwrap_or (avail_ids_of bytes) [])
unfolding avail_ids_of
ids_fit bytes h = given (length bytes == 1 + 4 * slice_index bytes 0) _ (from_fits (slice_index bytes 0) (drop 1 bytes) (AreBytes-drop 1 bytes h))

where_so : (b : Bool) (ids : List ℕ) → AreIds ids → AreIds (if b then ids else [])
where_so true ids h = h
where_so false ids h = tt

ids_in_fit : (o : Operation) → AreBytes o.body → AreIds (avail_ids_in o)
unfolding avail_ids_in
ids_in_fit o h = where_so (o.op == 0x010A) _ (ids_fit o.body h)

all_ids_fit : (os : List Operation) → AllByRecursion (λ (o : Operation). AreBytes o.body) os → AreIds (avail_ids os)
all_ids_fit [] h = tt
all_ids_fit (o ∷ os) h = ids_both (avail_ids_in o) (avail_ids os) (ids_in_fit o h.0) (all_ids_fit os h.1)

-- ---- operations

bodies_fit : (os : List Operation) → AreBytes (flat_map operation_bytes os) → AllByRecursion (λ (o : Operation). AreBytes o.body) os
bodies_fit [] h = tt
bodies_fit (o ∷ os) h =
    let all = subst (λ (xs : List ℕ). AreBytes xs) (flat_map-cons operation_bytes o os) h in (
      behind_bytes (big_bytes 2 o.op ++ big_bytes 2 (length o.body)) o.body (front_bytes (operation_bytes o) (flat_map operation_bytes os) all),
      bodies_fit os (behind_bytes (operation_bytes o) (flat_map operation_bytes os) all),
    )

operations_fit : (n : ℕ) (bytes : List ℕ) (os : List Operation) → n < 256 → AreBytes bytes → operations_in n bytes ≡ Some os → OperationsFit os
operations_fit n bytes os small h e =
    let is = operations_filled n bytes os h e in
    let count = is.count in
    let bodies = bodies_fit os (subst (λ (xs : List ℕ). AreBytes xs) is.parts h) in
    record { spelled = (omega (arith, count, small), is.all); bodies = bodies; requests = requests_fit os bodies; avail_ids = all_ids_fit os bodies }

none_fit : OperationsFit []
none_fit = record { spelled = (omega arith, tt); bodies = tt; requests = tt; avail_ids = tt }

timeless_fit : (b : Bool) (read : Option (List Operation)) (os : List Operation) → ((xs : List Operation) → read ≡ Some xs → OperationsFit xs) → (if b then read else Some []) ≡ Some os → OperationsFit os
timeless_fit true read os k e = k os e
timeless_fit false read os k e = subst OperationsFit (some_same [] os e) none_fit

-- ---- messages

either_fits : (b : Bool) (x y : MessageReading) → ReadingFits x → ReadingFits y → ReadingFits (if b then x else y)
either_fits true x y a c = a
either_fits false x y a c = c

single_in_width : (bytes : List ℕ) → AreBytes bytes → ReadingFits (single_operation_of bytes)
unfolding single_operation_of
single_in_width bytes h =
    let head = head_fits bytes 9 h in
    let answered = either_fits (nat_le (length (drop 13 bytes)) 8) (alive (head_at bytes 9) (drop 13 bytes)) (bad false (head_at bytes 9)) (head, AreBytes-drop 13 bytes h) head in
    either_fits (number16_at bytes 0 == 0x0001) (init (head_at bytes 9)) _ head (either_fits (number16_at bytes 0 == 0x0003) _ (other (head_at bytes 9)) answered head)

with_fits : (bytes : List ℕ) (read : Option (List Operation)) → AreBytes bytes → ((os : List Operation) → read ≡ Some os → OperationsFit os) → ReadingFits (multiple_with bytes read)
with_fits bytes None h k = head_fits bytes 5 h
with_fits bytes (Some os) h k = record { head = head_fits bytes 5 h; version = h 4; cue_version = h 9; time_kind = h 10; operations = k os refl }

multiple_in_width : (bytes : List ℕ) → AreBytes bytes → ReadingFits (multiple_operation_of bytes)
unfolding multiple_operation_of
multiple_in_width bytes h = with_fits bytes _ h (λ os e. timeless_fit (slice_index bytes 10 == 0) (operations_in (slice_index bytes 11) (drop 12 bytes)) os
    (λ xs is. operations_fit (slice_index bytes 11) (drop 12 bytes) xs (h 11) (AreBytes-drop 12 bytes h) is) e)

pub what_is_read_fits : WhatIsReadFits
unfolding message_of
what_is_read_fits bytes h = either_fits (number16_at bytes 0 == 0xFFFF) (multiple_operation_of bytes) (single_operation_of bytes) (multiple_in_width bytes h) (single_in_width bytes h)
