-- Avail ids, one after another, and the data of requests that are spelled.
use Rattle.std.proofs.Common.{◌≡◌, ℕ, zero, suc, ◌+◌, ◌-◌, ◌*◌, ◌^◌, ◌<◌, ◌≤◌, List, [], ◌∷◌, ◌++◌, length, drop, true, false, Some, refl, ap, ◌∙◌, arith, sub-one, eq-eqb}
use Rattle.std.specs.Prelude.{nat_lt, ◌==◌, not}
use Rattle.std.specs.List.{flat_map, AllByRecursion}
use Rattle.std.proofs.lemmas.Bool.{lt-ltb, le-ltb}
use Rattle.std.proofs.lemmas.List.{length-append}
use Rattle.std.proofs.lemmas.List.Concat.{flat_map-cons}
use Rattle.byteorder.specs.Endian.{big_bytes}
use Rattle.scte104_codec.specs.declared.requests.SpliceRequest.{SpliceRequest}
use Rattle.wire_fields.specs.Numbers.{number32_at}
use Rattle.scte104_codec.specs.Requests.{splice_request_of, splice_request_bytes, SpliceRequestFits, avail_ids_from, avail_ids_of, avail_ids_bytes}
use Rattle.wire_fields.proofs.Cells.{field16, field32}

pub ids_ended : (n : ℕ) (bytes : List ℕ) → n ≡ 0 → avail_ids_from n bytes ≡ []
unfolding avail_ids_from
ids_ended n bytes h = rw h refl

pub ids_short : (n : ℕ) (bytes : List ℕ) → length bytes < 4 → avail_ids_from n bytes ≡ []
unfolding avail_ids_from
ids_short zero bytes h = refl
ids_short (suc n) bytes h = rw (lt-ltb (length bytes) 4 h) refl

pub ids_more : (n : ℕ) (bytes : List ℕ) → 0 < n → 4 ≤ length bytes → avail_ids_from n bytes ≡ number32_at bytes 0 ∷ avail_ids_from (n - 1) (drop 4 bytes)
unfolding avail_ids_from
ids_more zero bytes p h = absurd (omega arith)
ids_more (suc n) bytes p h = rw (le-ltb (length bytes) 4 h, sub-one) refl

-- ---- what is spelled is read

pub request_back : (r : SpliceRequest) (flag : ℕ) → SpliceRequestFits r → r.auto_return ≡ not (flag == 0) → splice_request_of (splice_request_bytes r flag) ≡ Some r
unfolding splice_request_of
request_back r flag fits flagged =
    let bytes = splice_request_bytes r flag in
    let event = field32 bytes 1 r.splice_event_id (drop 5 bytes) refl fits.splice_event_id in
    let program = field16 bytes 5 r.unique_program_id (drop 7 bytes) refl fits.unique_program_id in
    let pre_roll = field16 bytes 7 r.pre_roll_time (drop 9 bytes) refl fits.pre_roll_time in
    let duration = field16 bytes 9 r.break_duration (drop 11 bytes) refl fits.break_duration in
    rw (event, program, pre_roll, duration, ← flagged) refl

ids_length : (ids : List ℕ) → length (flat_map (big_bytes 4) ids) ≡ 4 * length ids
ids_length [] = refl
ids_length (id ∷ ids) =
    let more = ids_length ids in
    let front : length (flat_map (big_bytes 4) (id ∷ ids)) ≡ 4 + length (flat_map (big_bytes 4) ids) = ap length (flat_map-cons (big_bytes 4) id ids) ∙ length-append (big_bytes 4 id) (flat_map (big_bytes 4) ids) in
    omega (arith, more, front)

ids_told : (ids : List ℕ) → AllByRecursion (λ id. id < 2 ^ 32) ids → avail_ids_from (length ids) (flat_map (big_bytes 4) ids) ≡ ids
unfolding avail_ids_from
ids_told [] all = refl
ids_told (id ∷ ids) all =
    let rest = flat_map (big_bytes 4) ids in
    let bytes = big_bytes 4 id ++ rest in
    let long : nat_lt (length bytes) 4 ≡ false = le-ltb (length bytes) 4 (omega arith) in
    let first = field32 bytes 0 id rest refl all.0 in
    ap (avail_ids_from (suc (length ids))) (flat_map-cons (big_bytes 4) id ids) ∙ rw (long, first, ids_told ids all.1) refl

pub ids_back : (ids : List ℕ) → AllByRecursion (λ id. id < 2 ^ 32) ids → avail_ids_of (avail_ids_bytes ids) ≡ Some ids
unfolding avail_ids_of
ids_back ids all =
    let size : (length (avail_ids_bytes ids) == 1 + 4 * length ids) ≡ true = eq-eqb (length (avail_ids_bytes ids)) (1 + 4 * length ids) (omega (arith, ids_length ids)) in
    rw (size, ids_told ids all) refl
