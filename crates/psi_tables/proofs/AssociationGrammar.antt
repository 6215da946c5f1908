-- What is read of a program association is what its bytes spell, and nothing else.
use Rattle.std.proofs.Common.{◌≡◌, ℕ, ◌+◌, ◌-◌, ◌*◌, ◌/◌, ◌%◌, ◌≤◌, Bool, true, false, List, [], ◌∷◌, ◌++◌, length, take, drop, slice_index, None, Ok, refl, sym, ap, ◌∙◌, arith}
use Rattle.std.specs.Prelude.{is_some, not, nat_lt, nat_le, ◌==◌, ◌&&◌}
use Rattle.std.specs.List.{flat_map}
use Rattle.std.proofs.lemmas.Bool.{le-ltb, le-leb, eq-eqb, eqb-true, and_from, not-false}
use Rattle.std.proofs.lemmas.List.{length-drop, length-take, length-append, take_at, drop_at, take-append-drop, drop-append-le}
use Rattle.byteorder.specs.Endian.{big_bytes}
use Rattle.psi_section.specs.Sections.{section_length, has_syntax}
use Rattle.wire_fields.specs.Numbers.{AreBytes}
use Rattle.wire_fields.specs.Numbers.{number16_at, number32_at}
use Rattle.psi_tables.specs.Sections.{is_table, has_size, before_crc, is_current}
use Rattle.psi_tables.specs.Runs.{run_of, things_of}
use Rattle.psi_tables.specs.Association.{IsPair, pair_bytes, pair_at, Association, IsAssociation, pat_section, pairs_in, association_of, pat_fills, pat_fault, pat}
use Rattle.wire_fields.proofs.Cells.{AreBytes-drop, AreBytes-take, field16, field32, one_at, two_at, four_at, number16_fits, number32_fits}
use Rattle.psi_tables.proofs.SectionLemmas.{length_is, syntax_is}
use Rattle.psi_tables.proofs.RunLemmas.{Spelled, things_spelled, things_back, fills_back}
use Rattle.psi_tables.proofs.PairLemmas.{pair_shortens, pair_fits, pair_back}
use Rattle.psi_tables.proofs.AssociationLemmas.{IsPat}

-- ---- read, then spelled

pub pairs_spelled : (bytes : List ℕ) → AreBytes bytes → IsPat bytes → Spelled pair_bytes IsPair (pairs_in bytes) (things_of pair_at (pairs_in bytes))
pairs_spelled bytes are is =
    things_spelled pair_at pair_shortens pair_bytes IsPair pair_fits (pairs_in bytes) (AreBytes-drop 8 (before_crc bytes) (AreBytes-take (length bytes - 4) bytes are)) is.filled

-- the pairs and CRC_32, from place 8 on
pairs_are : (bytes : List ℕ) → AreBytes bytes → IsPat bytes → drop 8 bytes ≡ pairs_in bytes ++ big_bytes 4 (number32_at bytes (length bytes - 4))
pairs_are bytes are is =
    let long = is.long in
    let n = length bytes - 4 in
    let front = before_crc bytes in
    let size : length front ≡ n = omega (arith, length-take n bytes) in
    let whole : bytes ≡ front ++ drop n bytes = sym (take-append-drop n bytes) in
    let split : drop 8 bytes ≡ drop 8 front ++ drop n bytes = ap (λ (xs : List ℕ). drop 8 xs) whole ∙ drop-append-le 8 front (drop n bytes) (omega arith) in
    let crc : drop n bytes ≡ big_bytes 4 (number32_at bytes n) = four_at bytes n (omega arith) are in
    split ∙ ap (λ (xs : List ℕ). drop 8 front ++ xs) crc

size_of_pairs : (bytes : List ℕ) → IsPat bytes → 9 + length (pairs_in bytes) ≡ section_length bytes
size_of_pairs bytes is =
    let long = is.long in
    let size = is.size in
    omega (arith, length-drop 8 (before_crc bytes), length-take (length bytes - 4) bytes)

pub field_of : (n size : ℕ) → n % 4096 ≡ size → n ≡ n / 4096 * 4096 + size
field_of n size e = omega arith

pub association_spelled : (bytes : List ℕ) → AreBytes bytes → IsPat bytes → bytes ≡ pat_section (association_of bytes)
unfolding association_of
association_spelled bytes are is =
    let long = is.long in
    let pairs = flat_map pair_bytes (things_of pair_at (pairs_in bytes)) in
    let spelled : pairs_in bytes ≡ pairs = (pairs_spelled bytes are is).parts in
    let same-size = ap (λ (xs : List ℕ). 9 + length xs) spelled in
    let own = size_of_pairs bytes is in
    let field = field_of (number16_at bytes 1) (9 + length pairs) (sym (length_is bytes (omega arith) are) ∙ sym own ∙ same-size) in
    let crc = big_bytes 4 (number32_at bytes (length bytes - 4)) in
    let id = one_at bytes 0 (omega arith) ∙ ap (λ (b : ℕ). b ∷ drop 1 bytes) is.id in
    let size = two_at bytes 1 (omega arith) are ∙ ap (λ (n : ℕ). big_bytes 2 n ++ drop 3 bytes) field in
    let stream = two_at bytes 3 (omega arith) are in
    let version = one_at bytes 5 (omega arith) in
    let number = one_at bytes 6 (omega arith) in
    let last = one_at bytes 7 (omega arith) in
    let behind = pairs_are bytes are is ∙ ap (λ (xs : List ℕ). xs ++ crc) spelled in
    id ∙ ap (λ (xs : List ℕ). 0 ∷ xs) (size
    ∙ ap (λ (xs : List ℕ). big_bytes 2 (number16_at bytes 1 / 4096 * 4096 + (9 + length pairs)) ++ xs) (stream
    ∙ ap (λ (xs : List ℕ). big_bytes 2 (number16_at bytes 3) ++ xs) (version
    ∙ ap (λ (xs : List ℕ). slice_index bytes 5 ∷ xs) (number
    ∙ ap (λ (xs : List ℕ). slice_index bytes 6 ∷ xs) (last
    ∙ ap (λ (xs : List ℕ). slice_index bytes 7 ∷ xs) behind)))))

-- a table that applies now is whole
whole_by : (current : Bool) (last : ℕ) → (current && not (last == 0)) ≡ false → current ≡ true → last ≡ 0
whole_by true last h e = eqb-true last 0 (not-false (last == 0) h)
whole_by false last h e = cc

pub association_fits : (bytes : List ℕ) → AreBytes bytes → IsPat bytes → IsAssociation (association_of bytes)
unfolding association_of
association_fits bytes are is =
    let pairs = pairs_spelled bytes are is in
    let long = is.long in
    let own-length = length_is bytes (omega arith) are in
    let syntax = syntax_is bytes (omega arith) are is.syntax in
    let most = is.most in
    let wide = number16_fits bytes 1 are in
    let long-pairs = ap (λ (xs : List ℕ). length xs) pairs.parts in
    let own = size_of_pairs bytes is in
    record {
      syntax = omega arith;
      flags = omega arith;
      stream_id = number16_fits bytes 3 are;
      version = are 5;
      section_number = are 6;
      last_section_number = are 7;
      pairs = pairs.fits;
      crc = number32_fits bytes (length bytes - 4) are;
      size = omega arith;
      whole = whole_by (is_current (slice_index bytes 5)) (slice_index bytes 7) is.whole;
    }

-- ---- spelled, then read

pub record AssociationFields (bytes : List ℕ) (a : Association) : Type 0 where
  pub flags : number16_at bytes 1 / 4096 ≡ a.flags
  pub stream_id : number16_at bytes 3 ≡ a.stream_id
  pub version : slice_index bytes 5 ≡ a.version
  pub section_number : slice_index bytes 6 ≡ a.section_number
  pub last_section_number : slice_index bytes 7 ≡ a.last_section_number
  pub pairs : things_of pair_at (pairs_in bytes) ≡ a.pairs
  pub crc : number32_at bytes (length bytes - 4) ≡ a.crc

association_from : (bytes : List ℕ) (a : Association) → AssociationFields bytes a → association_of bytes ≡ a
unfolding association_of
association_from bytes a f = rw (f.pairs, f.flags, f.stream_id, f.version, f.section_number, f.last_section_number, f.crc) refl

no_fault : (bytes : List ℕ) → IsPat bytes → pat_fault bytes ≡ None
unfolding pat_fault pat_fills
no_fault bytes is =
    let long = is.long in
    let table : is_table 0 bytes ≡ true = and_from (slice_index bytes 0 == 0) (has_syntax bytes) (eq-eqb _ _ is.id) (eq-eqb _ _ is.syntax) in
    let sized : has_size 12 bytes ≡ true =
    and_from (nat_le (section_length bytes) 1021 && (section_length bytes + 3 == length bytes)) (nat_le 12 (length bytes))
    (and_from (nat_le (section_length bytes) 1021) (section_length bytes + 3 == length bytes) (le-leb _ _ is.most) (eq-eqb _ _ is.size)) (le-leb _ _ long) in
    let here : nat_lt (length bytes) 3 ≡ false = le-ltb (length bytes) 3 (omega arith) in
    rw (here, table, sized, is.filled, is.whole) refl

read_by : (bytes : List ℕ) (a : Association) → pat_fault bytes ≡ None → association_of bytes ≡ a → pat bytes ≡ Ok a
unfolding pat
read_by bytes a f e = rw (f, e) refl

whole_then : (current : Bool) (last : ℕ) → (current ≡ true → last ≡ 0) → (current && not (last == 0)) ≡ false
whole_then true last h = rw (h refl) refl
whole_then false last h = refl

record Back (a : Association) (bytes : List ℕ) : Type 0 where
  is : IsPat bytes
  fields : AssociationFields bytes a

back_of : (a : Association) (pairs : List ℕ) → IsAssociation a → pairs ≡ flat_map pair_bytes a.pairs
    → Back a (((0 ∷ []) ++ big_bytes 2 (a.flags * 4096 + (9 + length pairs)) ++ big_bytes 2 a.stream_id ++ (a.version ∷ a.section_number ∷ a.last_section_number ∷ []) ++ pairs) ++ big_bytes 4 a.crc)
back_of a pairs fits pairs-is =
    let body = (0 ∷ []) ++ big_bytes 2 (a.flags * 4096 + (9 + length pairs)) ++ big_bytes 2 a.stream_id ++ (a.version ∷ a.section_number ∷ a.last_section_number ∷ []) ++ pairs in
    let bytes = body ++ big_bytes 4 a.crc in
    let size = 9 + length pairs in
    let most : size ≤ 1021 = rw pairs-is fits.size in
    let syntax = fits.syntax in
    let flags-fit = fits.flags in
    let field = field16 bytes 1 (a.flags * 4096 + size) (drop 3 bytes) refl (omega arith) in
    let stream = field16 bytes 3 a.stream_id (drop 5 bytes) refl fits.stream_id in
    let flags : number16_at bytes 1 / 4096 ≡ a.flags = ap (λ (n : ℕ). n / 4096) field ∙ omega arith in
    let own : section_length bytes ≡ size = omega arith in
    let body-long : length body ≡ 8 + length pairs = omega arith in
    let all = length-append body (big_bytes 4 a.crc) in
    let long : length bytes ≡ size + 3 = omega arith in
    let place : length bytes - 4 ≡ length body = omega arith in
    let front : before_crc bytes ≡ body = ap (λ (n : ℕ). take n bytes) place ∙ take_at body (big_bytes 4 a.crc) (length body) refl in
    let here : pairs_in bytes ≡ pairs = ap (λ (xs : List ℕ). drop 8 xs) front in
    let end : drop (length bytes - 4) bytes ≡ big_bytes 4 a.crc = ap (λ (n : ℕ). drop n bytes) place ∙ drop_at body (big_bytes 4 a.crc) (length body) refl in
    let crc = field32 bytes (length bytes - 4) a.crc [] end fits.crc in
    let spelled = here ∙ pairs-is in
    record {
      is = record {
        id = refl;
        syntax = omega arith;
        most = rw own most;
        size = rw own (sym long);
        long = omega arith;
        filled = ap (λ (xs : List ℕ). is_some (run_of pair_at xs)) spelled ∙ fills_back pair_at pair_shortens pair_bytes IsPair pair_back a.pairs fits.pairs;
        whole = whole_then (is_current a.version) a.last_section_number fits.whole;
      };
      fields = record {
        flags = flags;
        stream_id = stream;
        version = refl;
        section_number = refl;
        last_section_number = refl;
        pairs = ap (λ (xs : List ℕ). things_of pair_at xs) spelled ∙ things_back pair_at pair_shortens pair_bytes IsPair pair_back a.pairs fits.pairs;
        crc = crc;
      };
    }

pub association_back : (a : Association) → IsAssociation a → pat (pat_section a) ≡ Ok a
association_back a fits =
    let b = back_of a (flat_map pair_bytes a.pairs) fits refl in
    read_by (pat_section a) a (no_fault (pat_section a) b.is) (association_from (pat_section a) a b.fields)
