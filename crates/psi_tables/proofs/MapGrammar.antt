-- What is read of a program map is what its bytes spell, and nothing else.
use Rattle.std.proofs.Common.{◌≡◌, ℕ, ◌+◌, ◌-◌, ◌*◌, ◌/◌, ◌%◌, ◌≤◌, true, false, List, [], ◌∷◌, ◌++◌, length, take, drop, slice_index, Option, None, Ok, refl, sym, ap, ◌∙◌, arith}
use Rattle.std.specs.Prelude.{is_none, is_some, nat_lt, nat_le, ◌==◌, ◌&&◌}
use Rattle.std.proofs.lemmas.Bool.{le-ltb, le-leb, eq-eqb, and_from}
use Rattle.std.proofs.lemmas.List.{length-drop, length-take, length-append, take_at, drop_at, take-append-drop, drop-append-le}
use Rattle.byteorder.specs.Endian.{big_bytes}
use Rattle.psi_tables.specs.declared.fault.TableFault.{TableFault}
use Rattle.psi_section.specs.Sections.{section_length, has_syntax}
use Rattle.wire_fields.specs.Numbers.{AreBytes}
use Rattle.wire_fields.specs.Numbers.{number16_at, number32_at}
use Rattle.psi_tables.specs.Sections.{is_table, has_size, before_crc}
use Rattle.psi_tables.specs.Runs.{run_of, things_of}
use Rattle.psi_tables.specs.Descriptors.{IsDescriptor, descriptor_bytes, descriptor_at}
use Rattle.psi_tables.specs.Streams.{IsEntry, entry_bytes, entry_at}
use Rattle.psi_tables.specs.ProgramMap.{ProgramMap, IsProgramMap, map_length, body_with, map_body, pmt_section, descriptors_bytes, entries_bytes, info_length, info_in, entries_in, map_of, pmt_fills, pmt_fault, pmt}
use Rattle.wire_fields.proofs.Cells.{AreBytes-drop, AreBytes-take, field16, field32, one_at, two_at, four_at, number16_fits, number32_fits}
use Rattle.psi_tables.proofs.SectionLemmas.{length_is, syntax_is}
use Rattle.psi_tables.proofs.RunLemmas.{Spelled, things_spelled, things_back, fills_back}
use Rattle.psi_tables.proofs.DescriptorLemmas.{descriptor_shortens, descriptor_fits, descriptor_back}
use Rattle.psi_tables.proofs.EntryLemmas.{entry_shortens, entry_fits, entry_back}
use Rattle.psi_tables.proofs.MapLemmas.{IsPmt}
use Rattle.psi_tables.proofs.AssociationGrammar.{field_of}

-- ---- read, then spelled

behind_bytes : (bytes : List ℕ) → AreBytes bytes → AreBytes (drop 12 (before_crc bytes))
behind_bytes bytes are = AreBytes-drop 12 (before_crc bytes) (AreBytes-take (length bytes - 4) bytes are)

pub info_spelled : (bytes : List ℕ) → AreBytes bytes → IsPmt bytes → Spelled descriptor_bytes IsDescriptor (info_in bytes) (things_of descriptor_at (info_in bytes))
info_spelled bytes are is =
    things_spelled descriptor_at descriptor_shortens descriptor_bytes IsDescriptor descriptor_fits (info_in bytes) (AreBytes-take (info_length bytes) (drop 12 (before_crc bytes)) (behind_bytes bytes are)) is.described

pub entries_spelled : (bytes : List ℕ) → AreBytes bytes → IsPmt bytes → Spelled entry_bytes IsEntry (entries_in bytes) (things_of entry_at (entries_in bytes))
entries_spelled bytes are is =
    things_spelled entry_at entry_shortens entry_bytes IsEntry entry_fits (entries_in bytes) (AreBytes-drop (info_length bytes) (drop 12 (before_crc bytes)) (behind_bytes bytes are)) is.listed

-- the loops and CRC_32, from place 12 on
loops_are : (bytes : List ℕ) → AreBytes bytes → IsPmt bytes → drop 12 bytes ≡ (info_in bytes ++ entries_in bytes) ++ big_bytes 4 (number32_at bytes (length bytes - 4))
loops_are bytes are is =
    let long = is.long in
    let n = length bytes - 4 in
    let front = before_crc bytes in
    let size : length front ≡ n = omega (arith, length-take n bytes) in
    let whole : bytes ≡ front ++ drop n bytes = sym (take-append-drop n bytes) in
    let split : drop 12 bytes ≡ drop 12 front ++ drop n bytes = ap (λ (xs : List ℕ). drop 12 xs) whole ∙ drop-append-le 12 front (drop n bytes) (omega arith) in
    let loops : drop 12 front ≡ info_in bytes ++ entries_in bytes = sym (take-append-drop (info_length bytes) (drop 12 front)) in
    let crc : drop n bytes ≡ big_bytes 4 (number32_at bytes n) = four_at bytes n (omega arith) are in
    split ∙ ap (λ (xs : List ℕ). xs ++ drop n bytes) loops ∙ ap (λ (xs : List ℕ). (info_in bytes ++ entries_in bytes) ++ xs) crc

sizes : (bytes : List ℕ) → IsPmt bytes → (length (info_in bytes) ≡ info_length bytes) × (map_length (info_in bytes) (entries_in bytes) ≡ section_length bytes)
sizes bytes is =
    let long = is.long in
    let size = is.size in
    let behind = drop 12 (before_crc bytes) in
    let n = info_length bytes in (
      omega (arith, length-take n behind, length-drop 12 (before_crc bytes), length-take (length bytes - 4) bytes),
      omega (arith, length-take n behind, length-drop n behind, length-drop 12 (before_crc bytes), length-take (length bytes - 4) bytes),
    )

-- the section by the bytes of its loops
map_is : (bytes : List ℕ) → AreBytes bytes → IsPmt bytes → bytes ≡ body_with (map_of bytes) (info_in bytes) (entries_in bytes) ++ big_bytes 4 (number32_at bytes (length bytes - 4))
unfolding body_with map_of
map_is bytes are is =
    let long = is.long in
    let info = info_in bytes in
    let entries = entries_in bytes in
    let crc = big_bytes 4 (number32_at bytes (length bytes - 4)) in
    let s = sizes bytes is in
    let first-field = field_of (number16_at bytes 1) (map_length info entries) (sym (s.1 ∙ length_is bytes (omega arith) are)) in
    let second-field = field_of (number16_at bytes 10) (length info) (sym s.0) in
    let id = one_at bytes 0 (omega arith) ∙ ap (λ (b : ℕ). b ∷ drop 1 bytes) is.id in
    let size = two_at bytes 1 (omega arith) are ∙ ap (λ (n : ℕ). big_bytes 2 n ++ drop 3 bytes) first-field in
    let program = two_at bytes 3 (omega arith) are in
    let version = one_at bytes 5 (omega arith) in
    let number = one_at bytes 6 (omega arith) in
    let last = one_at bytes 7 (omega arith) in
    let pcr = two_at bytes 8 (omega arith) are in
    let info-size = two_at bytes 10 (omega arith) are ∙ ap (λ (n : ℕ). big_bytes 2 n ++ drop 12 bytes) second-field in
    let loops = loops_are bytes are is in
    id ∙ ap (λ (xs : List ℕ). 2 ∷ xs) (size
    ∙ ap (λ (xs : List ℕ). big_bytes 2 (number16_at bytes 1 / 4096 * 4096 + map_length info entries) ++ xs) (program
    ∙ ap (λ (xs : List ℕ). big_bytes 2 (number16_at bytes 3) ++ xs) (version
    ∙ ap (λ (xs : List ℕ). slice_index bytes 5 ∷ xs) (number
    ∙ ap (λ (xs : List ℕ). slice_index bytes 6 ∷ xs) (last
    ∙ ap (λ (xs : List ℕ). slice_index bytes 7 ∷ xs) (pcr
    ∙ ap (λ (xs : List ℕ). big_bytes 2 (number16_at bytes 8) ++ xs) (info-size
    ∙ ap (λ (xs : List ℕ). big_bytes 2 (number16_at bytes 10 / 4096 * 4096 + length info) ++ xs) loops)))))))

pub loops_of_map : (bytes : List ℕ) → AreBytes bytes → IsPmt bytes → (descriptors_bytes (map_of bytes).descriptors ≡ info_in bytes) × (entries_bytes (map_of bytes).entries ≡ entries_in bytes)
unfolding map_of
loops_of_map bytes are is = (sym (info_spelled bytes are is).parts, sym (entries_spelled bytes are is).parts)

crc_of_map : (bytes : List ℕ) → (map_of bytes).crc ≡ number32_at bytes (length bytes - 4)
unfolding map_of
crc_of_map bytes = refl

pub map_spelled : (bytes : List ℕ) → AreBytes bytes → IsPmt bytes → bytes ≡ pmt_section (map_of bytes)
map_spelled bytes are is =
    let loops = loops_of_map bytes are is in
    let m = map_of bytes in
    map_is bytes are is ∙ ap (λ (xs : List ℕ). body_with m xs (entries_in bytes) ++ big_bytes 4 (number32_at bytes (length bytes - 4))) (sym loops.0)
    ∙ ap (λ (xs : List ℕ). body_with m (descriptors_bytes m.descriptors) xs ++ big_bytes 4 (number32_at bytes (length bytes - 4))) (sym loops.1)
    ∙ ap (λ (n : ℕ). map_body m ++ big_bytes 4 n) (sym (crc_of_map bytes))

pub map_fits : (bytes : List ℕ) → AreBytes bytes → IsPmt bytes → IsProgramMap (map_of bytes)
unfolding map_of
map_fits bytes are is =
    let info = info_spelled bytes are is in
    let entries = entries_spelled bytes are is in
    let s = sizes bytes is in
    let long = is.long in
    let own = length_is bytes (omega arith) are in
    let syntax = syntax_is bytes (omega arith) are is.syntax in
    let most = is.most in
    let wide = number16_fits bytes 1 are in
    let info-wide = number16_fits bytes 10 are in
    let long-info = ap (λ (xs : List ℕ). length xs) info.parts in
    let long-entries = ap (λ (xs : List ℕ). length xs) entries.parts in
    let sized = s.1 in
    record {
      syntax = omega arith;
      flags = omega arith;
      program = number16_fits bytes 3 are;
      version = are 5;
      section_number = are 6;
      last_section_number = are 7;
      pcr_field = number16_fits bytes 8 are;
      info_flags = omega arith;
      descriptors = info.fits;
      entries = entries.fits;
      crc = number32_fits bytes (length bytes - 4) are;
      size = omega arith;
    }

-- ---- spelled, then read

-- what stands in the bytes of a map
pub record MapFields (bytes : List ℕ) (m : ProgramMap) : Type 0 where
  pub flags : number16_at bytes 1 / 4096 ≡ m.flags
  pub program : number16_at bytes 3 ≡ m.program
  pub version : slice_index bytes 5 ≡ m.version
  pub section_number : slice_index bytes 6 ≡ m.section_number
  pub last_section_number : slice_index bytes 7 ≡ m.last_section_number
  pub pcr_field : number16_at bytes 8 ≡ m.pcr_field
  pub info_flags : number16_at bytes 10 / 4096 ≡ m.info_flags
  pub descriptors : things_of descriptor_at (info_in bytes) ≡ m.descriptors
  pub entries : things_of entry_at (entries_in bytes) ≡ m.entries
  pub crc : number32_at bytes (length bytes - 4) ≡ m.crc

map_from : (bytes : List ℕ) (m : ProgramMap) → MapFields bytes m → map_of bytes ≡ m
unfolding map_of
map_from bytes m f = rw (f.descriptors, f.entries, f.flags, f.program, f.version, f.section_number, f.last_section_number, f.pcr_field, f.info_flags, f.crc) refl

-- the way back from what `faultless` tells
no_fault : (bytes : List ℕ) → IsPmt bytes → pmt_fault bytes ≡ None
unfolding pmt_fault pmt_fills
no_fault bytes is =
    let long = is.long in
    let size = is.size in
    let table : is_table 2 bytes ≡ true = and_from (slice_index bytes 0 == 2) (has_syntax bytes) (eq-eqb _ _ is.id) (eq-eqb _ _ is.syntax) in
    let sized : has_size 16 bytes ≡ true =
    and_from (nat_le (section_length bytes) 1021 && (section_length bytes + 3 == length bytes)) (nat_le 16 (length bytes))
    (and_from (nat_le (section_length bytes) 1021) (section_length bytes + 3 == length bytes) (le-leb _ _ is.most) (eq-eqb _ _ is.size)) (le-leb _ _ (omega arith)) in
    let here : nat_lt (length bytes) 3 ≡ false = le-ltb (length bytes) 3 (omega arith) in
    let room : nat_le (16 + info_length bytes) (length bytes) ≡ true = le-leb _ _ is.long in
    rw (here, table, sized, room, is.described, is.listed) refl

pub is_faultless : (bytes : List ℕ) → IsPmt bytes → is_none (pmt_fault bytes) ≡ true
is_faultless bytes is = ap (λ (f : Option TableFault). is_none f) (no_fault bytes is)

read_by : (bytes : List ℕ) (m : ProgramMap) → pmt_fault bytes ≡ None → map_of bytes ≡ m → pmt bytes ≡ Ok m
unfolding pmt
read_by bytes m f e = rw (f, e) refl

-- a spelled map, part by part
record Back (m : ProgramMap) (bytes : List ℕ) : Type 0 where
  is : IsPmt bytes
  fields : MapFields bytes m

back_of : (m : ProgramMap) (info entries : List ℕ) → IsProgramMap m → info ≡ descriptors_bytes m.descriptors → entries ≡ entries_bytes m.entries → Back m (body_with m info entries ++ big_bytes 4 m.crc)
unfolding body_with
back_of m info entries fits info-is entries-is =
    let body = body_with m info entries in
    let bytes = body ++ big_bytes 4 m.crc in
    let size = map_length info entries in
    let most : size ≤ 1021 = rw (info-is, entries-is) fits.size in
    let syntax = fits.syntax in
    let flags-fit = fits.flags in
    let info-flags-fit = fits.info_flags in
    let field = field16 bytes 1 (m.flags * 4096 + size) (drop 3 bytes) refl (omega arith) in
    let info-field = field16 bytes 10 (m.info_flags * 4096 + length info) (drop 12 bytes) refl (omega arith) in
    let program = field16 bytes 3 m.program (drop 5 bytes) refl fits.program in
    let pcr = field16 bytes 8 m.pcr_field (drop 10 bytes) refl fits.pcr_field in
    let flags : number16_at bytes 1 / 4096 ≡ m.flags = ap (λ (n : ℕ). n / 4096) field ∙ omega arith in
    let info-flags : number16_at bytes 10 / 4096 ≡ m.info_flags = ap (λ (n : ℕ). n / 4096) info-field ∙ omega arith in
    let own : section_length bytes ≡ size = omega arith in
    let info-own : info_length bytes ≡ length info = ap (λ (n : ℕ). n % 4096) info-field ∙ omega arith in
    let two = length-append info entries in
    let body-long : length body ≡ 12 + length info + length entries = omega arith in
    let whole = length-append body (big_bytes 4 m.crc) in
    let long : length bytes ≡ size + 3 = omega arith in
    let place : length bytes - 4 ≡ length body = omega arith in
    let front : before_crc bytes ≡ body = ap (λ (n : ℕ). take n bytes) place ∙ take_at body (big_bytes 4 m.crc) (length body) refl in
    let behind : drop 12 (before_crc bytes) ≡ info ++ entries = ap (λ (xs : List ℕ). drop 12 xs) front in
    let info-here : info_in bytes ≡ info = ap (λ (xs : List ℕ). take (info_length bytes) xs) behind ∙ take_at info entries (info_length bytes) (sym info-own) in
    let entries-here : entries_in bytes ≡ entries = ap (λ (xs : List ℕ). drop (info_length bytes) xs) behind ∙ drop_at info entries (info_length bytes) (sym info-own) in
    let end : drop (length bytes - 4) bytes ≡ big_bytes 4 m.crc = ap (λ (n : ℕ). drop n bytes) place ∙ drop_at body (big_bytes 4 m.crc) (length body) refl in
    let crc = field32 bytes (length bytes - 4) m.crc [] end fits.crc in
    let info-spelled = info-here ∙ info-is in
    let entries-spelled = entries-here ∙ entries-is in
    record {
      is = record {
        id = refl;
        syntax = omega arith;
        most = rw own most;
        size = rw own (sym long);
        long = rw info-own (omega arith);
        described = ap (λ (xs : List ℕ). is_some (run_of descriptor_at xs)) info-spelled ∙ fills_back descriptor_at descriptor_shortens descriptor_bytes IsDescriptor descriptor_back m.descriptors fits.descriptors;
        listed = ap (λ (xs : List ℕ). is_some (run_of entry_at xs)) entries-spelled ∙ fills_back entry_at entry_shortens entry_bytes IsEntry entry_back m.entries fits.entries;
      };
      fields = record {
        flags = flags;
        program = program;
        version = refl;
        section_number = refl;
        last_section_number = refl;
        pcr_field = pcr;
        info_flags = info-flags;
        descriptors = ap (λ (xs : List ℕ). things_of descriptor_at xs) info-spelled ∙ things_back descriptor_at descriptor_shortens descriptor_bytes IsDescriptor descriptor_back m.descriptors fits.descriptors;
        entries = ap (λ (xs : List ℕ). things_of entry_at xs) entries-spelled ∙ things_back entry_at entry_shortens entry_bytes IsEntry entry_back m.entries fits.entries;
        crc = crc;
      };
    }

pub map_back : (m : ProgramMap) → IsProgramMap m → pmt (pmt_section m) ≡ Ok m
map_back m fits =
    let b = back_of m (descriptors_bytes m.descriptors) (entries_bytes m.entries) fits refl refl in
    read_by (pmt_section m) m (no_fault (pmt_section m) b.is) (map_from (pmt_section m) m b.fields)
