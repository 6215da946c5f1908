-- Tables that are read off a stream, and maps that are put on one.
use Rattle.std.proofs.Common.{◌≡◌, ℕ, ◌%◌, ◌/◌, ◌<◌, ◌≤◌, List, [], ◌∷◌, ◌++◌, Bool, true, false, ◌||◌, ◌==◌, refl, sym, ap, subst, ◌∙◌, arith, length, map, slice_index, if◌then◌else◌, Option, Some, None, Result, Ok, Err, length-append}
use Rattle.std.specs.Prelude.{is_none, nat_lt}
use Rattle.std.specs.List.{AllByRecursion, list_any}
use Rattle.std.proofs.lemmas.Bool.{eq-eqb, ltb-false}
use Rattle.ts_packet.specs.Duplicates.{repeats}
use Rattle.ts_packet.proofs.Cases.{by_test}
use Rattle.psi_section.specs.Crc.{crc}
use Rattle.psi_section.specs.Sections.{has_crc, sections_after}
use Rattle.psi_section.specs.Packetising.{first_packet, section_packets}
use Rattle.wire_fields.specs.Numbers.{AreBytes}
use Rattle.psi_section.specs.Laws.{CanBeGiven, IsSound}
use Rattle.psi_section.proofs.GivenLemmas.{sound, can}
use Rattle.psi_section.proofs.ReadBackLemmas.{read_back}
use Rattle.psi_tables.specs.declared.fault.TableFault.{TableFault}
use Rattle.psi_tables.specs.Sections.{or_fault}
use Rattle.psi_tables.specs.Descriptors.{Descriptor, IsDescriptor, descriptor_bytes, cue_registration, registers_cues, without_registration}
use Rattle.psi_tables.specs.Streams.{Entry, IsEntry, entry_bytes}
use Rattle.psi_tables.specs.Association.{Association, IsAssociation, pat, pat_fault, association_of, pat_section}
use Rattle.psi_tables.specs.ProgramMap.{ProgramMap, IsProgramMap, size_of, descriptors_bytes, entries_bytes, pmt, pmt_fault, map_of, pmt_section}
use Rattle.psi_tables.specs.declared.cue.TooLong.{TooLong}
use Rattle.psi_tables.specs.Cue.{ReadsAs, section_or_too_long, cue_entry, with_cue_entry, lists_pid, without_pid, without_cue_entry}
use Rattle.psi_tables.specs.Laws.{MapsReadBack}
use Rattle.psi_tables.proofs.MapLemmas.{IsPmt, faultless}
use Rattle.psi_tables.proofs.MapGrammar.{map_back, map_spelled, map_fits}
use Rattle.psi_tables.proofs.AssociationLemmas as pats
use Rattle.psi_tables.proofs.AssociationGrammar.{association_spelled, association_fits}
use Rattle.psi_section.proofs.CrcLemmas.{crc-below}
use Rattle.psi_tables.proofs.UndoLemmas.{checks}

-- ---- what was read

or_ok : {A : Type 0} (o : Option TableFault) (x y : A) → or_fault o x ≡ Ok y → (is_none o ≡ true) × (x ≡ y)
or_ok None x y h = (refl, cc)
or_ok (Some f) x y h = absurd (cc)

pub pmt_ok : (s : List ℕ) (m : ProgramMap) → pmt s ≡ Ok m → (is_none (pmt_fault s) ≡ true) × (map_of s ≡ m)
unfolding pmt
pmt_ok s m h = or_ok (pmt_fault s) (map_of s) m h

pub pat_ok : (s : List ℕ) (a : Association) → pat s ≡ Ok a → (is_none (pat_fault s) ≡ true) × (association_of s ≡ a)
unfolding pat
pat_ok s a h = or_ok (pat_fault s) (association_of s) a h

syntax_checks : (s : List ℕ) → slice_index s 1 / 128 % 2 ≡ 1 → has_crc s ≡ true
syntax_checks s h = ap (λ b. b || (slice_index s 0 == 0xFC)) (eq-eqb (slice_index s 1 / 128 % 2) 1 h)

pub map_checks : (s : List ℕ) (m : ProgramMap) → CanBeGiven s → pmt s ≡ Ok m → crc s ≡ 0
map_checks s m c h = (sound s c).checked (syntax_checks s (faultless s (pmt_ok s m h).0).syntax)

pub association_checks : (s : List ℕ) (a : Association) → CanBeGiven s → pat s ≡ Ok a → crc s ≡ 0
association_checks s a c h = (sound s c).checked (syntax_checks s (pats.faultless s (pat_ok s a h).0).syntax)

pub map_reads : (s : List ℕ) (m : ProgramMap) → AreBytes s → pmt s ≡ Ok m → IsProgramMap m × (pmt_section m ≡ s)
map_reads s m are h =
    let ok = pmt_ok s m h in
    let is = faultless s ok.0 in
    let fits : IsProgramMap m = rw ok.1 at (map_fits s are is) in
    (fits, sym (map_spelled s are is ∙ ap pmt_section ok.1))

pub association_reads : (s : List ℕ) (a : Association) → AreBytes s → pat s ≡ Ok a → IsAssociation a × (pat_section a ≡ s)
association_reads s a are h =
    let ok = pat_ok s a h in
    let is = pats.faultless s ok.0 in
    let fits : IsAssociation a = rw ok.1 at (association_fits s are is) in
    (fits, sym (association_spelled s are is ∙ ap pat_section ok.1))

-- ---- a map's section can be given

pmt_sound : (s : List ℕ) → IsPmt s → crc s ≡ 0 → IsSound s
pmt_sound s is zero =
    let id = is.id in
    let most = is.most in
    let long = is.long in
    let size = is.size in
    record { table_id = λ e. omega arith; least = omega arith; most = omega arith; size = size; checked = λ h. zero }

pub reads_as : (m : ProgramMap) → IsProgramMap m → crc (pmt_section m) ≡ 0 → ReadsAs m (pmt_section m)
reads_as m fits zero =
    let back = map_back m fits in
    record { reads = back; can = can (pmt_section m) (pmt_sound (pmt_section m) (faultless (pmt_section m) (pmt_ok (pmt_section m) m back).0) zero) }

-- ---- with the entry

All-more : {A : Type 0} (P : A → Type 0) (xs : List A) (x : A) → AllByRecursion P xs → P x → AllByRecursion P (xs ++ x ∷ [])
All-more P [] x h k = (k, tt)
All-more P (y ∷ ys) x h k = (h.0, All-more P ys x h.1 k)

registration_fits : IsDescriptor cue_registration
registration_fits = record { tag = omega arith; size = omega arith }

entry_fits : (pid : ℕ) → pid < 8192 → IsEntry (cue_entry pid)
entry_fits pid h = record { kind = omega arith; pid_field = omega arith; info_flags = omega arith; size = omega arith }

pub with_fits : (pid : ℕ) (m : ProgramMap) → pid < 8192 → IsProgramMap m → size_of (with_cue_entry pid m) ≤ 1021 → IsProgramMap (with_cue_entry pid m)
unfolding with_cue_entry
with_fits pid m h fits room = record {
  syntax = fits.syntax;
  flags = fits.flags;
  program = fits.program;
  version = fits.version;
  section_number = fits.section_number;
  last_section_number = fits.last_section_number;
  pcr_field = fits.pcr_field;
  info_flags = fits.info_flags;
  descriptors = All-more IsDescriptor m.descriptors cue_registration fits.descriptors registration_fits;
  entries = All-more IsEntry m.entries (cue_entry pid) fits.entries (entry_fits pid h);
  crc = crc-below _;
  size = room;
}

-- ---- without it

fewer_fit : (ds : List Descriptor) → AllByRecursion IsDescriptor ds → AllByRecursion IsDescriptor (without_registration ds)
unfolding without_registration
fewer_fit [] h = tt
fewer_fit (d ∷ []) h = by_test (registers_cues (descriptor_bytes d)) (λ y. simp y tt) (λ n. simp n h)
fewer_fit (d ∷ e ∷ ds) h = (h.0, fewer_fit (e ∷ ds) h.1)

fewer_bytes : (ds : List Descriptor) → length (descriptors_bytes (without_registration ds)) ≤ length (descriptors_bytes ds)
unfolding without_registration
fewer_bytes [] = omega arith
fewer_bytes (d ∷ []) = by_test (registers_cues (descriptor_bytes d)) (λ y. simp y (omega arith)) (λ n. simp n (omega arith))
fewer_bytes (d ∷ e ∷ ds) =
    let r = fewer_bytes (e ∷ ds) in
    let a = length-append (descriptor_bytes d) (descriptors_bytes (without_registration (e ∷ ds))) in
    let b = length-append (descriptor_bytes d) (descriptors_bytes (e ∷ ds)) in
    omega arith

module _ (pid : ℕ) where
  others_fit : (es : List Entry) → AllByRecursion IsEntry es → AllByRecursion IsEntry (without_pid pid es)
  others_fit [] h = tt
  others_fit (e ∷ es) h = by_test (lists_pid pid e) (λ y. simp y (others_fit es h.1)) (λ n. simp n (h.0, others_fit es h.1))

  others_bytes : (es : List Entry) → length (entries_bytes (without_pid pid es)) ≤ length (entries_bytes es)
  others_bytes [] = omega arith
  others_bytes (e ∷ es) =
      let r = others_bytes es in
      let a = length-append (entry_bytes e) (entries_bytes (without_pid pid es)) in
      let b = length-append (entry_bytes e) (entries_bytes es) in
      by_test (lists_pid pid e) (λ y. simp y (omega arith)) (λ n. simp n (omega arith))

  if_fits : (b : Bool) (ds : List Descriptor) → AllByRecursion IsDescriptor ds → AllByRecursion IsDescriptor (if b then without_registration ds else ds)
  if_fits true ds h = fewer_fit ds h
  if_fits false ds h = h

  if_bytes : (b : Bool) (ds : List Descriptor) → length (descriptors_bytes (if b then without_registration ds else ds)) ≤ length (descriptors_bytes ds)
  if_bytes true ds = fewer_bytes ds
  if_bytes false ds = omega arith

  pub without_fits : (m : ProgramMap) → IsProgramMap m → IsProgramMap (without_cue_entry pid m)
  unfolding without_cue_entry
  without_fits m fits =
      let b = list_any (lists_pid pid) m.entries in
      let i = if_bytes b m.descriptors in
      let j = others_bytes m.entries in
      let size = fits.size in
      record {
        syntax = fits.syntax;
        flags = fits.flags;
        program = fits.program;
        version = fits.version;
        section_number = fits.section_number;
        last_section_number = fits.last_section_number;
        pcr_field = fits.pcr_field;
        info_flags = fits.info_flags;
        descriptors = if_fits b m.descriptors fits.descriptors;
        entries = others_fit m.entries fits.entries;
        crc = crc-below _;
        size = omega arith;
      }

pub maps_read_back : (m : ProgramMap) → IsProgramMap m → MapsReadBack m
maps_read_back m fits = record {
  same = λ zero. reads_as m fits zero;
  added = λ pid h room. reads_as (with_cue_entry pid m) (with_fits pid m h fits room) (checks.added m pid);
  stripped = λ pid. reads_as (without_cue_entry pid m) (without_fits pid m fits) (checks.stripped m pid);
}

-- ---- put in packets

pub put_reads_back : (m : ProgramMap) (s : List ℕ) (pid n : ℕ) (past : List (List ℕ)) → ReadsAs m s → pid < 8192 → n < 16 → repeats pid (first_packet pid n s) past ≡ false
    → map pmt (sections_after past pid (section_packets pid n s)) ≡ Ok m ∷ []
put_reads_back m s pid n past h pb nb w = ap (map pmt) (read_back s h.can pid n past pb nb w) ∙ ap (λ x. x ∷ []) h.reads

-- ---- what the code writes

module _ (s : List ℕ) (pid : ℕ) (sound : is_none (pmt_fault s) ≡ true) (are : AreBytes s) where
  abbrev added : ProgramMap
  added = with_cue_entry pid (map_of s)

  abbrev pub answered : List ℕ → Result (List ℕ) TooLong
  answered section = Ok section

  sized : (m : ProgramMap) (section : List ℕ) → answered section ≡ section_or_too_long m → (size_of m ≤ 1021) × (pmt_section m ≡ section)
  sized m section h =
      by_test (nat_lt 1021 (size_of m))
      (λ y. let e : section_or_too_long m ≡ Err (record {}) = simp y in absurd (let d = h ∙ e in cc))
      (λ n. let e : section_or_too_long m ≡ answered (pmt_section m) = simp n in let d = h ∙ e in (ltb-false 1021 (size_of m) n, cc))

  pub added_reads : (section : List ℕ) → pid < 8192 → answered section ≡ section_or_too_long added → ReadsAs added section
  added_reads section h e =
      let fits = map_fits s are (faultless s sound) in
      let k = sized added section e in
      subst (ReadsAs added) k.1 ((maps_read_back (map_of s) fits).added pid h k.0)

  pub stripped_reads : (section : List ℕ) → section ≡ pmt_section (without_cue_entry pid (map_of s)) → ReadsAs (without_cue_entry pid (map_of s)) section
  stripped_reads section e =
      let fits = map_fits s are (faultless s sound) in
      subst (ReadsAs (without_cue_entry pid (map_of s))) (sym e) ((maps_read_back (map_of s) fits).stripped pid)
