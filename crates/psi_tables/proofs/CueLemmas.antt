-- A map with an entry for cues, and one without.
use Rattle.std.proofs.Common.{◌≡◌, ℕ, ◌<◌, ◌≤◌, true, false, List, [], ◌∷◌, ◌++◌, Result, Ok, Err, refl, sym, ap, ◌∙◌}
use Rattle.std.specs.Prelude.{is_none, nat_lt, if◌then◌else◌}
use Rattle.std.specs.List.{list_any}
use Rattle.std.proofs.lemmas.Bool.{le-ltb, lt-ltb}
use Rattle.std.proofs.lemmas.Grind.{flat_map-append}
use Rattle.psi_tables.specs.declared.cue.TooLong.{TooLong}
use Rattle.wire_fields.specs.Numbers.{AreBytes}
use Rattle.psi_tables.specs.Descriptors.{Descriptor, cue_registration, descriptor_bytes, without_registration}
use Rattle.psi_tables.specs.Streams.{Entry, entry_bytes}
use Rattle.psi_tables.specs.ProgramMap.{ProgramMap, map_length, body_with, pmt_section, descriptors_bytes, entries_bytes, info_in, entries_in, map_of, pmt_fault}
use Rattle.psi_section.specs.Crc.{with_crc}
use Rattle.psi_tables.specs.Cue.{cue_entry, sealed, with_cue_entry, lists_pid, without_pid, without_cue_entry, section_or_too_long}
use Rattle.psi_tables.proofs.MapLemmas.{faultless}
use Rattle.psi_tables.proofs.MapGrammar.{loops_of_map}

abbrev with_loops : ProgramMap → List Descriptor → List Entry → ProgramMap
with_loops m ds es = record m { descriptors = ds; entries = es }

sealed_section : (m : ProgramMap) (ds : List Descriptor) (es : List Entry) (info entries : List ℕ) → descriptors_bytes ds ≡ info → entries_bytes es ≡ entries
    → pmt_section (sealed (with_loops m ds es)) ≡ with_crc (body_with m info entries)
unfolding body_with
sealed_section m ds es info entries d e = rw (d, e) refl

module _ (bytes : List ℕ) (pid : ℕ) (sound : is_none (pmt_fault bytes) ≡ true) (are : AreBytes bytes) (info entries : List ℕ) where
  more_described : info ≡ info_in bytes ++ descriptor_bytes cue_registration → descriptors_bytes ((map_of bytes).descriptors ++ cue_registration ∷ []) ≡ info
  more_described e =
      let loops = loops_of_map bytes are (faultless bytes sound) in
      flat_map-append descriptor_bytes (map_of bytes).descriptors (cue_registration ∷ []) ∙ ap (λ (xs : List ℕ). xs ++ descriptor_bytes cue_registration) loops.0 ∙ sym e

  more_listed : entries ≡ entries_in bytes ++ entry_bytes (cue_entry pid) → entries_bytes ((map_of bytes).entries ++ cue_entry pid ∷ []) ≡ entries
  more_listed e =
      let loops = loops_of_map bytes are (faultless bytes sound) in
      flat_map-append entry_bytes (map_of bytes).entries (cue_entry pid ∷ []) ∙ ap (λ (xs : List ℕ). xs ++ entry_bytes (cue_entry pid)) loops.1 ∙ sym e

  abbrev answered : List ℕ → Result (List ℕ) TooLong
  answered xs = Ok xs

  abbrev sized_answer : ProgramMap → List ℕ → List ℕ → Result (List ℕ) TooLong
  sized_answer m i e = if nat_lt 1021 (map_length i e) then Err (record {}) else Ok (pmt_section m)

  by_sizes : info ≡ info_in bytes ++ descriptor_bytes cue_registration → entries ≡ entries_in bytes ++ entry_bytes (cue_entry pid)
      → section_or_too_long (with_cue_entry pid (map_of bytes)) ≡ sized_answer (with_cue_entry pid (map_of bytes)) info entries
  unfolding with_cue_entry
  by_sizes i e =
      ap (λ (xs : List ℕ). sized_answer (with_cue_entry pid (map_of bytes)) xs (entries_bytes ((map_of bytes).entries ++ cue_entry pid ∷ []))) (more_described i)
      ∙ ap (λ (xs : List ℕ). sized_answer (with_cue_entry pid (map_of bytes)) info xs) (more_listed e)

  pub added : info ≡ info_in bytes ++ descriptor_bytes cue_registration → entries ≡ entries_in bytes ++ entry_bytes (cue_entry pid) → map_length info entries ≤ 1021
      → Ok (with_crc (body_with (map_of bytes) info entries)) ≡ section_or_too_long (with_cue_entry pid (map_of bytes))
  unfolding with_cue_entry
  added i e le =
      let m = map_of bytes in
      let section = sealed_section m (m.descriptors ++ cue_registration ∷ []) (m.entries ++ cue_entry pid ∷ []) info entries (more_described i) (more_listed e) in
      let test : nat_lt 1021 (map_length info entries) ≡ false = le-ltb 1021 (map_length info entries) le in
      sym (by_sizes i e ∙ rw test (ap (λ (xs : List ℕ). answered xs) section))

  pub too_long : info ≡ info_in bytes ++ descriptor_bytes cue_registration → entries ≡ entries_in bytes ++ entry_bytes (cue_entry pid) → 1021 < map_length info entries
      → Err (record {}) ≡ section_or_too_long (with_cue_entry pid (map_of bytes))
  too_long i e lt =
      let test : nat_lt 1021 (map_length info entries) ≡ true = lt-ltb 1021 (map_length info entries) lt in
      sym (by_sizes i e ∙ rw test refl)

  pub stripped : entries ≡ entries_bytes (without_pid pid (map_of bytes).entries) → list_any (lists_pid pid) (map_of bytes).entries ≡ true → info ≡ descriptors_bytes (without_registration (map_of bytes).descriptors)
      → with_crc (body_with (map_of bytes) info entries) ≡ pmt_section (without_cue_entry pid (map_of bytes))
  unfolding without_cue_entry
  stripped e any i =
      let m = map_of bytes in
      let section = sealed_section m (without_registration m.descriptors) (without_pid pid m.entries) info entries (sym i) (sym e) in
      sym (rw any section)

  pub unstripped : entries ≡ entries_bytes (without_pid pid (map_of bytes).entries) → list_any (lists_pid pid) (map_of bytes).entries ≡ false → info ≡ info_in bytes
      → with_crc (body_with (map_of bytes) info entries) ≡ pmt_section (without_cue_entry pid (map_of bytes))
  unfolding without_cue_entry
  unstripped e any i =
      let m = map_of bytes in
      let loops = loops_of_map bytes are (faultless bytes sound) in
      let section = sealed_section m m.descriptors (without_pid pid m.entries) info entries (loops.0 ∙ sym i) (sym e) in
      sym (rw any section)
