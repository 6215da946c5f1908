-- A cue entry that was added is taken out again.
use Rattle.std.proofs.Common.{◌≡◌, ℕ, ◌+◌, ◌%◌, ◌<◌, Bool, true, false, List, [], ◌∷◌, ◌++◌, refl, ap, ◌∙◌, arith}
use Rattle.std.specs.Prelude.{◌||◌, not}
use Rattle.std.specs.List.{list_any}
use Rattle.std.proofs.lemmas.Bool.{eq-eqb}
use Rattle.std.proofs.lemmas.List.{append-nil}
use Rattle.std.proofs.lemmas.List.Elements.{filter-append}
use Rattle.std.proofs.lemmas.List.Folds.{list_any-append}
use Rattle.psi_section.specs.Crc.{crc}
use Rattle.psi_tables.specs.Descriptors.{Descriptor, descriptor_bytes, cue_registration, registers_cues, without_registration}
use Rattle.psi_tables.specs.Streams.{Entry}
use Rattle.psi_tables.specs.ProgramMap.{ProgramMap, IsProgramMap, body_with, map_body, pmt_section}
use Rattle.psi_tables.specs.Cue.{cue_entry, sealed, with_cue_entry, lists_pid, without_pid, without_cue_entry}
use Rattle.psi_tables.specs.Laws.{WrittenMapsCheck}
use Rattle.psi_section.proofs.CrcLemmas.{crc_closed}
use Rattle.psi_section.proofs.SealLemmas.{crc_alone_closes}

registration_registers : registers_cues (descriptor_bytes cue_registration) ≡ true
unfolding registers_cues
registration_registers = refl

registration_back : (ds : List Descriptor) → without_registration (ds ++ cue_registration ∷ []) ≡ ds
unfolding without_registration
registration_back [] = rw registration_registers refl
registration_back (d ∷ []) = ap (λ (xs : List Descriptor). d ∷ xs) (registration_back [])
registration_back (d ∷ e ∷ ds) = ap (λ (xs : List Descriptor). d ∷ xs) (registration_back (e ∷ ds))

entry_listed : (pid : ℕ) → pid < 8192 → lists_pid pid (cue_entry pid) ≡ true
entry_listed pid lt = eq-eqb ((57344 + pid) % 8192) pid (omega arith)

others_by : (pid : ℕ) (e : Entry) (es : List Entry) (b : Bool) → (list_any (lists_pid pid) es ≡ false → without_pid pid es ≡ es) → lists_pid pid e ≡ b
    → (b || list_any (lists_pid pid) es) ≡ false → without_pid pid (e ∷ es) ≡ e ∷ es
others_by pid e es true others t h = cc
others_by pid e es false others t h = rw t (ap (λ (xs : List Entry). e ∷ xs) (others h))

-- where none is of the PID, none is left out
others_stay : (pid : ℕ) (es : List Entry) → list_any (lists_pid pid) es ≡ false → without_pid pid es ≡ es
others_stay pid [] h = refl
others_stay pid (e ∷ es) h = others_by pid e es (lists_pid pid e) (others_stay pid es) refl h

module _ (m : ProgramMap) (pid : ℕ) (below : pid < 8192) (right : m.crc ≡ crc (map_body m)) (none : list_any (lists_pid pid) m.entries ≡ false) where
  entries_back : without_pid pid (m.entries ++ cue_entry pid ∷ []) ≡ m.entries
  entries_back =
      let listed = entry_listed pid below in
      let last : without_pid pid (cue_entry pid ∷ []) ≡ [] = rw listed refl in
      filter-append (λ e. not (lists_pid pid e)) m.entries (cue_entry pid ∷ []) ∙ ap (λ (xs : List Entry). without_pid pid m.entries ++ xs) last ∙ append-nil (without_pid pid m.entries) ∙ others_stay pid m.entries none

  any_back : list_any (lists_pid pid) (m.entries ++ cue_entry pid ∷ []) ≡ true
  any_back =
      let listed = entry_listed pid below in
      list_any-append (lists_pid pid) m.entries (cue_entry pid ∷ []) ∙ rw (none, listed) refl

  undone_by : without_cue_entry pid (with_cue_entry pid m) ≡ m
  unfolding with_cue_entry without_cue_entry body_with
  undone_by = rw (any_back, registration_back, entries_back, ← right) refl

-- ---- the CRC_32 of the whole

pub undone : (m : ProgramMap) (pid : ℕ) → pid < 8192 → IsProgramMap m → crc (pmt_section m) ≡ 0 → list_any (lists_pid pid) m.entries ≡ false → without_cue_entry pid (with_cue_entry pid m) ≡ m
undone m pid below fits right none = undone_by m pid below (crc_alone_closes (map_body m) m.crc fits.crc right) none

sealed_checks : (m : ProgramMap) → crc (pmt_section (sealed m)) ≡ 0
unfolding body_with
sealed_checks m = crc_closed (map_body m)

pub checks : WrittenMapsCheck
unfolding with_cue_entry without_cue_entry
checks = record { added = λ m pid. sealed_checks _; stripped = λ m pid. sealed_checks _ }
