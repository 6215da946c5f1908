-- What holds of every map.
use Rattle.std.specs.Prelude.{◌≡◌, ℕ, ◌<◌, ◌≤◌, List, [], ◌∷◌, map, false, Ok}
use Rattle.std.specs.List.{list_any}
use Rattle.ts_packet.specs.Duplicates.{repeats}
use Rattle.psi_section.specs.Crc.{crc}
use Rattle.psi_section.specs.Sections.{sections_after}
use Rattle.psi_section.specs.Packetising.{first_packet, section_packets}
use Rattle.wire_fields.specs.Numbers.{AreBytes}
use Rattle.psi_section.specs.Laws.{CanBeGiven}
use Rattle.psi_tables.specs.Association.{Association, IsAssociation, pat, pat_section}
use Rattle.psi_tables.specs.ProgramMap.{ProgramMap, IsProgramMap, size_of, pmt, pmt_section}
use Rattle.psi_tables.specs.Cue.{ReadsAs, with_cue_entry, without_cue_entry, lists_pid}

-- a map with a right CRC_32 that lists nothing on the PID comes back
abbrev pub StripUndoesAdd : Type 0
StripUndoesAdd = (m : ProgramMap) (pid : ℕ) → pid < 8192 → IsProgramMap m → crc (pmt_section m) ≡ 0 → list_any (lists_pid pid) m.entries ≡ false
    → without_cue_entry pid (with_cue_entry pid m) ≡ m

-- what is written has a right CRC_32
pub record WrittenMapsCheck : Type 0 where
  pub added : (m : ProgramMap) (pid : ℕ) → crc (pmt_section (with_cue_entry pid m)) ≡ 0
  pub stripped : (m : ProgramMap) (pid : ℕ) → crc (pmt_section (without_cue_entry pid m)) ≡ 0

-- What is read as a table, and can be given, has the CRC_32 0 over the whole.
pub record GivenTablesCheck : Type 0 where
  pub pmt : (s : List ℕ) (m : ProgramMap) → CanBeGiven s → pmt s ≡ Ok m → crc s ≡ 0
  pub pat : (s : List ℕ) (a : Association) → CanBeGiven s → pat s ≡ Ok a → crc s ≡ 0

-- Bytes that are read as a table are spelled by it, and it has a spelling.
pub record ReadTablesAreSpelled : Type 0 where
  pub pmt : (s : List ℕ) (m : ProgramMap) → AreBytes s → pmt s ≡ Ok m → IsProgramMap m × (pmt_section m ≡ s)
  pub pat : (s : List ℕ) (a : Association) → AreBytes s → pat s ≡ Ok a → IsAssociation a × (pat_section a ≡ s)

-- A map that has a spelling is read back from its section, which can be given: as it is, where its CRC_32 is right; with the entry for
-- cues, where that leaves section_length at 1021 at most; and without it.
pub record MapsReadBack (m : ProgramMap) : Type 0 where
  pub same : crc (pmt_section m) ≡ 0 → ReadsAs m (pmt_section m)
  pub added : (pid : ℕ) → pid < 8192 → size_of (with_cue_entry pid m) ≤ 1021 → ReadsAs (with_cue_entry pid m) (pmt_section (with_cue_entry pid m))
  pub stripped : (pid : ℕ) → ReadsAs (without_cue_entry pid m) (pmt_section (without_cue_entry pid m))

abbrev pub WrittenMapsReadBack : Type 0
WrittenMapsReadBack = (m : ProgramMap) → IsProgramMap m → MapsReadBack m

-- A map that can be given, put in packets, is read back as that map, whatever came before, as long as the first packet is no
-- duplicate there.
abbrev pub PutMapsReadBack : Type 0
PutMapsReadBack = (m : ProgramMap) (s : List ℕ) (pid n : ℕ) (past : List (List ℕ)) → ReadsAs m s → pid < 8192 → n < 16 → repeats pid (first_packet pid n s) past ≡ false
    → map pmt (sections_after past pid (section_packets pid n s)) ≡ Ok m ∷ []
