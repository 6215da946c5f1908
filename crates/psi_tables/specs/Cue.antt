-- The entry by which a program map lists a stream of cues (SCTE 35): stream_type 0x86, and in the program's descriptors the
-- registration descriptor of `CUEI`.
use Rattle.std.specs.Prelude.{◌≡◌, ℕ, ◌+◌, List, [], ◌∷◌, ◌++◌, Bool, not, ◌==◌, nat_lt, if◌then◌else◌, Result, Ok, Err}
use Rattle.std.specs.List.{filter, list_any}
use Rattle.arrayvec.specs.ArrayVec.{ArrayVec}
use Rattle.psi_section.specs.Crc.{crc}
use Rattle.psi_section.specs.Laws.{CanBeGiven}
use Rattle.psi_tables.specs.declared.cue.TooLong.{TooLong}
use Rattle.psi_tables.specs.Descriptors.{cue_registration, without_registration}
use Rattle.psi_tables.specs.Streams.{Entry, pid_in}
use Rattle.psi_tables.specs.ProgramMap.{ProgramMap, map_body, size_of, pmt, pmt_section}

-- a stream of cues on this PID, without descriptors; reserved bits are ones
abbrev pub cue_entry : ℕ → Entry
cue_entry pid = record { kind = 134; pid_field = 57344 + pid; info_flags = 15; info = [] }

-- with the CRC_32 of its other bytes
abbrev pub sealed : ProgramMap → ProgramMap
sealed m = record m { crc = crc (map_body m) }

unfoldable pub with_cue_entry : ℕ → ProgramMap → ProgramMap
with_cue_entry pid m = sealed (record m { descriptors = m.descriptors ++ cue_registration ∷ []; entries = m.entries ++ cue_entry pid ∷ [] })

abbrev pub lists_pid : ℕ → Entry → Bool
lists_pid pid e = pid_in e.pid_field == pid

-- the entries without those of a PID
abbrev pub without_pid : ℕ → List Entry → List Entry
without_pid pid es = filter (λ e. not (lists_pid pid e)) es

-- without all entries of the PID; where there was one, without the registration descriptor at the end too
unfoldable pub without_cue_entry : ℕ → ProgramMap → ProgramMap
without_cue_entry pid m =
    sealed (record m {
      descriptors = (if list_any (lists_pid pid) m.entries then without_registration m.descriptors else m.descriptors);
      entries = without_pid pid m.entries;
    })

-- the bytes of a map, where section_length can say their number
abbrev pub section_or_too_long : ProgramMap → Result (List ℕ) TooLong
section_or_too_long m = if nat_lt 1021 (size_of m) then Err (record {}) else Ok (pmt_section m)

-- what the code answers, by the section's bytes
abbrev pub seen_section : Result (ArrayVec ℕ) TooLong → Result (List ℕ) TooLong
seen_section (Ok section) = Ok section.items
seen_section (Err e) = Err e

-- these bytes are read as the map, and an assembler can give them
pub record ReadsAs (m : ProgramMap) (s : List ℕ) : Type 0 where
  pub reads : pmt s ≡ Ok m
  pub can : CanBeGiven s
