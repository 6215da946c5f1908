-- The maps of a network without fault take an entry for cues, and give it back.
use Rattle.std.specs.Prelude.{◌≡◌, ℕ, ◌<◌, List, false, Some}
use Rattle.std.specs.List.{list_any}
use Rattle.psi_section.specs.Laws.{CanBeGiven}
use Rattle.wire_fields.specs.Numbers.{AreBytes}
use Rattle.psi_tables.specs.ProgramMap.{ProgramMap, pmt, pmt_section}
use Rattle.psi_tables.specs.Cue.{with_cue_entry, without_cue_entry, lists_pid}
use Rattle.program_follower.specs.Program.{map_read, program_in}
use Rattle.program_follower.specs.Faults.{too_long}
use Rattle.program_laws.specs.Writing.{IsReadable}

-- a map that was read from a section, has room for an entry on this PID, and lists nothing on it
pub record TakesEntry (program pid : ℕ) (s : List ℕ) (m : ProgramMap) : Type 0 where
  pub reads : map_read program (pmt s) ≡ Some m
  pub bytes : AreBytes s
  pub given : CanBeGiven s
  pub room : too_long (Some pid) m ≡ false
  pub free : list_any (lists_pid pid) m.entries ≡ false

-- it goes out with the entry, is of the same program, and comes back
pub record EntryGoes (program pid : ℕ) (s : List ℕ) (m : ProgramMap) : Type 0 where
  pub out : IsReadable program (with_cue_entry pid m)
  pub same : program_in (with_cue_entry pid m) ≡ program_in m
  pub undone : without_cue_entry pid (with_cue_entry pid m) ≡ m
  pub back : IsReadable program m
  pub spelled : pmt_section m ≡ s

abbrev pub EntryGoesOut : Type 0
EntryGoesOut = (program pid : ℕ) (s : List ℕ) (m : ProgramMap) → pid < 8192 → TakesEntry program pid s m → EntryGoes program pid s m
