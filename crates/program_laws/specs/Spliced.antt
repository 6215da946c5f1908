-- A map that may have an entry for cues is, with it, without fault for those who read the cues.
use Rattle.std.specs.Prelude.{◌≡◌, ℕ, ◌<◌, Option, None, option_map}
use Rattle.psi_tables.specs.ProgramMap.{ProgramMap}
use Rattle.psi_tables.specs.Cue.{with_cue_entry}
use Rattle.program_follower.specs.Purposes.{cues_written_on, cues_read_on}
use Rattle.program_follower.specs.Faults.{map_fault}

abbrev pub EntryIsNoFault : Type 0
EntryIsNoFault = (wanted : Option ℕ) (cue pmt_pid : ℕ) (first : Option ProgramMap) (m : ProgramMap) → cue < 8192 → (cue ≡ 0 → ⊥) → (cue ≡ pmt_pid → ⊥) →
    map_fault (cues_written_on wanted cue) pmt_pid first m ≡ None → map_fault (cues_read_on wanted cue) pmt_pid (option_map (with_cue_entry cue) first) (with_cue_entry cue m) ≡ None
