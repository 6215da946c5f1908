-- What is read again of the output: its PAT, and the sections on the PID of the PMT.
use Rattle.std.specs.Prelude.{◌≡◌, ℕ, List, map, reverse, None, Some}
use Rattle.std.specs.List.{AllByRecursion}
use Rattle.psi_tables.specs.Cue.{without_cue_entry}
use Rattle.program_follower.specs.declared.purpose.Listed.{Listed}
use Rattle.program_follower.specs.Program.{listed, all_tables}
use Rattle.program_follower.specs.Faults.{first_fault}
use Rattle.wire_fields.specs.Numbers.{AreBytes}
use Rattle.program_laws.specs.Writing.{Along, ChangedGoesOut, table_out}
use Rattle.splice_plans.specs.Switching.{Setting, spliced_network}
use Rattle.splice_plans.specs.Known.{adverts_at}
use Rattle.switch_laws.specs.Whole.{ArePacked, HavePids}
use Rattle.program_follower.specs.Purposes.{cues_read_on}

-- the program's maps, without the entry for the cues, can be sent and are read back
abbrev pub MapsGoOut : Setting → List (List ℕ) → Type 0
MapsGoOut k past = (l : Listed) → listed (Some k.program) past ≡ Some l →
    AllByRecursion (ChangedGoesOut (without_cue_entry k.cue_pid) l.program) (all_tables (Some k.program) past)

-- The PAT that lists the program says the same; and behind it the sections on the PID of the PMT are the same in their order, but for the
-- program's maps, which are without the entry for the cues.
pub record ReadsStripped (k : Setting) (network : List (List ℕ)) : Type 0 where
  pub pat : listed (Some k.program) (reverse (spliced_network k network)) ≡ listed (Some k.program) (reverse network)
  pub tables : all_tables (Some k.program) (reverse (spliced_network k network))
      ≡ map (table_out (without_cue_entry k.cue_pid)) (all_tables (Some k.program) (reverse network))

-- THE LAW OF SECTIONS, of networks in which those who read their cues find no fault
abbrev pub SectionsStay : Type 0
SectionsStay = (k : Setting) (network : List (List ℕ)) → first_fault (cues_read_on (Some k.program) k.cue_pid) (reverse network) ≡ None →
    (k.cue_pid ≡ 0 → ⊥) → MapsGoOut k (reverse network) → ArePacked k.packed (adverts_at k (reverse network)) → HavePids network →
    ReadsStripped k network

-- so it is in every network of bytes
abbrev pub BytesGoOut : Type 0
BytesGoOut = (k : Setting) (past : List (List ℕ)) → Along (λ p past. AreBytes p) past → MapsGoOut k past
