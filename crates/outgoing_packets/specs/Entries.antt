-- What becomes of the entry for cues in the maps of a program.
use Rattle.std.specs.Prelude.{◌≡◌, ◌<◌, ◌∷◌, ◌++◌, [], ℕ, List, length, map, All, false, if◌then◌else◌, Option, Some, None}
use Rattle.arrayvec.specs.ArrayVec.{ArrayVec}
use Rattle.psi_tables.specs.ProgramMap.{ProgramMap}
use Rattle.psi_tables.specs.Cue.{with_cue_entry, without_cue_entry}
use Rattle.ts_packet.specs.Runs.{onto}
use Rattle.program_follower.specs.Program.{Table}
use Rattle.program_follower.specs.Faults.{too_long}
use Rattle.program_laws.specs.Writing.{packets_out, section_by, section_out}
use Rattle.outgoing_packets.specs.Numbers.{HasPut, FrontFails}
use Rattle.outgoing_packets.specs.declared.outgoing.Outgoing.{Outgoing}
use Rattle.outgoing_packets.specs.declared.entry.CueEntry.{CueEntry}
use Rattle.outgoing_packets.specs.declared.entry.CueEntry.TheVariants.{Added, Stripped}

abbrev pub change_of : CueEntry → ProgramMap → ProgramMap
change_of (Added pid) = with_cue_entry pid
change_of (Stripped pid) = without_cue_entry pid

-- tables in packets, behind what is out, each map of the program changed
abbrev pub tables_out : CueEntry → ℕ → List (List ℕ) → List Table → List (List ℕ)
tables_out entry pid out ts = packets_out pid out (map (section_out (change_of entry)) ts)

-- one of them
abbrev pub table_out : CueEntry → ℕ → List (List ℕ) → Table → List (List ℕ)
table_out entry pid out t = packets_out pid out (section_out (change_of entry) t ∷ [])

-- the map has room for what is added
abbrev pub HasRoom : CueEntry → Option ProgramMap → Type 0
HasRoom entry None = Unit {0}
HasRoom (Added pid) (Some m) = too_long (Some pid) m ≡ false
HasRoom (Stripped pid) (Some m) = Unit {0}

-- a section as it goes out, whatever its room: a map without room for what is added goes out as it came
abbrev pub section_going_by : CueEntry → List ℕ → Option ProgramMap → List ℕ
section_going_by entry s None = s
section_going_by (Added pid) s (Some m) = if too_long (Some pid) m then s else section_by (with_cue_entry pid) s (Some m)
section_going_by (Stripped pid) s (Some m) = section_by (without_cue_entry pid) s (Some m)

abbrev pub section_going : CueEntry → Table → List ℕ
section_going entry t = section_going_by entry t.section t.program_map

-- tables in packets, behind what is out, each as it is sent
abbrev pub sections_going : CueEntry → ℕ → List (List ℕ) → List Table → List (List ℕ)
sections_going entry pid out ts = packets_out pid out (map (section_going entry) ts)

-- the section is not empty
abbrev pub HasBytes : Table → Type 0
HasBytes t = 0 < length t.section

-- a section that is not empty, and has room where it is a map of the program
pub record GoesOut (entry : CueEntry) (t : Table) : Type 0 where
  pub some : 0 < length t.section
  pub room : HasRoom entry t.program_map

abbrev pub AllGoOut : CueEntry → List Table → Type 0
AllGoOut entry ts = All (GoesOut entry) ts

-- the bytes of a section that was changed, or those that came
abbrev pub bytes_or : Option (ArrayVec ℕ) → List ℕ → List ℕ
bytes_or None s = s
bytes_or (Some changed) s = changed.items

-- Of these tables a front went out whole, and the counters are those behind it. Of the next one's packets a front went out, and one failed so.
pub record TableFails (entry : CueEntry) (pid : ℕ) (out : List (List ℕ)) (ts : List Table) (o : Outgoing) (fails : List (List ℕ) → List ℕ → Type 0) : Type 0 where
  pub whole : List Table
  pub next : Table
  pub left : List Table
  pub all : ts ≡ whole ++ next ∷ left
  pub numbers : HasPut o (onto out (sections_going entry pid out whole))
  pub fault : FrontFails (sections_going entry pid (onto out (sections_going entry pid out whole)) (next ∷ [])) (λ put p. fails (sections_going entry pid out whole ++ put) p)
