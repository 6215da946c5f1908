-- What the parts of a follower stand for after the packets that they have seen, newest first.
use Rattle.std.specs.Prelude.{◌≡◌, ℕ, List, [], ◌∷◌, if◌then◌else◌, map, Option, Some, None, option_map}
use Rattle.std.specs.Borrow.{Bor}
use Rattle.psi_section.specs.declared.assembler.Assembler.{Assembler}
use Rattle.psi_section.specs.Sections.{given}
use Rattle.psi_section.specs.Assembling.{StillGives, left}
use Rattle.psi_section.specs.SectionsLeft.{sections_left}
use Rattle.psi_tables.specs.ProgramMap.{map_of}
use Rattle.program_follower.specs.declared.purpose.Purpose.{Purpose}
use Rattle.program_follower.specs.declared.purpose.Listed.{Listed}
use Rattle.program_follower.specs.declared.pat_reader.PatReader.{PatReader}
use Rattle.program_follower.specs.declared.map_reader.MapReader.{MapReader}
use Rattle.program_follower.specs.declared.table_reader.TableReader.{TableReader}
use Rattle.program_follower.specs.declared.known.KnownProgram.{KnownProgram}
use Rattle.program_follower.specs.declared.tables.LentTable.{LentTable}
use Rattle.program_follower.specs.declared.tables.Tables.{Tables}
use Rattle.program_follower.specs.Program.{listed, pmt_pid_of, since_pat, Table, table_of, Program, program_of}
use Rattle.program_follower.specs.Known.{program_seen, known_seen}

-- The reader of PATs has been fed this past; its assembler may still give what was judged.
pub record PatsRead (r : PatReader) (wanted : Option ℕ) (past : List (List ℕ)) : Type 0 where
  pub todo : List (List ℕ)
  pub assembler : StillGives r.assembler 0 past todo
  pub listed_is : r.listed ≡ listed wanted past

-- ---- maps

-- what is known, lent
abbrev pub lent_program : Option (Bor KnownProgram) → Option Program
lent_program known = option_map (λ k. program_seen k.now) known

-- a table that is lent, by its bytes
abbrev pub table_seen : LentTable → Table
table_seen t = record { section = t.section.now; program_map = option_map (λ p. map_of p.bytes.now) t.map }

-- the tables that are still to come
unfoldable pub tables_left : Tables → List Table
tables_left t = map (table_of t.program) (sections_left t.sections)

-- the assembler has been fed the packets since the PAT, of the PID that it lists
abbrev pub GivesSince : Assembler → Option Listed → List (List ℕ) → List (List ℕ) → Type 0
GivesSince a None since todo = (pid : ℕ) → StillGives a pid [] todo
GivesSince a (Some l) since todo = StillGives a l.pid since todo

-- the sections that the newest packet finishes on the PMT's PID
abbrev pub sections_on : Option Listed → List ℕ → List (List ℕ) → List (List ℕ)
sections_on None p since = []
sections_on (Some l) p since = given l.pid p since

abbrev pub newest : Option ℕ → List (List ℕ) → List (List ℕ)
newest wanted [] = []
newest wanted (p ∷ past) = sections_on (listed wanted past) p (since_pat wanted past)

-- those that are shown
abbrev pub shown : MapReader → List (List ℕ)
shown r = if r.is_on_map then left r.assembler else []

-- The reader of maps has been fed this past.
pub record MapsRead (r : MapReader) (wanted : Option ℕ) (past : List (List ℕ)) : Type 0 where
  pub todo : List (List ℕ)
  pub assembler : GivesSince r.assembler (listed wanted past) (since_pat wanted past) todo
  pub program : known_seen r.known ≡ program_of wanted past

-- It shows what the newest packet finishes.
pub record MapsShow (r : MapReader) (wanted : Option ℕ) (past : List (List ℕ)) : Type 0 where
  pub newest_is : shown r ≡ newest wanted past

-- ---- both

-- the PID, and 0, which is that of the PAT, where there is none
abbrev pub or_zero : Option ℕ → ℕ
or_zero None = 0
or_zero (Some pid) = pid

-- The reader of tables reads them for this purpose, and has been fed this past. It keeps the PIDs that it watches beside that of the PAT.
pub record TablesRead (r : TableReader) (c : Purpose) (past : List (List ℕ)) : Type 0 where
  pub purpose : r.purpose ≡ c
  pub pats : PatsRead r.pats c.program past
  pub maps : MapsRead r.maps c.program past
  pub cue_pid : r.cue_pid ≡ or_zero c.cue_pid
  pub map_pid : r.map_pid ≡ or_zero (pmt_pid_of c.program past)

abbrev pub TablesShow : TableReader → Purpose → List (List ℕ) → Type 0
TablesShow r c past = MapsShow r.maps c.program past

-- what holds of the packets that it was fed, for its purpose
abbrev pub OfTables : TableReader → (Purpose → List (List ℕ) → Type 0) → Type 0
OfTables r holds = (c : Purpose) (past : List (List ℕ)) → TablesRead r c past → holds c past
