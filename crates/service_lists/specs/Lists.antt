-- Lists of services: which text is one, what is loaded from it, and why one is not. Lines stand newest first. A line ends with a line feed,
-- which may be missing behind the last one.
use Rattle.std.specs.Prelude.{◌≡◌, ◌≢◌, ◌⊎◌, ℕ, ◌+◌, ◌^◌, List, [], ◌∷◌, ◌++◌, length, reverse, sum_by, true, false, ◌&&◌, cond, nat_lt, Option, None, Some}
use Rattle.std.specs.List.{list_all, before_first, after_first}
use Rattle.std.specs.Str.{is_utf8}
use Rattle.std.specs.declared.fs.attrs.Metadata.{Metadata}
use Rattle.ts_packet.specs.declared.tally.Tally.{Tally}
use Rattle.ts_packet.specs.Transfers.{WentWell, LastMovedNone, LastFailed, TookTurns}
use Rattle.decimal_numbers.specs.Numbers.{number_below}
use Rattle.psi_tables.specs.declared.config.Config.{Config}
use Rattle.psi_tables.specs.Configs.{config_fault}
use Rattle.chain_services.specs.declared.fault.ServiceFault.{ServiceFault}
use Rattle.chain_services.specs.declared.fault.ServiceFault.TheVariants as service_faults
use Rattle.chain_services.specs.Refused.{IsRefused}
use Rattle.chain_services.specs.Runs.{ServicesStandFor}
use Rattle.ad_library.specs.declared.library.AdLibrary.{AdLibrary}
use Rattle.ad_lists.specs.Lists.{is_blank, is_space, is_line, text_of, number_behind, EndsLine, count_of, IsListed}
use Rattle.ad_lists.specs.declared.list.ListFault.TheVariants as adverts
use Rattle.service_lists.specs.declared.fault.ServicesFault.{ServicesFault}
use Rattle.service_lists.specs.declared.fault.ServicesFault.TheVariants.{BadLine, Config as BadConfig, File, Adverts, Services, Io, Turns, OutOfMemory}
use Rattle.service_lists.specs.declared.services.ServiceList.{ServiceList}
use Rattle.service_lists.specs.declared.loading.Loading.{Loading}

-- ---- one line

-- what a line says: three numbers, and the path of a list of advertisements
pub record ServiceText : Type 0 where
  pub program : ℕ
  pub cue_pid : ℕ
  pub index : ℕ
  pub adverts : List ℕ

-- what stands behind the first space of a line, behind the second and behind the third
abbrev pub behind_program : List ℕ → List ℕ
behind_program line = after_first is_space line

abbrev pub behind_cue_pid : List ℕ → List ℕ
behind_cue_pid line = after_first is_space (behind_program line)

abbrev pub behind_index : List ℕ → List ℕ
behind_index line = after_first is_space (behind_cue_pid line)

-- three numbers and a path, where all numbers are there
abbrev pub joined : Option ℕ → Option ℕ → Option ℕ → List ℕ → Option ServiceText
joined None cue_pid index path = None
joined (Some program) None index path = None
joined (Some program) (Some cue_pid) None path = None
joined (Some program) (Some cue_pid) (Some index) path = Some (record { program = program; cue_pid = cue_pid; index = index; adverts = path })

-- WHAT A LINE SAYS, where it is of this form: digits alone of a number below 65,536, of a PID and of a number below 65,536, each with one space
-- behind it, and the rest of the line, which is not empty; all of it is text
abbrev pub said_by : List ℕ → Option ServiceText
said_by line = cond (is_utf8 line && nat_lt 0 (length (behind_index line)))
    (joined (number_below (before_first is_space line) (2 ^ 16)) (number_below (before_first is_space (behind_program line)) 8192)
    (number_below (before_first is_space (behind_cue_pid line)) (2 ^ 16)) (behind_index line)) None

-- the line is this service's, whose program and PID for cues are not refused
abbrev pub IsServiceOf : Config → List ℕ → List ℕ → Type 0
IsServiceOf c path line = (said_by line ≡ Some (record { program = c.program; cue_pid = c.cue_pid; index = c.index; adverts = path }))
    × (config_fault c.program c.cue_pid ≡ None)

-- the line is a service's
abbrev pub IsOfService : List ℕ → Type 0
IsOfService line = (c : Config) × (path : List ℕ) × IsServiceOf c path line

-- what the text of a line is refused for: its form, or the program or the PID for cues
abbrev pub BlamesText : ServicesFault → List ℕ → Type 0
BlamesText BadLine line = said_by line ≡ None
BlamesText (BadConfig bad) line =
    (said : ServiceText) × (said_by line ≡ Some said) × (config_fault said.program said.cue_pid ≡ Some bad)
BlamesText File line = ⊥
BlamesText (Adverts fault) line = ⊥
BlamesText (Services fault) line = ⊥
BlamesText Io line = ⊥
BlamesText Turns line = ⊥
BlamesText OutOfMemory line = ⊥

-- what a line is refused for: its text, where it is not blank; or what comes of its list of advertisements, or memory, where it is a service's
abbrev pub BlamesLine : ServicesFault → List ℕ → Type 0
BlamesLine BadLine line = (is_blank line ≡ false) × BlamesText BadLine line
BlamesLine (BadConfig bad) line = (is_blank line ≡ false) × BlamesText (BadConfig bad) line
BlamesLine File line = (is_blank line ≡ false) × IsOfService line
BlamesLine (Adverts fault) line = (is_blank line ≡ false) × IsOfService line × (fault ≢ adverts.OutOfMemory)
BlamesLine (Services fault) line = ⊥
BlamesLine Io line = ⊥
BlamesLine Turns line = ⊥
BlamesLine OutOfMemory line = (is_blank line ≡ false) × IsOfService line

-- ---- many lines

-- a library that was loaded from a list of advertisements
abbrev pub IsLoaded : {A : Type 0} → AdLibrary A → Type 0
IsLoaded library = (text : List ℕ) × IsListed library text

-- WHAT THESE LINES SAY, newest first: a service for each that is not blank
abbrev pub AreConfigs : List Config → List (List ℕ) → Type 0
AreConfigs configs [] = configs ≡ []
AreConfigs configs (line ∷ lines) = ((is_blank line ≡ true) × AreConfigs configs lines)
    ⊎ ((is_blank line ≡ false) × ((c : Config) × (cs : List Config) × (path : List ℕ)
    × (configs ≡ c ∷ cs) × IsServiceOf c path line × AreConfigs cs lines))

-- THE SERVICES OF THESE LINES, newest first: one for each line that is not blank, with a library that was loaded for it
abbrev pub AreServices : {A : Type 0} → List Config → List (AdLibrary A) → List (List ℕ) → Type 0
AreServices configs libraries [] = (configs ≡ []) × (libraries ≡ [])
AreServices {A} configs libraries (line ∷ lines) = ((is_blank line ≡ true) × AreServices configs libraries lines)
    ⊎ ((is_blank line ≡ false) × ((c : Config) × (cs : List Config) × (l : AdLibrary A) × (ls : List (AdLibrary A)) × (path : List ℕ)
    × (configs ≡ c ∷ cs) × (libraries ≡ l ∷ ls) × IsServiceOf c path line × IsLoaded l × AreServices cs ls lines))

-- each file of these libraries is described: for each library there is one description of its list, and one for each of its advertisements
abbrev pub AreAllDescribed : {A : Type 0} → List Metadata → List (AdLibrary A) → Type 0
AreAllDescribed files libraries = length files ≡ sum_by (λ l. 1 + count_of l) libraries

-- the list was read so far
pub record IsRead {A : Type 0} (loading : Loading A) (text : List ℕ) : Type 0 where
  pub before : List (List ℕ)
  pub number_is : loading.number ≡ number_behind before
  pub text_is : text ≡ text_of before ++ loading.line.items
  pub line : is_line loading.line.items ≡ true
  pub lines : list_all is_line before ≡ true
  pub services : AreServices (reverse loading.configs.items) (reverse loading.libraries.items) before
  pub described : AreAllDescribed loading.files.items loading.libraries.items

-- the services of a list: those of its lines, in order
pub record AreListed {A : Type 0} (configs : List Config) (libraries : List (AdLibrary A)) (text : List ℕ) : Type 0 where
  pub before : List (List ℕ)
  pub last : List ℕ
  pub text_is : text ≡ text_of before ++ last
  pub line : is_line last ≡ true
  pub lines : list_all is_line before ≡ true
  pub services : AreServices (reverse configs) (reverse libraries) (last ∷ before)

-- THE SERVICES OF A LIST, as they are loaded: they were given nothing yet, and there are as many libraries
pub record AreReady {M : Type 0} (list : ServiceList M) : Type 0 where
  pub stand : ServicesStandFor list.services list.configs.items
  pub as_many : length list.libraries.items ≡ length list.configs.items

-- ---- why a list is not loaded

-- Where a line is to blame, it is a whole one. Where the services do not go together, nothing comes behind the last line, and the fault is the
-- first reason for which those of all lines are refused.
abbrev pub Blames : ServicesFault → List (List ℕ) → List ℕ → List ℕ → Type 0
Blames BadLine before line rest = EndsLine rest × BlamesLine BadLine line
Blames (BadConfig bad) before line rest = EndsLine rest × BlamesLine (BadConfig bad) line
Blames File before line rest = EndsLine rest × BlamesLine File line
Blames (Adverts fault) before line rest = EndsLine rest × BlamesLine (Adverts fault) line
Blames (Services fault) before line rest = (rest ≡ []) × ((configs : List Config) × AreConfigs (reverse configs) (line ∷ before)
    × IsRefused configs fault × (fault ≢ service_faults.OutOfMemory))
Blames Io before line rest = Unit {0}
Blames Turns before line rest = Unit {0}
Blames OutOfMemory before line rest = Unit {0}

-- the line that is told: the one behind these where one is to blame, and none else; memory may be refused for one or for all services
abbrev pub TellsLine : ServicesFault → Option ℕ → List (List ℕ) → Type 0
TellsLine BadLine line before = line ≡ Some (number_behind before)
TellsLine (BadConfig bad) line before = line ≡ Some (number_behind before)
TellsLine File line before = line ≡ Some (number_behind before)
TellsLine (Adverts fault) line before = line ≡ Some (number_behind before)
TellsLine (Services fault) line before = line ≡ None
TellsLine Io line before = line ≡ None
TellsLine Turns line before = line ≡ None
TellsLine OutOfMemory line before = (line ≡ None) ⊎ (line ≡ Some (number_behind before))

-- WHERE A LIST STOPS, and the line that is told: each line before is blank or a service's, and the fault is to be blamed on what comes behind them
pub record StopsAt (fault : ServicesFault) (line_told : Option ℕ) (text : List ℕ) : Type 0 where
  pub before : List (List ℕ)
  pub part : List ℕ
  pub rest : List ℕ
  pub text_is : text ≡ text_of before ++ (part ++ rest)
  pub line : is_line part ≡ true
  pub lines : list_all is_line before ≡ true
  pub good : (configs : List Config) × AreConfigs configs before
  pub blamed : Blames fault before part rest
  pub told : TellsLine fault line_told before

-- What the reads of a list came to where it was not loaded: what is wrong with a line, or memory for it, comes behind reads that went well,
-- or at the end, where services do not go together.
abbrev pub ListBlamed : ServicesFault → Tally → Tally → Type 0
ListBlamed BadLine old new = WentWell old new ⊎ LastMovedNone old new
ListBlamed (BadConfig bad) old new = WentWell old new ⊎ LastMovedNone old new
ListBlamed File old new = WentWell old new ⊎ LastMovedNone old new
ListBlamed (Adverts fault) old new = WentWell old new ⊎ LastMovedNone old new
ListBlamed (Services fault) old new = LastMovedNone old new
ListBlamed Io old new = LastFailed old new
ListBlamed Turns old new = TookTurns (2 ^ 32) old new
ListBlamed OutOfMemory old new = WentWell old new ⊎ LastMovedNone old new

-- no read of the list is to blame, and not that services do not go together
abbrev pub IsOfLine : ServicesFault → Type 0
IsOfLine BadLine = Unit {0}
IsOfLine (BadConfig bad) = Unit {0}
IsOfLine File = Unit {0}
IsOfLine (Adverts fault) = Unit {0}
IsOfLine (Services fault) = ⊥
IsOfLine Io = ⊥
IsOfLine Turns = ⊥
IsOfLine OutOfMemory = Unit {0}

-- the services do not go together, or memory was refused
abbrev pub IsOfServices : ServicesFault → Type 0
IsOfServices BadLine = ⊥
IsOfServices (BadConfig bad) = ⊥
IsOfServices File = ⊥
IsOfServices (Adverts fault) = ⊥
IsOfServices (Services fault) = Unit {0}
IsOfServices Io = ⊥
IsOfServices Turns = ⊥
IsOfServices OutOfMemory = Unit {0}

-- what is told of a list whose services are refused so
abbrev pub of_services : ServiceFault → ServicesFault
of_services service_faults.NoService = Services service_faults.NoService
of_services service_faults.Many = Services service_faults.Many
of_services service_faults.SharedIndex = Services service_faults.SharedIndex
of_services service_faults.SharedProgram = Services service_faults.SharedProgram
of_services service_faults.SharedCue = Services service_faults.SharedCue
of_services service_faults.OutOfMemory = OutOfMemory
