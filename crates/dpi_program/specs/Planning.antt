-- What `plan` does, by the bytes of the ends that its options name: THE THEOREM of its whole run. `reads`, `makes`, `remaining` and `contents`
-- are as in specs/Cutting.antt.
use Rattle.std.specs.Prelude.{◌≡◌, ℕ, ◌^◌, ◌-◌, ◌⊎◌, List, [], ◌∷◌, length, reverse, Option, None, Some, IfSome, IsSome}
use Rattle.std.specs.Global.{Global}
use Rattle.std.specs.Io.KnownBytes.{Appends, IsAtEnd}
use Rattle.std.specs.declared.fs.attrs.Metadata.{Metadata}
use Rattle.ts_packet.specs.Sources.{HasRead}
use Rattle.ad_library.specs.declared.library.AdLibrary.{AdLibrary}
use Rattle.break_lists.specs.Lists.{text_lines, planned_from, refused_from}
use Rattle.break_lists.specs.declared.list.NumberedLine.{NumberedLine}
use Rattle.break_plans.specs.Plans.{IsPlan}
use Rattle.break_plans.specs.declared.drafts.Setting.{Setting}
use Rattle.break_plans.specs.declared.planned.Plan.{Plan}
use Rattle.break_scripts.specs.Scripts.{lines_of, script_text}
use Rattle.break_scripts.specs.declared.request.PlacedRequest.{PlacedRequest}
use Rattle.break_timelines.specs.Standing.{ReaderStandsFor, IsTimelineOf}
use Rattle.break_timelines.specs.declared.reader.TimelineReader.{TimelineReader}
use Rattle.break_timelines.specs.declared.timeline.Timeline.{Timeline}
use Rattle.program_follower.specs.Program.{program_of}
use Rattle.program_follower.specs.Following.{streams_of_program}
use Rattle.run_ends.specs.Ends.{path_of}
use Rattle.run_ends.specs.declared.ends.End.{End}
use Rattle.command_lines.specs.declared.plan_options.PlanOptions.{PlanOptions}
use Rattle.dpi_program.specs.Runs.{known_from}
use Rattle.dpi_program.specs.Ends.{IsOpened, IsMade}
use Rattle.dpi_program.specs.Inputs.{IsLibraryAt}
use Rattle.dpi_program.specs.declared.planning.Inputs.{Inputs}

-- ---- the list of breaks

-- these are the lines of a list whose bytes, where they are known, are these; none of its lines is refused
abbrev pub AreBreaksOf : List NumberedLine → Option (List ℕ) → Type 0
AreBreaksOf lines known = IfSome known (λ text. (lines ≡ planned_from 1 (text_lines text)) × (refused_from 1 (text_lines text) ≡ None))

-- likewise, and the list is that of the end that was named
abbrev pub AreBreaksAt : {F : Type 0} → (List ℕ → F → Metadata → Type 0) → (F → Option (List ℕ)) → End → Option (List ℕ)
    → List NumberedLine → Option Metadata → Type 0
AreBreaksAt {F = F} reads remaining list standard lines about =
    (file : Option F) × IsOpened reads list file about × AreBreaksOf lines (known_from remaining file standard)

-- ---- the network

-- these packets were read of a network of these bytes: all of them, up to the greatest count of 64 bits
abbrev pub ArePacketsOf : List (List ℕ) → Option (List ℕ) → Type 0
ArePacketsOf ps known = (left : Option (List ℕ)) × HasRead known left ps × (IsAtEnd left ⊎ (length ps ≡ 2 ^ 64 - 1))

-- a timeline was fed just these
abbrev pub HasFed : TimelineReader → ℕ → Option (List ℕ) → Type 0
HasFed reader program known = (ps : List (List ℕ)) × ReaderStandsFor reader program (reverse ps) × ArePacketsOf ps known

-- it is the timeline of the program in the packets of such a network
abbrev pub IsTimelineBy : Timeline → ℕ → Option (List ℕ) → Type 0
IsTimelineBy timeline program known = (ps : List (List ℕ)) × IsTimelineOf timeline program (reverse ps) × ArePacketsOf ps known

-- likewise, and the network is that of the end that was named
abbrev pub IsTimelineAt : {F : Type 0} → (List ℕ → F → Metadata → Type 0) → (F → Option (List ℕ)) → End → Option (List ℕ)
    → Timeline → ℕ → Option Metadata → Type 0
IsTimelineAt {F = F} reads remaining network standard timeline program about =
    (file : Option F) × IsOpened reads network file about × IsTimelineBy timeline program (known_from remaining file standard)

-- ---- the script

-- the script of these requests stands in the file that the options name, which was made beside the inputs
abbrev pub IsScriptWritten : {F : Type 0} → (List ℕ → List (Option Metadata) → F → Type 0) → (F → Option (List ℕ)) → PlanOptions → Inputs
    → List PlacedRequest → Type 0
IsScriptWritten {F = F} makes contents options inputs requests = (file later : F)
    × IsMade makes options.script (inputs.network ∷ inputs.breaks ∷ inputs.adverts ∷ []) file
    × Appends (contents file) (contents later) (script_text (lines_of options.index 0 requests))

-- ---- the plan

-- a plan is made for this timeline, library and index
pub record IsSettingOf (s : Setting) (timeline : Timeline) (program : ℕ) (library : AdLibrary Global) (index : ℕ) : Type 0 where
  pub pictures_are : s.pictures.now ≡ timeline.pictures.items
  pub marks_are : s.marks.now ≡ timeline.marks.items
  pub streams_are : (past : List (List ℕ)) → IsTimelineOf timeline program past → s.streams.now ≡ streams_of_program (program_of (Some program) past)
  pub first_is : timeline.first ≡ Some s.first
  pub library_is : s.library.now ≡ library
  pub index_is : s.index ≡ index

-- THE SCRIPT IS THAT OF A PLAN for this timeline, library and list (break_plans), with the program and the index of the options
abbrev pub PlansFor : {F : Type 0} → (List ℕ → List (Option Metadata) → F → Type 0) → (F → Option (List ℕ)) → PlanOptions → Inputs
    → Timeline → AdLibrary Global → List NumberedLine → Type 0
PlansFor makes contents options inputs timeline library list = (s : Setting) × (planned : Plan)
    × IsSettingOf s timeline options.program library options.index × IsPlan s list planned
    × IsScriptWritten makes contents options inputs planned.requests.items

-- IT WENT THROUGH between the ends that the options name: the list of breaks is read first, then that of the advertisements with their
-- streams, then the network. What one of them leaves of standard input the next one reads, where it is no file.
pub record PlansBetween {F : Type 0} (reads : List ℕ → F → Metadata → Type 0) (makes : List ℕ → List (Option Metadata) → F → Type 0)
    (remaining contents : F → Option (List ℕ)) (options : PlanOptions) (standard : Option (List ℕ)) : Type 0 where
  pub list : List NumberedLine
  pub library : AdLibrary Global
  pub timeline : Timeline
  pub inputs : Inputs
  pub behind : Option (List ℕ)
  pub left : Option (List ℕ)
  pub breaks : AreBreaksAt reads remaining options.breaks standard list inputs.breaks
  pub unlisted : IsSome (path_of options.breaks) → behind ≡ standard
  pub adverts : IsLibraryAt reads remaining options.adverts behind library inputs.adverts
  pub unread : IsSome (path_of options.adverts) → left ≡ behind
  pub network : IsTimelineAt reads remaining options.network left timeline options.program inputs.network
  pub plans : PlansFor makes contents options inputs timeline library list
