-- What the commands do, by the bytes of the ends that their options name: THE THEOREMS of whole runs of the program. `reads` says of a path, a
-- file and its description that it was opened so, `makes` of a path, the descriptions of other files and a file that it was made so; `remaining`
-- and `contents` are the bytes of files, where they are known, and `printed` those of the stream where replies are printed.
use Rattle.std.specs.Prelude.{ℕ, List, [], ◌∷◌, ◌++◌, Option, None, Some}
use Rattle.std.specs.Io.KnownBytes.{Appends}
use Rattle.std.specs.declared.fs.attrs.Metadata.{Metadata}
use Rattle.ts_packet.specs.Sinks.{Written}
use Rattle.ad_library.specs.Library.{held}
use Rattle.splice_plans.specs.declared.report.SwitchReport.{SwitchReport}
use Rattle.chain_engine.specs.declared.report.Report.{Report}
use Rattle.chain_services.specs.Runs.{terms_by}
use Rattle.chain_services.specs.declared.report.ServiceEvents.{ServiceEvents}
use Rattle.chain_services.specs.declared.report.ServiceReport.{ServiceReport}
use Rattle.report_texts.specs.Lines.{message_lines, switch_lines, service_lines, report_lines, air_lines}
use Rattle.report_texts.specs.declared.lines.AirCounts.{AirCounts}
use Rattle.command_lines.specs.declared.inject_options.InjectOptions.{InjectOptions}
use Rattle.command_lines.specs.declared.services_options.ServicesOptions.{ServicesOptions}
use Rattle.command_lines.specs.declared.splice_options.SpliceOptions.{SpliceOptions}
use Rattle.passages.specs.Runs.{PassesAll, Splices}
use Rattle.passages.specs.AirRuns.{AirSplices}
use Rattle.passages.specs.Stops.{SplicingStops, StopsAtDevice}
use Rattle.passages.specs.declared.fault.ProgramFault.{ProgramFault}
use Rattle.dpi_program.specs.Runs.{known_from, InjectsAndPrints, ServesAndPrints}
use Rattle.dpi_program.specs.Runs.{PassesOnAir, InjectsOnAirAndPrints, ServesOnAirAndPrints}
use Rattle.dpi_program.specs.Ends.{IsMade}
use Rattle.dpi_program.specs.Inputs.{AreSpliceInputs, AreInjectInputs, AreServiceInputs}
use Rattle.dpi_program.specs.declared.splicing.SpliceInputs.{SpliceInputs}
use Rattle.dpi_program.specs.declared.splicing.Spliced.{Spliced}
use Rattle.dpi_program.specs.declared.injecting.Injected.{Injected}
use Rattle.dpi_program.specs.declared.serving.Served.{Served}
use Rattle.dpi_program.specs.declared.injecting.InjectInputs.{InjectInputs}
use Rattle.dpi_program.specs.declared.serving.ServiceInputs.{ServiceInputs}

-- ---- `splice`, off air

-- this is said of what was opened, and of the bytes of the network, where they are known
abbrev pub OfSpliceInputs : {F : Type 0} → (List ℕ → F → Metadata → Type 0) → (F → Option (List ℕ)) → SpliceOptions → Option (List ℕ)
    → (SpliceInputs F → Option (List ℕ) → Type 0) → Type 0
OfSpliceInputs {F = F} reads remaining options standard said = (opened : SpliceInputs F) × (left : Option (List ℕ))
    × AreSpliceInputs reads remaining options standard left opened × said opened (known_from remaining opened.network.file left)

-- IT WENT THROUGH between the network and the list that the options name, and an output: with the program and the cue PID of the options and the
-- advertisements of that list these packets are out, and this is the report
abbrev pub SplicesBetween : {F : Type 0} → (List ℕ → F → Metadata → Type 0) → (F → Option (List ℕ)) → SpliceOptions → Option (List ℕ)
    → (List (List ℕ) → Type 0) → SwitchReport → Type 0
SplicesBetween reads remaining options standard is_out report = OfSpliceInputs reads remaining options standard
    (λ opened known. PassesAll (Splices options.config (held opened.library)) known is_out report)

-- likewise, and the output is the file that the options name, which was made beside the files of the network, of the list and of the log
abbrev pub SplicesToFile : {F : Type 0} → (List ℕ → F → Metadata → Type 0) → (List ℕ → List (Option Metadata) → F → Type 0)
    → (F → Option (List ℕ)) → (F → Option (List ℕ)) → SpliceOptions → Option (List ℕ) → SwitchReport → Type 0
SplicesToFile {F = F} reads makes remaining contents options standard report = (file later : F) × OfSpliceInputs reads remaining options standard
    (λ opened known. ((log : Option Metadata) × IsMade makes options.output (opened.network.about ∷ opened.list ∷ log ∷ []) file)
    × PassesAll (Splices options.config (held opened.library)) known (Written (contents later) (contents file)) report)

-- IT STOPPED, and its output was flushed: what is out is by what the fault says
abbrev pub SpliceStopsBetween : {F : Type 0} → (List ℕ → F → Metadata → Type 0) → (F → Option (List ℕ)) → SpliceOptions → Option (List ℕ)
    → Option (List ℕ) → Option (List ℕ) → ProgramFault → Type 0
SpliceStopsBetween reads remaining options standard start now fault = OfSpliceInputs reads remaining options standard
    (λ opened known. StopsAtDevice (SplicingStops options.config (held opened.library) fault) known start now)

-- ---- `inject` and `run`, off air

-- this is said of what was opened, and of the bytes of the network, where they are known
abbrev pub OfInjectInputs : {F W : Type 0} (L : Type 0) → (List ℕ → F → Metadata → Type 0) → (F → Option (List ℕ)) → InjectOptions → Option (List ℕ)
    → (InjectInputs F W L → Option (List ℕ) → Type 0) → Type 0
OfInjectInputs {F = F} {W = W} L reads remaining options standard said = (opened : InjectInputs F W L) × (left : Option (List ℕ))
    × AreInjectInputs reads remaining options standard left opened × said opened (known_from remaining opened.network.file left)

-- IT WENT THROUGH between the ends that the options name: with the program, the cue PID and the index of the options, the messages of
-- that script or port and the advertisements of that list, where one is named, this is out, answered and counted
abbrev pub InjectsBetween : {F W : Type 0} → Type 0 → (List ℕ → F → Metadata → Type 0) → (F → Option (List ℕ)) → (W → Option (List ℕ))
    → InjectOptions → Option (List ℕ) → (List (List ℕ) → Type 0) → Report → Type 0
InjectsBetween {W = W} L reads remaining printed options standard is_out report = OfInjectInputs {W = W} L reads remaining options standard
    (λ opened known. InjectsAndPrints options.config opened.library known is_out printed opened.asker report)

-- likewise, and the output is the file that the options name, which was made beside the others
abbrev pub InjectsToFile : {F W : Type 0} → Type 0 → (List ℕ → F → Metadata → Type 0) → (List ℕ → List (Option Metadata) → F → Type 0)
    → (F → Option (List ℕ)) → (F → Option (List ℕ)) → (W → Option (List ℕ)) → InjectOptions → Option (List ℕ) → Report → Type 0
InjectsToFile {F = F} {W = W} L reads makes remaining contents printed options standard report = (file later : F)
    × OfInjectInputs {W = W} L reads remaining options standard (λ opened known.
    ((log : Option Metadata) × IsMade makes options.output (opened.network.about ∷ opened.script ∷ opened.list ∷ log ∷ []) file)
    × InjectsAndPrints options.config opened.library known (Written (contents later) (contents file)) printed opened.asker report)

-- ---- `services`, off air

-- this is said of what was opened, and of the bytes of the network, where they are known
abbrev pub OfServiceInputs : {F W : Type 0} (L : Type 0) → (List ℕ → F → Metadata → Type 0) → (F → Option (List ℕ)) → ServicesOptions
    → Option (List ℕ) → (ServiceInputs F W L → Option (List ℕ) → Type 0) → Type 0
OfServiceInputs {F = F} {W = W} L reads remaining options standard said = (opened : ServiceInputs F W L) × (left : Option (List ℕ))
    × AreServiceInputs reads remaining options standard left opened × said opened (known_from remaining opened.network.file left)

-- IT WENT THROUGH between the ends that the options name: with the services and the advertisements of that list and the messages
-- of that script or port this is out, answered and counted
abbrev pub ServesBetween : {F W : Type 0} → Type 0 → (List ℕ → F → Metadata → Type 0) → (F → Option (List ℕ)) → (W → Option (List ℕ))
    → ServicesOptions → Option (List ℕ) → (List (List ℕ) → Type 0) → ServiceReport → Type 0
ServesBetween {W = W} L reads remaining printed options standard is_out report = OfServiceInputs {W = W} L reads remaining options standard
    (λ opened known. ServesAndPrints (terms_by opened.list.configs.items opened.list.libraries.items) known is_out printed opened.asker report)

-- likewise, and the output is the file that the options name, which was made beside the others
abbrev pub ServesToFile : {F W : Type 0} → Type 0 → (List ℕ → F → Metadata → Type 0) → (List ℕ → List (Option Metadata) → F → Type 0)
    → (F → Option (List ℕ)) → (F → Option (List ℕ)) → (W → Option (List ℕ)) → ServicesOptions → Option (List ℕ) → ServiceReport → Type 0
ServesToFile {F = F} {W = W} L reads makes remaining contents printed options standard report = (file later : F)
    × OfServiceInputs {W = W} L reads remaining options standard (λ opened known.
    ((log : Option Metadata) × IsMade makes options.output (opened.network.about ∷ opened.script ∷ opened.listed ∷ log ∷ []) file)
    × ServesAndPrints (terms_by opened.list.configs.items opened.list.libraries.items) known (Written (contents later) (contents file)) printed
    opened.asker report)

-- ---- on air: whatever is wrong with the network

-- `splice` went through between the ends that the options name, likewise
abbrev pub SplicesOnAirBetween : {F : Type 0} → (List ℕ → F → Metadata → Type 0) → (F → Option (List ℕ)) → SpliceOptions → Option (List ℕ)
    → (List (List ℕ) → Type 0) → SwitchReport → Option AirCounts → Type 0
SplicesOnAirBetween reads remaining options standard is_out report air = OfSpliceInputs reads remaining options standard
    (λ opened known. PassesOnAir (AirSplices options.config (held opened.library)) known is_out report air)

abbrev pub SplicesOnAirToFile : {F : Type 0} → (List ℕ → F → Metadata → Type 0) → (List ℕ → List (Option Metadata) → F → Type 0)
    → (F → Option (List ℕ)) → (F → Option (List ℕ)) → SpliceOptions → Option (List ℕ) → SwitchReport → Option AirCounts → Type 0
SplicesOnAirToFile {F = F} reads makes remaining contents options standard report air = (file later : F)
    × OfSpliceInputs reads remaining options standard
    (λ opened known. ((log : Option Metadata) × IsMade makes options.output (opened.network.about ∷ opened.list ∷ log ∷ []) file)
    × PassesOnAir (AirSplices options.config (held opened.library)) known (Written (contents later) (contents file)) report air)

-- `inject` and `run` did, with the messages of that script or port
abbrev pub InjectsOnAirBetween : {F W : Type 0} → Type 0 → (List ℕ → F → Metadata → Type 0) → (F → Option (List ℕ)) → (W → Option (List ℕ)) → InjectOptions
    → Option (List ℕ) → (List (List ℕ) → Type 0) → Report → Option AirCounts → Type 0
InjectsOnAirBetween {W = W} L reads remaining printed options standard is_out report air = OfInjectInputs {W = W} L reads remaining options standard
    (λ opened known. InjectsOnAirAndPrints options.config opened.library known is_out printed opened.asker report air)

abbrev pub InjectsOnAirToFile : {F W : Type 0} → Type 0 → (List ℕ → F → Metadata → Type 0) → (List ℕ → List (Option Metadata) → F → Type 0)
    → (F → Option (List ℕ)) → (F → Option (List ℕ)) → (W → Option (List ℕ)) → InjectOptions → Option (List ℕ) → Report → Option AirCounts → Type 0
InjectsOnAirToFile {F = F} {W = W} L reads makes remaining contents printed options standard report air = (file later : F)
    × OfInjectInputs {W = W} L reads remaining options standard (λ opened known.
    ((log : Option Metadata) × IsMade makes options.output (opened.network.about ∷ opened.script ∷ opened.list ∷ log ∷ []) file)
    × InjectsOnAirAndPrints options.config opened.library known (Written (contents later) (contents file)) printed opened.asker report air)

-- `services` did, with the services and the advertisements of that list
abbrev pub ServesOnAirBetween : {F W : Type 0} → Type 0 → (List ℕ → F → Metadata → Type 0) → (F → Option (List ℕ)) → (W → Option (List ℕ)) → ServicesOptions
    → Option (List ℕ) → (List (List ℕ) → Type 0) → ServiceReport → Option AirCounts → Type 0
ServesOnAirBetween {W = W} L reads remaining printed options standard is_out report air = OfServiceInputs {W = W} L reads remaining options standard
    (λ opened known. ServesOnAirAndPrints (terms_by opened.list.configs.items opened.list.libraries.items) known is_out printed opened.asker
    report air)

abbrev pub ServesOnAirToFile : {F W : Type 0} → Type 0 → (List ℕ → F → Metadata → Type 0) → (List ℕ → List (Option Metadata) → F → Type 0)
    → (F → Option (List ℕ)) → (F → Option (List ℕ)) → (W → Option (List ℕ)) → ServicesOptions → Option (List ℕ) → ServiceReport → Option AirCounts → Type 0
ServesOnAirToFile {F = F} {W = W} L reads makes remaining contents printed options standard report air = (file later : F)
    × OfServiceInputs {W = W} L reads remaining options standard (λ opened known.
    ((log : Option Metadata) × IsMade makes options.output (opened.network.about ∷ opened.script ∷ opened.listed ∷ log ∷ []) file)
    × ServesOnAirAndPrints (terms_by opened.list.configs.items opened.list.libraries.items) known
    (Written (contents later) (contents file)) printed opened.asker report air)

-- ---- what was printed

-- the stream was given these bytes at some time
abbrev pub IsPrinted : {W : Type 0} → (W → Option (List ℕ)) → List ℕ → Type 0
IsPrinted {W = W} contents text = (before after : W) × Appends (contents before) (contents after) text

-- these are the last that it was given
abbrev pub IsPrintedLast : {W : Type 0} → (W → Option (List ℕ)) → W → List ℕ → Type 0
IsPrintedLast {W = W} contents now text = (before : W) × Appends (contents before) (contents now) text

-- the lines of a report, and behind them those of a run on air
abbrev pub with_air : List ℕ → Option AirCounts → List ℕ
with_air lines None = lines
with_air lines (Some counts) = lines ++ air_lines counts

-- the lines of the services, in their order
abbrev pub services_lines : List ServiceEvents → List ℕ
services_lines [] = []
services_lines (events ∷ more) = service_lines events.program events.switch ++ services_lines more

-- of `splice`, of `inject` and `run`, and of `services`
abbrev pub spliced_lines : Spliced → List ℕ
spliced_lines spliced = with_air (switch_lines spliced.report) spliced.air

abbrev pub injected_lines : Injected → List ℕ
injected_lines injected = with_air (report_lines injected.plays injected.report) injected.air

abbrev pub report_lines_of_services : ServiceReport → List ℕ
report_lines_of_services report = message_lines report.messages report.accepted report.refused ++ services_lines report.services.items

abbrev pub served_lines : Served → List ℕ
served_lines served = with_air (report_lines_of_services served.report) served.air
