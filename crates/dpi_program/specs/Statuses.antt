-- What status 0 of a command says.
use Rattle.std.specs.Prelude.{ℕ, List, Option, is_some}
use Rattle.std.specs.declared.fs.attrs.Metadata.{Metadata}
use Rattle.ts_packet.specs.Sinks.{Written}
use Rattle.splice_plans.specs.declared.report.SwitchReport.{SwitchReport}
use Rattle.chain_engine.specs.declared.report.Report.{Report}
use Rattle.chain_services.specs.declared.report.ServiceReport.{ServiceReport}
use Rattle.report_texts.specs.Lines.{switch_lines, report_lines}
use Rattle.command_lines.specs.declared.inject_options.InjectOptions.{InjectOptions}
use Rattle.command_lines.specs.declared.services_options.ServicesOptions.{ServicesOptions}
use Rattle.command_lines.specs.declared.splice_options.SpliceOptions.{SpliceOptions}
use Rattle.dpi_program.specs.Commands.{SplicesBetween, SplicesToFile, InjectsBetween, InjectsToFile, ServesBetween, ServesToFile}
use Rattle.dpi_program.specs.Commands.{IsPrinted, IsPrintedLast, with_air, report_lines_of_services}
use Rattle.dpi_program.specs.Commands.{SplicesOnAirBetween, SplicesOnAirToFile, InjectsOnAirBetween, InjectsOnAirToFile}
use Rattle.dpi_program.specs.Commands.{ServesOnAirBetween, ServesOnAirToFile}
use Rattle.report_texts.specs.declared.lines.AirCounts.{AirCounts}

-- ---- off air: the packets went to standard output, and the lines of their report to standard error; or the packets went to the file that the
-- options name, and the lines, last, to standard output. `out` and `faults` are the bytes of these two streams, where they are known.

abbrev pub SplicesToStandardStream : {F O E : Type 0} → (List ℕ → F → Metadata → Type 0) → (F → Option (List ℕ)) → (O → Option (List ℕ))
    → (E → Option (List ℕ)) → SpliceOptions → Option (List ℕ) → O → O → Type 0
SplicesToStandardStream reads remaining out faults options standard old new = (report : SwitchReport)
    × SplicesBetween reads remaining options standard (Written (out new) (out old)) report × IsPrinted faults (switch_lines report)

abbrev pub SplicesToNamedFile : {F O : Type 0} → (List ℕ → F → Metadata → Type 0) → (List ℕ → List (Option Metadata) → F → Type 0)
    → (F → Option (List ℕ)) → (F → Option (List ℕ)) → (O → Option (List ℕ)) → SpliceOptions → Option (List ℕ) → O → Type 0
SplicesToNamedFile reads makes remaining contents out options standard now = (report : SwitchReport)
    × SplicesToFile reads makes remaining contents options standard report × IsPrintedLast out now (switch_lines report)

abbrev pub InjectsToStandardStream : {F W O E : Type 0} → Type 0 → (List ℕ → F → Metadata → Type 0) → (F → Option (List ℕ))
    → (W → Option (List ℕ)) → (O → Option (List ℕ)) → (E → Option (List ℕ)) → InjectOptions → Option (List ℕ) → O → O → Type 0
InjectsToStandardStream L reads remaining printed out faults options standard old new = (report : Report)
    × InjectsBetween L reads remaining printed options standard (Written (out new) (out old)) report
    × IsPrinted faults (report_lines (is_some options.adverts) report)

abbrev pub InjectsToNamedFile : {F W O : Type 0} → Type 0 → (List ℕ → F → Metadata → Type 0) → (List ℕ → List (Option Metadata) → F → Type 0)
    → (F → Option (List ℕ)) → (F → Option (List ℕ)) → (W → Option (List ℕ)) → (O → Option (List ℕ)) → InjectOptions → Option (List ℕ) → O
    → Type 0
InjectsToNamedFile L reads makes remaining contents printed out options standard now = (report : Report)
    × InjectsToFile L reads makes remaining contents printed options standard report
    × IsPrintedLast out now (report_lines (is_some options.adverts) report)

abbrev pub ServesToStandardStream : {F W O E : Type 0} → Type 0 → (List ℕ → F → Metadata → Type 0) → (F → Option (List ℕ))
    → (W → Option (List ℕ)) → (O → Option (List ℕ)) → (E → Option (List ℕ)) → ServicesOptions → Option (List ℕ) → O → O → Type 0
ServesToStandardStream L reads remaining printed out faults options standard old new = (report : ServiceReport)
    × ServesBetween L reads remaining printed options standard (Written (out new) (out old)) report
    × IsPrinted faults (report_lines_of_services report)

abbrev pub ServesToNamedFile : {F W O : Type 0} → Type 0 → (List ℕ → F → Metadata → Type 0) → (List ℕ → List (Option Metadata) → F → Type 0)
    → (F → Option (List ℕ)) → (F → Option (List ℕ)) → (W → Option (List ℕ)) → (O → Option (List ℕ)) → ServicesOptions → Option (List ℕ) → O
    → Type 0
ServesToNamedFile L reads makes remaining contents printed out options standard now = (report : ServiceReport)
    × ServesToFile L reads makes remaining contents printed options standard report
    × IsPrintedLast out now (report_lines_of_services report)

-- ---- on air, likewise, and behind the lines of the report stand those of the counts of a run on air

abbrev pub SplicesOnAirToStandardStream : {F O E : Type 0} → (List ℕ → F → Metadata → Type 0) → (F → Option (List ℕ)) → (O → Option (List ℕ))
    → (E → Option (List ℕ)) → SpliceOptions → Option (List ℕ) → O → O → Type 0
SplicesOnAirToStandardStream reads remaining out faults options standard old new = (report : SwitchReport) × (air : Option AirCounts)
    × SplicesOnAirBetween reads remaining options standard (Written (out new) (out old)) report air
    × IsPrinted faults (with_air (switch_lines report) air)

abbrev pub SplicesOnAirToNamedFile : {F O : Type 0} → (List ℕ → F → Metadata → Type 0) → (List ℕ → List (Option Metadata) → F → Type 0)
    → (F → Option (List ℕ)) → (F → Option (List ℕ)) → (O → Option (List ℕ)) → SpliceOptions → Option (List ℕ) → O → Type 0
SplicesOnAirToNamedFile reads makes remaining contents out options standard now = (report : SwitchReport) × (air : Option AirCounts)
    × SplicesOnAirToFile reads makes remaining contents options standard report air
    × IsPrintedLast out now (with_air (switch_lines report) air)

abbrev pub InjectsOnAirToStandardStream : {F W O E : Type 0} → Type 0 → (List ℕ → F → Metadata → Type 0) → (F → Option (List ℕ))
    → (W → Option (List ℕ)) → (O → Option (List ℕ)) → (E → Option (List ℕ)) → InjectOptions → Option (List ℕ) → O → O → Type 0
InjectsOnAirToStandardStream L reads remaining printed out faults options standard old new = (report : Report) × (air : Option AirCounts)
    × InjectsOnAirBetween L reads remaining printed options standard (Written (out new) (out old)) report air
    × IsPrinted faults (with_air (report_lines (is_some options.adverts) report) air)

abbrev pub InjectsOnAirToNamedFile : {F W O : Type 0} → Type 0 → (List ℕ → F → Metadata → Type 0)
    → (List ℕ → List (Option Metadata) → F → Type 0) → (F → Option (List ℕ)) → (F → Option (List ℕ)) → (W → Option (List ℕ))
    → (O → Option (List ℕ)) → InjectOptions → Option (List ℕ) → O → Type 0
InjectsOnAirToNamedFile L reads makes remaining contents printed out options standard now = (report : Report) × (air : Option AirCounts)
    × InjectsOnAirToFile L reads makes remaining contents printed options standard report air
    × IsPrintedLast out now (with_air (report_lines (is_some options.adverts) report) air)

abbrev pub ServesOnAirToStandardStream : {F W O E : Type 0} → Type 0 → (List ℕ → F → Metadata → Type 0) → (F → Option (List ℕ))
    → (W → Option (List ℕ)) → (O → Option (List ℕ)) → (E → Option (List ℕ)) → ServicesOptions → Option (List ℕ) → O → O → Type 0
ServesOnAirToStandardStream L reads remaining printed out faults options standard old new = (report : ServiceReport) × (air : Option AirCounts)
    × ServesOnAirBetween L reads remaining printed options standard (Written (out new) (out old)) report air
    × IsPrinted faults (with_air (report_lines_of_services report) air)

abbrev pub ServesOnAirToNamedFile : {F W O : Type 0} → Type 0 → (List ℕ → F → Metadata → Type 0)
    → (List ℕ → List (Option Metadata) → F → Type 0) → (F → Option (List ℕ)) → (F → Option (List ℕ)) → (W → Option (List ℕ))
    → (O → Option (List ℕ)) → ServicesOptions → Option (List ℕ) → O → Type 0
ServesOnAirToNamedFile L reads makes remaining contents printed out options standard now = (report : ServiceReport) × (air : Option AirCounts)
    × ServesOnAirToFile L reads makes remaining contents printed options standard report air
    × IsPrintedLast out now (with_air (report_lines_of_services report) air)
