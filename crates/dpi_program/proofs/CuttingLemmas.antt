-- Cuts that stopped, by the forms of their ends.
use Rattle.std.proofs.Common.{◌≡◌, ℕ, List, Option, refl}
use Rattle.packet_lines.specs.declared.lines.LinesFault.TheVariants.{BadLine, Cut}
use Rattle.run_ends.specs.declared.ends.End.{End}
use Rattle.run_ends.specs.declared.ends.End.TheVariants as end
use Rattle.unit_cut.specs.Runs.{Stops}
use Rattle.unit_cut.specs.declared.run.CutFault.{CutFault}
use Rattle.command_lines.specs.declared.command.CutOptions.{CutOptions}
use Rattle.passages.specs.Stops.{CutStops, OfCut, StopsAtDevice, StopsInLines}
use Rattle.passages.specs.declared.fault.ProgramFault.{ProgramFault}
use Rattle.passages.specs.declared.fault.ProgramFault.TheVariants as program
use Rattle.dpi_program.specs.Cutting.{StopsAt, told_of_bytes, told_of_lines, IsToldOfLines, CutStopsAsAsked}

-- what a fault of a cut says is said of one
pub of_cut : (told : ProgramFault) (said : CutFault → Type 0) → OfCut told said → (fault : CutFault) × (told ≡ told_of_bytes fault) × said fault
of_cut (program.Lines BadLine) said h = absurd h
of_cut (program.Lines (Cut fault)) said h = (fault, refl, h)
of_cut (program.Run fault) said h = absurd h
of_cut (program.Script fault) said h = absurd h
of_cut (program.List fault) said h = absurd h
of_cut (program.Services fault) said h = absurd h
of_cut program.Accept said h = absurd h
of_cut program.Print said h = absurd h
of_cut program.Log said h = absurd h
of_cut program.Unflushed said h = absurd h
of_cut program.File said h = absurd h
of_cut program.OutOfMemory said h = absurd h

-- and so of a cut that stopped at an output of any form
stops_at : (output : End) (pid from length : ℕ) (input start now : Option (List ℕ)) (told : ProgramFault)
    → StopsAt output (CutStops pid from length told) input start now
    → (fault : CutFault) × (told ≡ told_of_bytes fault) × StopsAt output (Stops fault pid from length) input start now
stops_at end.Lines pid from length input start now told h = of_cut told (λ f. StopsInLines (Stops f pid from length) input start now) h
stops_at end.Standard pid from length input start now told h = of_cut told (λ f. StopsAtDevice (Stops f pid from length) input start now) h
stops_at (end.File path) pid from length input start now told h = of_cut told (λ f. StopsAtDevice (Stops f pid from length) input start now) h

pub stops_as_asked : (options : CutOptions) (input start now : Option (List ℕ)) (told : ProgramFault)
    → StopsAt options.output (CutStops options.pid options.from options.length told) input start now
    → CutStopsAsAsked told_of_bytes options input start now told
stops_as_asked options input start now told h = stops_at options.output options.pid options.from options.length input start now told h

-- likewise over lines, by what is told there
pub stops_over_lines : (options : CutOptions) (input start now : Option (List ℕ)) (first told : ProgramFault) → IsToldOfLines first told
    → CutStopsAsAsked told_of_bytes options input start now first → CutStopsAsAsked told_of_lines options input start now told
stops_over_lines options input start now first told lines (fault, is, h) = (fault, lines fault is, h)
