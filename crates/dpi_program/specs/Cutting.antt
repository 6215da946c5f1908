-- What `cut` does, by the bytes of the ends that its options name: THE THEOREM of its whole run. `reads` says of a path, a file and its
-- description that it was opened so, `makes` of a path, the descriptions of other files and a file that it was made so; `remaining` and
-- `contents` are the bytes of files, where they are known, and `standard` are those of standard input.
use Rattle.std.specs.Prelude.{◌≡◌, ℕ, List, [], ◌∷◌, Option, option_map}
use Rattle.std.specs.declared.fs.attrs.Metadata.{Metadata}
use Rattle.ts_packet.specs.Sinks.{Written}
use Rattle.ts_packet.specs.declared.reader.ReadFault.TheVariants as read_faults
use Rattle.packet_runs.specs.Devices.{OfPackets, OfPut, OfSending}
use Rattle.unit_cut.specs.Runs.{CutsAll, Stops}
use Rattle.unit_cut.specs.declared.run.CutFault.{CutFault}
use Rattle.unit_cut.specs.declared.run.CutFault.TheVariants.{Read}
use Rattle.packet_lines.specs.Texts.{bytes_told, WrittenLines}
use Rattle.packet_lines.specs.declared.lines.LinesFault.TheVariants.{BadLine, Cut}
use Rattle.run_ends.specs.declared.ends.End.{End}
use Rattle.run_ends.specs.declared.ends.End.TheVariants as end
use Rattle.command_lines.specs.declared.command.CutOptions.{CutOptions}
use Rattle.passages.specs.Stops.{StopsAtDevice, StopsInLines}
use Rattle.passages.specs.declared.fault.ProgramFault.{ProgramFault}
use Rattle.passages.specs.declared.fault.ProgramFault.TheVariants.{Lines}
use Rattle.dpi_program.specs.Runs.{known_from}
use Rattle.dpi_program.specs.Ends.{IsOpened, IsMade}

-- ---- the forms of the ends: lines of digits where the option is not given, else bytes

-- the bytes of the packets that an input of this form tells
abbrev pub packet_bytes : End → Option (List ℕ) → Option (List ℕ)
packet_bytes end.Lines known = option_map bytes_told known
packet_bytes end.Standard known = known
packet_bytes (end.File path) known = known

-- behind what an output of this form held stand these packets: their lines, or their bytes
abbrev pub HasPut : End → Option (List ℕ) → Option (List ℕ) → List (List ℕ) → Type 0
HasPut end.Lines start now = WrittenLines now start
HasPut end.Standard start now = Written now start
HasPut (end.File path) start now = Written now start

-- likewise what stands behind it where a run stopped that was flushed
abbrev pub StopsAt : End → (Option (List ℕ) → OfPackets → OfPut → OfSending → Type 0) → Option (List ℕ) → Option (List ℕ) → Option (List ℕ) → Type 0
StopsAt end.Lines = StopsInLines
StopsAt end.Standard = StopsAtDevice
StopsAt (end.File path) = StopsAtDevice

-- ---- what is told of a fault of the cut

-- over bytes
abbrev pub told_of_bytes : CutFault → ProgramFault
told_of_bytes fault = Lines (Cut fault)

-- over lines: that their bytes end in the middle of a packet is a line that is no packet's
abbrev pub told_of_lines : CutFault → ProgramFault
told_of_lines (Read read_faults.Truncated) = Lines BadLine
told_of_lines fault = Lines (Cut fault)

-- where what was told of the cut of the packets is this, that is told over lines
abbrev pub IsToldOfLines : ProgramFault → ProgramFault → Type 0
IsToldOfLines first told = (fault : CutFault) → first ≡ told_of_bytes fault → told ≡ told_of_lines fault

-- by the form of the input
abbrev pub told_of_cut : End → CutFault → ProgramFault
told_of_cut end.Lines = told_of_lines
told_of_cut end.Standard = told_of_bytes
told_of_cut (end.File path) = told_of_bytes

-- ---- a cut by the PID, the start and the length of the options, to an output that held these bytes first and holds those now

-- IT WENT THROUGH over packets of these bytes: they have no fault, and behind what the output held stands their cut
abbrev pub CutsAsAsked : CutOptions → Option (List ℕ) → Option (List ℕ) → Option (List ℕ) → Type 0
CutsAsAsked options input start now = CutsAll options.pid options.from options.length input (HasPut options.output start now)

-- IT STOPPED, and its output was flushed: this is told of a fault of the cut, and what is out is by what the fault says
abbrev pub CutStopsAsAsked : (CutFault → ProgramFault) → CutOptions → Option (List ℕ) → Option (List ℕ) → Option (List ℕ) → ProgramFault → Type 0
CutStopsAsAsked told_of options input start now told = (fault : CutFault) × (told ≡ told_of fault)
    × StopsAt options.output (Stops fault options.pid options.from options.length) input start now

-- likewise over an input of these bytes, in the form that the options name for it
abbrev pub CutsOver : CutOptions → Option (List ℕ) → Option (List ℕ) → Option (List ℕ) → Type 0
CutsOver options input start now = CutsAsAsked options (packet_bytes options.input input) start now

abbrev pub CutStopsOver : CutOptions → Option (List ℕ) → Option (List ℕ) → Option (List ℕ) → ProgramFault → Type 0
CutStopsOver options input start now told = CutStopsAsAsked (told_of_cut options.input) options (packet_bytes options.input input) start now told

-- ---- between the ends that the options name

-- this is said of the bytes of the input, where they are known: it was opened by the path that the options name, or is standard input
abbrev pub OfCutInput : {F : Type 0} → (List ℕ → F → Metadata → Type 0) → (F → Option (List ℕ)) → CutOptions → Option (List ℕ)
    → (Option Metadata → Option (List ℕ) → Type 0) → Type 0
OfCutInput {F = F} reads remaining options standard said = (file : Option F) × (about : Option Metadata)
    × IsOpened reads options.input file about × said about (known_from remaining file standard)

-- IT WENT THROUGH to an output that held these bytes first and holds those now
abbrev pub CutsBetween : {F : Type 0} → (List ℕ → F → Metadata → Type 0) → (F → Option (List ℕ)) → CutOptions → Option (List ℕ)
    → Option (List ℕ) → Option (List ℕ) → Type 0
CutsBetween reads remaining options standard start now = OfCutInput reads remaining options standard (λ about input. CutsOver options input start now)

-- likewise to the file that the options name, which was made beside that of the input
abbrev pub CutsToFile : {F : Type 0} → (List ℕ → F → Metadata → Type 0) → (List ℕ → List (Option Metadata) → F → Type 0)
    → (F → Option (List ℕ)) → (F → Option (List ℕ)) → CutOptions → Option (List ℕ) → Type 0
CutsToFile {F = F} reads makes remaining contents options standard = (file later : F) × OfCutInput reads remaining options standard
    (λ about input. IsMade makes options.output (about ∷ []) file × CutsOver options input (contents file) (contents later))

-- IT STOPPED, and its output was flushed
abbrev pub CutStopsBetween : {F : Type 0} → (List ℕ → F → Metadata → Type 0) → (F → Option (List ℕ)) → CutOptions → Option (List ℕ)
    → Option (List ℕ) → Option (List ℕ) → ProgramFault → Type 0
CutStopsBetween reads remaining options standard start now told =
    OfCutInput reads remaining options standard (λ about input. CutStopsOver options input start now told)
