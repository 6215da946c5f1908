-- What a passage says that stopped, by its fault: of the network's bytes, and of the packets that are out.
use Rattle.std.specs.Prelude.{◌≡◌, ◌⊎◌, ℕ, List, [], Option}
use Rattle.ts_packet.specs.Sinks.{Written, FailsToWrite}
use Rattle.packet_runs.specs.Devices.{OfPackets, OfPut, OfSending}
use Rattle.unit_cut.specs.Runs.{Stops}
use Rattle.unit_cut.specs.declared.run.CutFault.{CutFault}
use Rattle.psi_tables.specs.declared.config.Config.{Config}
use Rattle.ad_library.specs.Advertisements.{Advertisement}
use Rattle.chain_engine.specs.Splices.{SpliceStops}
use Rattle.chain_engine.specs.declared.faults.RunFault.{RunFault}
use Rattle.packet_lines.specs.Texts.{WrittenLines, FailsToWriteLine}
use Rattle.packet_lines.specs.declared.lines.LinesFault.TheVariants.{BadLine, Cut}
use Rattle.passages.specs.declared.listening.ListenFault.{ListenFault}
use Rattle.passages.specs.declared.listening.ListenFault.TheVariants as listen
use Rattle.passages.specs.declared.fault.ProgramFault.{ProgramFault}
use Rattle.passages.specs.declared.fault.ProgramFault.TheVariants.{Lines, Run, Script, List as OfList, Services, Accept, Print, Log, File}
use Rattle.passages.specs.declared.fault.ProgramFault.TheVariants.{Unflushed, OutOfMemory}

-- ---- which faults a passage has

-- a fault of a cut, of which this is said, and no other
abbrev pub OfCut : ProgramFault → (CutFault → Type 0) → Type 0
OfCut (Lines BadLine) said = ⊥
OfCut (Lines (Cut fault)) said = said fault
OfCut (Run fault) said = ⊥
OfCut (Script fault) said = ⊥
OfCut (OfList fault) said = ⊥
OfCut (Services fault) said = ⊥
OfCut Accept said = ⊥
OfCut Print said = ⊥
OfCut Log said = ⊥
OfCut Unflushed said = ⊥
OfCut File said = ⊥
OfCut OutOfMemory said = ⊥

-- a fault of a run of the chain, of which this is said, and no other
abbrev pub OfRun : ProgramFault → (RunFault → Type 0) → Type 0
OfRun (Lines fault) said = ⊥
OfRun (Run fault) said = said fault
OfRun (Script fault) said = ⊥
OfRun (OfList fault) said = ⊥
OfRun (Services fault) said = ⊥
OfRun Accept said = ⊥
OfRun Print said = ⊥
OfRun Log said = ⊥
OfRun Unflushed said = ⊥
OfRun File said = ⊥
OfRun OutOfMemory said = ⊥

-- a fault of a run that an automation asks, of which this is said, or memory for it was refused, of which that is said; and no other
abbrev pub OfAsked : ProgramFault → (ListenFault → Type 0) → Type 0 → Type 0
OfAsked (Lines fault) said refused = ⊥
OfAsked (Run fault) said refused = said (listen.Run fault)
OfAsked (Script fault) said refused = ⊥
OfAsked (OfList fault) said refused = ⊥
OfAsked (Services fault) said refused = ⊥
OfAsked Accept said refused = said listen.Accept
OfAsked Print said refused = ⊥
OfAsked Log said refused = ⊥
OfAsked Unflushed said refused = ⊥
OfAsked File said refused = ⊥
OfAsked OutOfMemory said refused = refused

-- ---- what they say

-- `cut`
abbrev pub CutStops : ℕ → ℕ → ℕ → ProgramFault → Option (List ℕ) → OfPackets → OfPut → OfSending → Type 0
CutStops pid from length fault input is_out fails unsent = OfCut fault (λ f. Stops f pid from length input is_out fails unsent)

-- `splice`
abbrev pub SplicingStops : Config → (ℕ → Option Advertisement) → ProgramFault → Option (List ℕ) → OfPackets → OfPut → OfSending → Type 0
SplicingStops c filed fault input is_out fails unsent = OfRun fault (λ f. SpliceStops c filed f input is_out fails unsent)

-- `inject`, `run` and `services`, by what a fault of theirs says; nothing is out where memory was refused
abbrev pub AskedStops : (ListenFault → Option (List ℕ) → OfPackets → OfPut → OfSending → Type 0)
    → ProgramFault → Option (List ℕ) → OfPackets → OfPut → OfSending → Type 0
AskedStops stops fault input is_out fails unsent = OfAsked fault (λ f. stops f input is_out fails unsent) (is_out [])

-- ---- at a device

-- THE THEOREM of a run that stopped, and whose output was flushed: the fault says what the passage has it say, where of the device this was
-- known first, and that is now. So nothing that was put is lost in a buffer.
abbrev pub StopsAtDevice : (Option (List ℕ) → OfPackets → OfPut → OfSending → Type 0) → Option (List ℕ) → Option (List ℕ) → Option (List ℕ) → Type 0
StopsAtDevice stops input start now =
    stops input (Written now start) (λ ps p fault. FailsToWrite now start ps p) (λ ps fault. Written now start ps)

-- and of one to lines of digits
abbrev pub StopsInLines : (Option (List ℕ) → OfPackets → OfPut → OfSending → Type 0) → Option (List ℕ) → Option (List ℕ) → Option (List ℕ) → Type 0
StopsInLines stops input start now =
    stops input (WrittenLines now start) (λ ps p fault. FailsToWriteLine now start ps p) (λ ps fault. WrittenLines now start ps)

-- what a passage that stopped says of the network's bytes, whatever became of its packets
abbrev pub SaysOfInput : (Option (List ℕ) → OfPackets → OfPut → OfSending → Type 0) → Option (List ℕ) → Type 0
SaysOfInput stops input = stops input (λ ps. Unit {0}) (λ ps p fault. Unit {0}) (λ ps fault. Unit {0})

-- what the fault of a run says, also where its output could not be flushed behind it: memory was refused for a buffer, or the output could not be
-- flushed at the end; or it is the passage's, and true of the network's bytes
abbrev pub SaysOfRun : (ProgramFault → Option (List ℕ) → OfPackets → OfPut → OfSending → Type 0) → ProgramFault → Option (List ℕ) → Type 0
SaysOfRun stops fault input = (fault ≡ OutOfMemory) ⊎ ((fault ≡ Unflushed) ⊎ SaysOfInput (stops fault) input)
