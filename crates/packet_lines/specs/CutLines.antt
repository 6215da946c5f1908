-- What a run of `cut_lines` writes, where its input and its output tell their bytes; what its faults say, and what its devices did
-- there. All is said as of `cut`, over the packets of the text's lines.
use Rattle.std.specs.Prelude.{◌≡◌, ◌≢◌, ℕ, ◌^◌, ◌-◌, ◌⊎◌, List, Option, length, option_map}
use Rattle.ts_packet.specs.Sources.{HasRead}
use Rattle.ts_packet.specs.Transfers.{WentWell, NoneFailed, LastFailed, TookTurns, FallsShort}
use Rattle.ts_packet.specs.declared.tally.Tally.{Tally}
use Rattle.ts_packet.specs.declared.reader.ReadFault.TheVariants as read_faults
use Rattle.ts_packet.specs.declared.sink.PutFault.{PutFault}
use Rattle.ts_packet.specs.declared.sink.PutFault.TheVariants.{Failed}
use Rattle.unit_cut.specs.Runs.{CutsAll, Stops}
use Rattle.unit_cut.specs.declared.run.CutFault.{CutFault}
use Rattle.unit_cut.specs.declared.run.CutFault.TheVariants.{Read}
use Rattle.packet_lines.specs.Texts.{bytes_told, WrittenLines, FailsToWriteLine}
use Rattle.packet_lines.specs.declared.lines.LinesFault.{LinesFault}
use Rattle.packet_lines.specs.declared.lines.LinesFault.TheVariants.{BadLine, Cut}

-- THE THEOREM: every line of the text is a packet's, their bytes have no fault, and behind what the output held stand the lines of the
-- packets of their cut
abbrev pub CutsLines : ℕ → ℕ → ℕ → Option (List ℕ) → Option (List ℕ) → Option (List ℕ) → Type 0
CutsLines pid from length input start out = CutsAll pid from length (option_map bytes_told input) (WrittenLines out start)

-- The fault of the cut that it is. What a text tells up to a line that is no packet's ends in the middle of a packet.
abbrev pub cut_fault_of : LinesFault → CutFault
cut_fault_of BadLine = Read read_faults.Truncated
cut_fault_of (Cut fault) = fault

-- whole lines are out, and of the packet's line behind them a part
abbrev pub LineFails : Option (List ℕ) → Option (List ℕ) → List (List ℕ) → List ℕ → PutFault → Type 0
LineFails out start ps p fault = (fault ≢ Failed) × FailsToWriteLine out start ps p

-- the output holds whole lines, and sending those of them that it kept back failed
abbrev pub LinesUnsent : Option (List ℕ) → Option (List ℕ) → List (List ℕ) → PutFault → Type 0
LinesUnsent out start ps fault = (fault ≢ Failed) × WrittenLines out start ps

-- THE THEOREM FOR FAULTS: a bad line, or the fault of a packet, is the first fault of the text, and the lines of the cut of all before
-- it are out; after a device's fault a front of the lines of the cut is out, and a part of a line only where a write failed in it, or
-- where lines that the output kept back were not sent. What it keeps back is among what it holds.
abbrev pub StopsLines : LinesFault → ℕ → ℕ → ℕ → Option (List ℕ) → Option (List ℕ) → Option (List ℕ) → Type 0
StopsLines fault pid from length input start out = (fault ≢ Cut (Read read_faults.Truncated))
    × Stops (cut_fault_of fault) pid from length (option_map bytes_told input) (WrittenLines out start) (LineFails out start) (LinesUnsent out start)

-- ---- what the devices did

-- The reads for one line took all their turns: from some state of the device on, up to which all went well, they gave fewer bytes than a
-- line has. The functions are a device's bytes and counts.
abbrev pub LineStalls : {X : Type 0} → (X → Option (List ℕ)) → (X → Tally) → X → X → Type 0
LineStalls {X} remaining counts first now =
    (at : X) × WentWell (counts first) (counts at) × TookTurns (2 ^ 20) (counts at) (counts now) × FallsShort 377 (remaining at) (remaining now)

-- as many lines were read as may be
abbrev pub LinesRunOut : Option (List ℕ) → Type 0
LinesRunOut input = (rest : Option (List ℕ)) × (ps : List (List ℕ)) × HasRead (option_map bytes_told input) rest ps × (length ps ≡ 2 ^ 64 - 1)

-- what the input did where a cut of its lines stops so
abbrev pub LineBlamed : {X : Type 0} → CutFault → (X → Option (List ℕ)) → (X → Tally) → X → X → Type 0
LineBlamed (Read read_faults.Turns) remaining counts first now = LineStalls remaining counts first now ⊎ LinesRunOut (remaining first)
LineBlamed (Read read_faults.Io) remaining counts first now = LastFailed (counts first) (counts now)
LineBlamed (Read read_faults.Failed) remaining counts first now = ⊥
LineBlamed fault remaining counts first now = NoneFailed (counts first) (counts now)
