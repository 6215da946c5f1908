-- What is told of a run that stopped: what was done, the reason of the end that failed, and how far the network was read.
use Rattle.std.specs.Prelude.{◌≡◌, Option, None, Some}
use Rattle.std.specs.declared.io.Error.{Error}
use Rattle.passages.specs.declared.fault.ProgramFault.{ProgramFault}
use Rattle.passages.specs.declared.fault.ProgramFault.TheVariants as program
use Rattle.packet_lines.specs.declared.lines.LinesFault.TheVariants as lines
use Rattle.unit_cut.specs.declared.run.CutFault.TheVariants as cut
use Rattle.chain_engine.specs.declared.faults.RunFault.TheVariants as run
use Rattle.psi_tables.specs.declared.network.FeedFault.TheVariants as feed
use Rattle.run_ends.specs.declared.ends.Unopened.{Unopened}
use Rattle.run_ends.specs.declared.ends.Unopened.TheVariants as unopened
use Rattle.passages.specs.declared.tell.Side.{Side}
use Rattle.passages.specs.declared.tell.Side.TheVariants as side
use Rattle.passages.specs.declared.tell.Stopped.{Stopped}
use Rattle.passages.specs.declared.watch.Watch.{Watch}

-- what a passage did when it stopped with this fault: it wrote, where the sink failed or the flush at the end; it listened, where no client
-- came; else it read
abbrev pub side_of : ProgramFault → Side
side_of (program.Lines lines.BadLine) = side.Reading
side_of (program.Lines (lines.Cut (cut.Read fault))) = side.Reading
side_of (program.Lines (lines.Cut cut.Scrambled)) = side.Reading
side_of (program.Lines (lines.Cut cut.HeaderSplit)) = side.Reading
side_of (program.Lines (lines.Cut cut.TimeJump)) = side.Reading
side_of (program.Lines (lines.Cut (cut.Sink fault))) = side.Writing
side_of (program.Run (run.Read fault)) = side.Reading
side_of (program.Run (run.Feed (feed.Network fault))) = side.Reading
side_of (program.Run (run.Feed (feed.Sink fault))) = side.Writing
side_of (program.Run (run.Feed feed.Failed)) = side.Reading
side_of (program.Run run.SharedPid) = side.Reading
side_of (program.Script fault) = side.Reading
side_of (program.List fault) = side.Reading
side_of (program.Services fault) = side.Reading
side_of program.Accept = side.Listening
side_of program.Print = side.Reading
side_of program.Log = side.Reading
side_of program.Unflushed = side.Writing
side_of program.File = side.Reading
side_of program.OutOfMemory = side.Reading

-- the reason is that of the device at whose end the run stopped
abbrev pub reason_at : Side → Option Error → Option Error → Option Error
reason_at side.Reading reading writing = reading
reason_at side.Writing reading writing = writing
reason_at side.Scripting reading writing = None
reason_at side.Listening reading writing = None
reason_at side.Filing reading writing = None
reason_at side.Printing reading writing = None
reason_at side.Telling reading writing = None

-- the run stopped with this fault, at this end and for this reason, with so much read of its network, and it blames no line of a script
abbrev pub IsStoppedWith : ProgramFault → Side → Option Error → Option Watch → Stopped → Type 0
IsStoppedWith fault at reason read stopped = (stopped.fault ≡ fault) × (stopped.side ≡ at) × (stopped.reason ≡ reason)
    × (stopped.read ≡ read) × (stopped.line ≡ None) × (stopped.about ≡ None)

-- a file could not be opened: the one that would be read, or the one that would be written, and why
abbrev pub IsStoppedUnopened : Unopened → Stopped → Type 0
IsStoppedUnopened (unopened.Input reason) stopped = IsStoppedWith program.File side.Reading (Some reason) None stopped
IsStoppedUnopened (unopened.Output reason) stopped = IsStoppedWith program.File side.Writing (Some reason) None stopped
