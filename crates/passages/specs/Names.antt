-- The names of faults, as they are printed behind `fault: `: of a fault that holds another, the name of that one.
use Rattle.std.specs.Prelude.{ℕ, List, codes}
use Rattle.ts_packet.specs.declared.reader.ReadFault.{ReadFault}
use Rattle.ts_packet.specs.declared.reader.ReadFault.TheVariants as read
use Rattle.ts_packet.specs.declared.sink.PutFault.{PutFault}
use Rattle.ts_packet.specs.declared.sink.PutFault.TheVariants as put
use Rattle.unit_cut.specs.declared.run.CutFault.{CutFault}
use Rattle.unit_cut.specs.declared.run.CutFault.TheVariants.{Read, Scrambled, HeaderSplit, TimeJump, Sink}
use Rattle.packet_lines.specs.declared.lines.LinesFault.TheVariants.{BadLine, Cut}
use Rattle.passages.specs.declared.fault.ProgramFault.{ProgramFault}
use Rattle.passages.specs.declared.fault.ProgramFault.TheVariants.{Lines, Run, Script, List as OfList, Services, Accept, Print, Log, File}
use Rattle.passages.specs.declared.fault.ProgramFault.TheVariants.{Unflushed, OutOfMemory}
use Rattle.chain_engine.specs.declared.faults.RunFault.{RunFault}
use Rattle.chain_engine.specs.declared.faults.RunFault.TheVariants as run
use Rattle.psi_tables.specs.declared.network.FeedFault.TheVariants as feed
use Rattle.psi_tables.specs.declared.network.NetworkFault.{NetworkFault}
use Rattle.psi_tables.specs.declared.network.NetworkFault.TheVariants as network
use Rattle.automations.specs.declared.script.ScriptFault.{ScriptFault}
use Rattle.automations.specs.declared.script.ScriptFault.TheVariants as script
use Rattle.ad_library.specs.declared.fault.AdFault.{AdFault}
use Rattle.ad_library.specs.declared.fault.AdFault.TheVariants as ad
use Rattle.ad_lists.specs.declared.list.ListFault.{ListFault}
use Rattle.ad_lists.specs.declared.list.ListFault.TheVariants as list
use Rattle.service_lists.specs.declared.fault.ServicesFault.{ServicesFault}
use Rattle.service_lists.specs.declared.fault.ServicesFault.TheVariants as services

abbrev pub read_name : ReadFault → List ℕ
read_name read.Truncated = codes "Truncated"
read_name read.SyncLost = codes "SyncLost"
read_name read.BadAdaptation = codes "BadAdaptation"
read_name read.Io = codes "Io"
read_name read.Turns = codes "Turns"
read_name read.Failed = codes "Failed"

abbrev pub put_name : PutFault → List ℕ
put_name put.Io = codes "Io"
put_name put.Stuck = codes "Stuck"
put_name put.Turns = codes "Turns"
put_name put.Failed = codes "Failed"

abbrev pub cut_name : CutFault → List ℕ
cut_name (Read fault) = read_name fault
cut_name Scrambled = codes "Scrambled"
cut_name HeaderSplit = codes "HeaderSplit"
cut_name TimeJump = codes "TimeJump"
cut_name (Sink fault) = put_name fault

abbrev pub network_name : NetworkFault → List ℕ
network_name network.TimeJump = codes "TimeJump"
network_name network.HeaderSplit = codes "HeaderSplit"
network_name network.Scrambled = codes "Scrambled"
network_name network.ProgramChanged = codes "ProgramChanged"
network_name network.TooManyStreams = codes "TooManyStreams"
network_name network.BadPids = codes "BadPids"
network_name network.PmtTooLong = codes "PmtTooLong"
network_name network.CuePidUsed = codes "CuePidUsed"
network_name network.Sections = codes "Sections"

abbrev pub run_name : RunFault → List ℕ
run_name (run.Read fault) = read_name fault
run_name (run.Feed (feed.Network fault)) = network_name fault
run_name (run.Feed (feed.Sink fault)) = put_name fault
run_name (run.Feed feed.Failed) = codes "Failed"
run_name run.SharedPid = codes "SharedPid"

abbrev pub script_name : ScriptFault → List ℕ
script_name script.BadScript = codes "BadScript"
script_name script.Io = codes "Io"
script_name script.Turns = codes "Turns"
script_name script.OutOfMemory = codes "OutOfMemory"

abbrev pub ad_name : AdFault → List ℕ
ad_name ad.Exists = codes "Exists"
ad_name ad.Many = codes "Many"
ad_name (ad.Packets fault) = read_name fault
ad_name ad.Io = codes "Io"
ad_name ad.Large = codes "Large"
ad_name ad.NoProgram = codes "NoProgram"
ad_name ad.Sections = codes "Sections"
ad_name ad.TooManyStreams = codes "TooManyStreams"
ad_name ad.BadPids = codes "BadPids"
ad_name ad.ProgramChanged = codes "ProgramChanged"
ad_name ad.Scrambled = codes "Scrambled"
ad_name ad.HeaderSplit = codes "HeaderSplit"
ad_name ad.TimeJump = codes "TimeJump"
ad_name ad.Loss = codes "Loss"
ad_name ad.NoTime = codes "NoTime"
ad_name ad.OutOfMemory = codes "OutOfMemory"

abbrev pub list_name : ListFault → List ℕ
list_name list.BadList = codes "BadList"
list_name list.File = codes "File"
list_name list.Io = codes "Io"
list_name list.Turns = codes "Turns"
list_name (list.Ad fault) = ad_name fault
list_name list.OutOfMemory = codes "OutOfMemory"

-- what the program refuses of the text of a list of services has one name
abbrev pub services_name : ServicesFault → List ℕ
services_name services.BadLine = codes "BadList"
services_name (services.Config bad) = codes "BadList"
services_name services.File = codes "File"
services_name (services.Adverts fault) = list_name fault
services_name (services.Services fault) = codes "BadList"
services_name services.Io = codes "Io"
services_name services.Turns = codes "Turns"
services_name services.OutOfMemory = codes "OutOfMemory"

abbrev pub fault_name : ProgramFault → List ℕ
fault_name (Lines BadLine) = codes "BadLine"
fault_name (Lines (Cut fault)) = cut_name fault
fault_name (Run fault) = run_name fault
fault_name (Script fault) = script_name fault
fault_name (OfList fault) = list_name fault
fault_name (Services fault) = services_name fault
fault_name Accept = codes "Accept"
-- what prints failed, or what takes the packets at the end, as a device
fault_name Print = codes "Io"
fault_name Log = codes "Io"
fault_name Unflushed = codes "Io"
fault_name File = codes "File"
fault_name OutOfMemory = codes "OutOfMemory"
