-- What is wrong with a stream that is to be an advertisement: the first thing that it reaches.
use Rattle.std.specs.Prelude.{◌≡◌, ◌⊎◌, ℕ, ◌+◌, ◌*◌, List, [], ◌∷◌, length, reverse, Bool, true, false, ◌||◌, nat_lt, if◌then◌else◌, Option, None, Some}
use Rattle.ts_packet.specs.Packets.{packets_of}
use Rattle.ts_packet.specs.Duplicates.{is_gap}
use Rattle.ts_packet.specs.Runs.{Seen}
use Rattle.ts_packet.specs.FirstFault as firsts
use Rattle.ts_packet.specs.FirstFault.{or_then, Cause, OfInput, OfDevice, OfNothing, SaysBy}
use Rattle.ts_packet.specs.Transfers.{WentWell, NoneFailed, LastFailed}
use Rattle.ts_packet.specs.declared.tally.Tally.{Tally}
use Rattle.ts_packet.specs.declared.reader.ReadFault.{ReadFault}
use Rattle.ts_packet.specs.declared.reader.ReadFault.TheVariants as read_faults
use Rattle.psi_tables.specs.declared.network.NetworkFault.{NetworkFault}
use Rattle.psi_tables.specs.declared.network.NetworkFault.TheVariants as network_faults
use Rattle.program_follower.specs.Purposes.{reading_advertisement}
use Rattle.program_follower.specs.Program.{Program, program_of, behind_head, pids_of}
use Rattle.program_follower.specs.Faults.{network_fault}
use Rattle.ad_library.specs.declared.fault.AdFault.{AdFault}
use Rattle.ad_library.specs.declared.fault.AdFault.TheVariants.{Exists, Many, Packets, Io, Large, NoProgram, Sections, TooManyStreams, BadPids, ProgramChanged, Scrambled, HeaderSplit, TimeJump, Loss, NoTime, OutOfMemory}
use Rattle.ad_library.specs.Advertisements.{kept_streams, zero_of}

-- what is wrong with its tables and units; without a PID for cues the last two are never met
abbrev pub of_network : NetworkFault → AdFault
of_network network_faults.Sections = Sections
of_network network_faults.TooManyStreams = TooManyStreams
of_network network_faults.BadPids = BadPids
of_network network_faults.ProgramChanged = ProgramChanged
of_network network_faults.Scrambled = Scrambled
of_network network_faults.HeaderSplit = HeaderSplit
of_network network_faults.TimeJump = TimeJump
of_network network_faults.CuePidUsed = BadPids
of_network network_faults.PmtTooLong = BadPids

abbrev pub as_ad_fault : Option NetworkFault → Option AdFault
as_ad_fault None = None
as_ad_fault (Some fault) = Some (of_network fault)

-- a packet is missing before this one on one of these PIDs (2.4.3.3, continuity_counter), by the packets behind the head
abbrev pub gap_on_one : List ℕ → List ℕ → List (List ℕ) → Bool
gap_on_one [] p past = false
gap_on_one (pid ∷ pids) p past = is_gap pid p past || gap_on_one pids p past

-- an advertisement may have at most 67,108,864 bytes (64 MiB): with one packet of 188 bytes more behind these it would have more
abbrev pub large_fault : List (List ℕ) → Option AdFault
large_fault past = if nat_lt 67108864 (188 * (length past + 1)) then Some Large else None

abbrev pub loss_fault : List ℕ → List (List ℕ) → Option AdFault
loss_fault p past = if gap_on_one (pids_of (program_of None past)) p (behind_head None past) then Some Loss else None

-- WHAT IS WRONG WITH A PACKET, by those before it, newest first
abbrev pub ad_fault_at : List ℕ → List (List ℕ) → Option AdFault
ad_fault_at p past = or_then (large_fault past) (or_then (as_ad_fault (network_fault reading_advertisement p past)) (loss_fault p past))

abbrev pub ad_test : Seen → Option AdFault
ad_test s = ad_fault_at s.packet s.past

-- of a whole stream: it has no program, or no unit with a time
abbrev pub without_zero : Option Program → Option AdFault
without_zero None = Some NoProgram
without_zero (Some r) = Some NoTime

abbrev pub end_fault : List (List ℕ) → Option AdFault
end_fault ps = elim (zero_of (kept_streams ps)) [ None ↦ without_zero (program_of None (reverse ps)) | Some zero ↦ None ]

-- what is told where this is wrong: it, and that memory was refused only where nothing is wrong
abbrev pub IsWhatIsWrong : Option AdFault → AdFault → Type 0
IsWhatIsWrong wrong fault = ((fault ≡ OutOfMemory) × (wrong ≡ None)) ⊎ (wrong ≡ Some fault)

-- what is told of a packet of a stream, before which one is missing or not
abbrev pub IsToldOf : Bool → AdFault → Type 0
IsToldOf is_missing fault = ((fault ≡ OutOfMemory) × (is_missing ≡ false)) ⊎ ((fault ≡ Loss) × (is_missing ≡ true))

-- THE FIRST FAULT of these bytes
abbrev pub advertisement_fault : List ℕ → Option AdFault
advertisement_fault bs = or_then (firsts.first_fault Packets ad_test bs) (end_fault (packets_of bs))

-- Where a fault comes from. Those of the library and of memory say nothing of the bytes, as those of a device; a failed device has a name
-- of its own, and a broken reader is not read.
abbrev pub ad_cause : AdFault → Cause
ad_cause Exists = OfDevice
ad_cause Many = OfDevice
ad_cause Io = OfDevice
ad_cause OutOfMemory = OfDevice
ad_cause (Packets read_faults.Truncated) = OfInput
ad_cause (Packets read_faults.SyncLost) = OfInput
ad_cause (Packets read_faults.BadAdaptation) = OfInput
ad_cause (Packets read_faults.Io) = OfNothing
ad_cause (Packets read_faults.Turns) = OfDevice
ad_cause (Packets read_faults.Failed) = OfNothing
ad_cause Large = OfInput
ad_cause NoProgram = OfInput
ad_cause Sections = OfInput
ad_cause TooManyStreams = OfInput
ad_cause BadPids = OfInput
ad_cause ProgramChanged = OfInput
ad_cause Scrambled = OfInput
ad_cause HeaderSplit = OfInput
ad_cause TimeJump = OfInput
ad_cause Loss = OfInput
ad_cause NoTime = OfInput

-- WHAT A FAULT SAYS of the bytes: one of the stream is the first
abbrev pub Says : AdFault → List ℕ → Type 0
Says fault bs = SaysBy (ad_cause fault) (advertisement_fault bs ≡ Some fault)

-- a fault of a reader, by its name here
abbrev pub of_read : ReadFault → AdFault
of_read read_faults.Truncated = Packets read_faults.Truncated
of_read read_faults.SyncLost = Packets read_faults.SyncLost
of_read read_faults.BadAdaptation = Packets read_faults.BadAdaptation
of_read read_faults.Io = Io
of_read read_faults.Turns = Packets read_faults.Turns
of_read read_faults.Failed = Packets read_faults.Failed

-- it comes before anything is read
abbrev pub is_of_library : AdFault → Bool
is_of_library Exists = true
is_of_library Many = true
is_of_library Io = false
is_of_library OutOfMemory = false
is_of_library (Packets fault) = false
is_of_library Large = false
is_of_library NoProgram = false
is_of_library Sections = false
is_of_library TooManyStreams = false
is_of_library BadPids = false
is_of_library ProgramChanged = false
is_of_library Scrambled = false
is_of_library HeaderSplit = false
is_of_library TimeJump = false
is_of_library Loss = false
is_of_library NoTime = false

-- ---- what the stream's device did

-- what it counted where the stream is refused so
abbrev pub StreamBlamed : AdFault → Tally → Tally → Type 0
StreamBlamed Exists old new = new ≡ old
StreamBlamed Many old new = new ≡ old
StreamBlamed Io old new = LastFailed old new
StreamBlamed (Packets read_faults.Truncated) old new = NoneFailed old new
StreamBlamed (Packets read_faults.SyncLost) old new = NoneFailed old new
StreamBlamed (Packets read_faults.BadAdaptation) old new = NoneFailed old new
StreamBlamed (Packets read_faults.Io) old new = ⊥
StreamBlamed (Packets read_faults.Turns) old new = WentWell old new
StreamBlamed (Packets read_faults.Failed) old new = ⊥
StreamBlamed OutOfMemory old new = NoneFailed old new
StreamBlamed Large old new = NoneFailed old new
StreamBlamed NoProgram old new = NoneFailed old new
StreamBlamed Sections old new = NoneFailed old new
StreamBlamed TooManyStreams old new = NoneFailed old new
StreamBlamed BadPids old new = NoneFailed old new
StreamBlamed ProgramChanged old new = NoneFailed old new
StreamBlamed Scrambled old new = NoneFailed old new
StreamBlamed HeaderSplit old new = NoneFailed old new
StreamBlamed TimeJump old new = NoneFailed old new
StreamBlamed Loss old new = NoneFailed old new
StreamBlamed NoTime old new = NoneFailed old new
