-- Whole runs of the program on air: which packets go out for the bytes of a network, whatever is wrong with it, and what is told.
use Rattle.std.specs.Prelude.{◌≡◌, ℕ, List, reverse, Option, IfSome}
use Rattle.ts_packet.specs.Packets.{packets_of}
use Rattle.cued_laws.specs.Laws.{ArePacketsOfBytes}
use Rattle.ad_library.specs.Advertisements.{Advertisement}
use Rattle.psi_tables.specs.declared.config.Config.{Config}
use Rattle.splice_plans.specs.declared.report.SwitchReport.{SwitchReport}
use Rattle.scte104_codec.specs.declared.reply.Reply.{Reply}
use Rattle.program_follower.specs.Purposes.{reading_cues, writing_cues}
use Rattle.packet_recovery.specs.Framing as bytes
use Rattle.packet_recovery.specs.Mending.{mends}
use Rattle.packet_recovery.specs.Reading.{capped}
use Rattle.chain_engine.specs.Automation.{Take}
use Rattle.chain_engine.specs.declared.hearing.SessionEnd.{SessionEnd}
use Rattle.chain_engine.specs.declared.report.Report.{Report}
use Rattle.chain_services.specs.declared.report.ServiceReport.{ServiceReport}
use Rattle.service_laws.specs.Services.{ServiceTerms, configs_of}
use Rattle.on_air.specs.AirChains.{RanOnAir}
use Rattle.on_air.specs.AirInjects.{InjectedOnAir}
use Rattle.on_air.specs.AirSplices.{SplicedOnAir}
use Rattle.on_air.specs.AirRuns.{TellsStretches}
use Rattle.on_air.specs.Plain.{IsOfDevices}
use Rattle.on_air.specs.declared.report.AirReport.{AirReport}
use Rattle.services_on_air.specs.Outputs.{ServicesOnAir}
use Rattle.services_on_air.specs.Standing.{TellsServices}
use Rattle.passages.specs.declared.fault.ProgramFault.{ProgramFault}
use Rattle.passages.specs.declared.fault.ProgramFault.TheVariants.{Lines, Run, Script, List as OfList, Services, Accept, Print, Log, File}
use Rattle.passages.specs.declared.fault.ProgramFault.TheVariants.{Unflushed, OutOfMemory}

-- ---- runs; `told` says what is known of the session's end, takes and replies

-- `splice`: these packets are what a switch on air puts for those of the network, stretch by stretch, with the advertisements that are filed so,
-- and the report sums what it reports of each
abbrev pub AirSplices : Config → (ℕ → Option Advertisement) → List ℕ → List (List ℕ) → AirReport SwitchReport → Type 0
AirSplices c filed bs ps report = SplicedOnAir c filed bs (λ qs. qs ≡ ps) report.report × TellsStretches report (reading_cues c) bs

-- `inject`: these packets are what an injector on air puts for those of the network and the pieces of messages, each message is answered by the
-- stretch in which it is judged, and the report sums what each counts
abbrev pub AirCues : Config → (Option SessionEnd → List Take → List Reply → Type 0) → List ℕ → List (List ℕ) → AirReport Report → Type 0
AirCues c told bs ps report = InjectedOnAir c bs (λ qs. qs ≡ ps) told report.report × TellsStretches report (writing_cues c) bs

-- `run`: likewise of a chain on air, with the advertisements that are filed so; and the packets have no other values than bytes
abbrev pub AirPlays : Config → (ℕ → Option Advertisement) → (Option SessionEnd → List Take → List Reply → Type 0) → List ℕ → List (List ℕ)
    → AirReport Report → Type 0
AirPlays c filed told bs ps report = RanOnAir c filed bs (λ qs. qs ≡ ps) told report.report × TellsStretches report (writing_cues c) bs
    × ArePacketsOfBytes (reverse (packets_of bs))

-- `services`: likewise of several services on air, each by its own stretches
abbrev pub AirServes : List ServiceTerms → (Option SessionEnd → List Take → List Reply → Type 0) → List ℕ → List (List ℕ)
    → AirReport ServiceReport → Type 0
AirServes services told bs ps report = ServicesOnAir services bs (λ qs. qs ≡ ps) told report × TellsServices report (configs_of services) bs

-- ---- the bytes of the network

-- where they are known: so many packets among them were marked in error, and so many of them are in no packet
abbrev pub CountsBytes : Option (List ℕ) → ℕ → ℕ → Type 0
CountsBytes input mended skipped = IfSome input (λ bs. (mended ≡ capped (mends (bytes.framed bs))) × (skipped ≡ capped (bytes.skipped bs)))

-- ---- faults

-- a device failed, or memory was refused: nothing that a network may say stops a run on air
abbrev pub IsOfDevicesOrMemory : ProgramFault → Type 0
IsOfDevicesOrMemory (Lines fault) = ⊥
IsOfDevicesOrMemory (Run fault) = IsOfDevices fault
IsOfDevicesOrMemory (Script fault) = ⊥
IsOfDevicesOrMemory (OfList fault) = ⊥
IsOfDevicesOrMemory (Services fault) = ⊥
IsOfDevicesOrMemory Accept = ⊥
IsOfDevicesOrMemory Print = ⊥
IsOfDevicesOrMemory Log = ⊥
IsOfDevicesOrMemory Unflushed = Unit {0}
IsOfDevicesOrMemory File = ⊥
IsOfDevicesOrMemory OutOfMemory = Unit {0}
