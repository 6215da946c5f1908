-- What a run between opened ends has done, by the bytes of its ends.
use Rattle.std.specs.Prelude.{◌≡◌, ℕ, List, [], Option, None, Some, IfSome, IsSomeAnd}
use Rattle.psi_tables.specs.declared.config.Config.{Config}
use Rattle.scte104_codec.specs.declared.reply.Reply.{Reply}
use Rattle.ad_library.specs.Library.{held}
use Rattle.ad_library.specs.declared.library.AdLibrary.{AdLibrary}
use Rattle.chain_engine.specs.Automation.{Take}
use Rattle.chain_engine.specs.declared.hearing.SessionEnd.{SessionEnd}
use Rattle.chain_engine.specs.declared.report.Report.{Report}
use Rattle.chain_laws.specs.Exactly.{RanExactly}
use Rattle.chain_laws.specs.Headline.{Headline}
use Rattle.air_laws.specs.Headline.{HeadlineOnAir}
use Rattle.service_laws.specs.Services.{ServiceTerms}
use Rattle.chain_services.specs.declared.report.ServiceReport.{ServiceReport}
use Rattle.packet_recovery.specs.Reading.{left_to_give}
use Rattle.on_air.specs.declared.report.AirReport.{AirReport}
use Rattle.services_on_air.specs.Standing.{AirServicesStandFor}
use Rattle.services_on_air.specs.Serving.{AirServicesBegin}
use Rattle.services_on_air.specs.declared.services.AirServices.{AirServices}
use Rattle.report_texts.specs.declared.lines.AirCounts.{AirCounts}
use Rattle.passages.specs.Runs.{PassesAll, Cues, Serves, AskerTells, lost_replies}
use Rattle.passages.specs.AirRuns.{AirCues, AirPlays, AirServes, CountsBytes}
use Rattle.passages.specs.declared.asking.Asker.{Asker}
use Rattle.dpi_program.specs.declared.ends.NetworkBytes.{NetworkBytes}
use Rattle.dpi_program.specs.declared.ends.NetworkBytes.TheVariants.{File, Standard}

-- the bytes of the file that was opened, else those of standard input
abbrev pub known_from : {F : Type 0} → (F → Option (List ℕ)) → Option F → Option (List ℕ) → Option (List ℕ)
known_from remaining None standard = standard
known_from remaining (Some file) standard = remaining file

-- what is left of the bytes of a network, where so much is left of a file and of the standard input
abbrev pub left_in : {F I : Type 0} → (F → Option (List ℕ)) → (I → Option (List ℕ)) → NetworkBytes F I → Option (List ℕ)
left_in file standard (File f) = file f
left_in file standard (Standard i) = standard i

-- of `inject` without a library, and of `run` with one: the headline of the network's bytes, where they are known, and exactly which packets
-- are out
abbrev pub Injects : {A : Type 0} → Config → Option (AdLibrary A) → Option (List ℕ) → (List (List ℕ) → Type 0)
    → (Option SessionEnd → List Take → List Reply → Type 0) → Report → Type 0
Injects c None input is_out tells report = PassesAll (Cues c tells) input is_out report
Injects c (Some library) input is_out tells report =
    IfSome input (λ bs. Headline c (held library) bs is_out tells report × RanExactly c (held library) bs is_out tells report)

-- ---- from the automation on that was opened

-- `inject` or `run` went through, and no reply was lost
abbrev pub InjectsAndPrints : {A W L : Type 0} → Config → Option (AdLibrary A) → Option (List ℕ) → (List (List ℕ) → Type 0)
    → (W → Option (List ℕ)) → Asker W L → Report → Type 0
InjectsAndPrints {W = W} {L = L} c library input is_out contents asker report = (later : Asker W L) × (lost_replies later ≡ 0)
    × Injects c library input is_out (AskerTells contents asker later) report

-- `services` went through, and no reply was lost
abbrev pub ServesAndPrints : {W L : Type 0} → List ServiceTerms → Option (List ℕ) → (List (List ℕ) → Type 0)
    → (W → Option (List ℕ)) → Asker W L → ServiceReport → Type 0
ServesAndPrints {W = W} {L = L} terms input is_out contents asker report = (later : Asker W L) × (lost_replies later ≡ 0)
    × PassesAll (Serves terms (AskerTells contents asker later)) input is_out report

-- ---- on air

-- what a run on air told that reported this, by the counts behind that report
abbrev pub told_with : {R : Type 0} → R → AirCounts → AirReport R
told_with report counts = record { report = report; stretches = counts.stretches; lost = counts.lost; unjudged = counts.unjudged }

-- A RUN ON AIR WENT THROUGH: where the bytes of the network are known, what it sends for the packets that are found among them is out, and the
-- report is theirs, with the counts behind it, which count the bytes that are in none of these packets too
abbrev pub PassesOnAir : {R : Type 0} → (List ℕ → List (List ℕ) → AirReport R → Type 0) → Option (List ℕ) → (List (List ℕ) → Type 0) → R
    → Option AirCounts → Type 0
PassesOnAir passes input is_out report air = IsSomeAnd air (λ counts. PassesAll passes (left_to_give input) is_out (told_with report counts)
    × CountsBytes input counts.mended counts.skipped)

-- of `inject` without a library, and of `run` with one: the headline of each stretch of the network's packets, where the bytes are known
abbrev pub InjectsOnAir : {A : Type 0} → Config → Option (AdLibrary A) → Option (List ℕ) → (List (List ℕ) → Type 0)
    → (Option SessionEnd → List Take → List Reply → Type 0) → Report → Option AirCounts → Type 0
InjectsOnAir c None input is_out tells report air = PassesOnAir (AirCues c tells) input is_out report air
InjectsOnAir c (Some library) input is_out tells report air = PassesOnAir (AirPlays c (held library) tells) input is_out report air
    × IfSome (left_to_give input) (λ bs. HeadlineOnAir c (held library) bs is_out tells report)

-- likewise, from the automation on that was opened, and no reply was lost
abbrev pub InjectsOnAirAndPrints : {A W L : Type 0} → Config → Option (AdLibrary A) → Option (List ℕ) → (List (List ℕ) → Type 0)
    → (W → Option (List ℕ)) → Asker W L → Report → Option AirCounts → Type 0
InjectsOnAirAndPrints {W = W} {L = L} c library input is_out contents asker report air = (later : Asker W L) × (lost_replies later ≡ 0)
    × InjectsOnAir c library input is_out (AskerTells contents asker later) report air

-- and so of `services`
abbrev pub ServesOnAirAndPrints : {W L : Type 0} → List ServiceTerms → Option (List ℕ) → (List (List ℕ) → Type 0)
    → (W → Option (List ℕ)) → Asker W L → ServiceReport → Option AirCounts → Type 0
ServesOnAirAndPrints {W = W} {L = L} terms input is_out contents asker report air = (later : Asker W L) × (lost_replies later ≡ 0)
    × PassesOnAir (AirServes terms (AskerTells contents asker later)) input is_out report air

-- the services that are run on air, where they are, are those of these configurations, and were given nothing
abbrev pub AreOfConfigs : {M : Type 0} → Option (AirServices M) → List Config → Type 0
AreOfConfigs on_air cs = IfSome on_air (λ services. AirServicesStandFor services cs [] × AirServicesBegin services cs)
