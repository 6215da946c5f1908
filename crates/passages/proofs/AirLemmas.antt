-- Runs on air: what the runs below say is said of the packets that are out, and where some pieces of messages are spoken of.
use Rattle.std.specs.Prelude.{Result, Ok, Err, IfOk, OnOk, IfSome, reverse}
use Rattle.std.proofs.Common.{◌≡◌, ◌≤◌, ℕ, List, [], length, Option, None, Some, refl, sym, subst}
use Rattle.ts_packet.specs.Packets.{packets_of}
use Rattle.cued_laws.specs.Laws.{ArePacketsOfBytes}
use Rattle.psi_tables.specs.declared.config.Config.{Config}
use Rattle.program_follower.specs.Purposes.{reading_cues, writing_cues}
use Rattle.ad_library.specs.Advertisements.{Advertisement}
use Rattle.ad_library.specs.declared.library.AdLibrary.{AdLibrary}
use Rattle.scte104_codec.specs.declared.reply.Reply.{Reply}
use Rattle.splice_plans.specs.declared.report.SwitchReport.{SwitchReport}
use Rattle.chain_engine.specs.Automation.{Take}
use Rattle.chain_engine.specs.Talks.{messages_taken}
use Rattle.chain_engine.specs.declared.hearing.SessionEnd.{SessionEnd}
use Rattle.chain_engine.specs.declared.report.Report.{Report}
use Rattle.chain_engine.specs.declared.faults.RunFault.{RunFault}
use Rattle.chain_engine.proofs.RunLemmas.{few_replies}
use Rattle.service_laws.specs.Services.{ServiceTerms, configs_of}
use Rattle.chain_services.specs.Runs.{terms_by}
use Rattle.chain_services.specs.Serving.{FiledAs}
use Rattle.chain_services.specs.declared.report.ServiceReport.{ServiceReport}
use Rattle.chain_services.proofs.BeginLemmas.{configs_by, filed_by}
use Rattle.on_air.specs.AirChains.{RanOnAir}
use Rattle.on_air.specs.AirInjects.{InjectedOnAir}
use Rattle.on_air.specs.AirSplices.{SplicedOnAir}
use Rattle.on_air.specs.AirRuns.{TellsStretches}
use Rattle.on_air.specs.declared.report.AirReport.{AirReport}
use Rattle.services_on_air.specs.Outputs.{ServicesOnAir}
use Rattle.services_on_air.specs.Standing.{AirServicesStandFor, TellsServices}
use Rattle.services_on_air.specs.Serving.{AirServicesBegin}
use Rattle.services_on_air.specs.declared.services.AirServices.{AirServices}
use Rattle.passages.specs.Runs.{PassesAll}
use Rattle.passages.specs.AirRuns.{AirSplices, AirCues, AirPlays, AirServes}

-- what is said of the bytes where they are known
if_known : (input : Option (List ℕ)) {said : List ℕ → Type 0} → ((bs : List ℕ) → input ≡ Some bs → said bs) → IfSome input said
if_known None h = tt
if_known (Some bs) h = h bs refl

pub air_splices : (r : Result (AirReport SwitchReport) RunFault) (c : Config) (filed : ℕ → Option Advertisement) (input : Option (List ℕ)) (is_out : List (List ℕ) → Type 0)
    → ((bs : List ℕ) → input ≡ Some bs → IfOk r (λ ran. SplicedOnAir c filed bs is_out ran.report))
    → ((bs : List ℕ) → input ≡ Some bs → IfOk r (λ ran. TellsStretches ran (reading_cues c) bs))
    → IfOk r (PassesAll (AirSplices c filed) input is_out)
air_splices (Err f) c filed input is_out h k = tt
air_splices (Ok report) c filed None is_out h k = tt
air_splices (Ok report) c filed (Some bs) is_out h k =
    let s = h bs refl in
    (_, (record { last = s.last; told = s.told; written = refl; told_so = s.told_so; last_so = s.last_so; counted = s.counted }, k bs refl), s.written)

-- ---- the runs below

module _ (told : Option SessionEnd → List Take → List Reply → Type 0) (input : Option (List ℕ)) (is_out : List (List ℕ) → Type 0) where
  pub air_cues : (r : Result (AirReport Report) RunFault) (c : Config)
      → ((bs : List ℕ) → input ≡ Some bs → IfOk r (λ ran. InjectedOnAir c bs is_out told ran.report))
      → ((bs : List ℕ) → input ≡ Some bs → IfOk r (λ ran. TellsStretches ran (writing_cues c) bs))
      → IfOk r (PassesAll (AirCues c told) input is_out)
  air_cues (Err f) c h k = tt
  air_cues (Ok report) c h k = if_known input (λ bs e.
      let s = h bs e in (
        _,
        (
          record {
            ending = s.ending;
            ts = s.ts;
            rs = s.rs;
            talked = s.talked;
            bytes = s.bytes;
            exchanges = s.exchanges;
            replies = s.replies;
            written = refl;
            counted = s.counted;
          },
          k bs e,
        ),
        s.written,
      ))

  pub air_plays : (r : Result (AirReport Report) RunFault) (c : Config) (filed : ℕ → Option Advertisement)
      → ((bs : List ℕ) → input ≡ Some bs → IfOk r (λ ran. RanOnAir c filed bs is_out told ran.report))
      → ((bs : List ℕ) → input ≡ Some bs → IfOk r (λ ran. TellsStretches ran (writing_cues c) bs))
      → ((bs : List ℕ) → input ≡ Some bs → OnOk r (ArePacketsOfBytes (reverse (packets_of bs))))
      → IfOk r (PassesAll (AirPlays c filed told) input is_out)
  air_plays (Err f) c filed h k m = tt
  air_plays (Ok report) c filed h k m = if_known input (λ bs e.
      let s = h bs e in (
        _,
        (
          record {
            ending = s.ending;
            ts = s.ts;
            rs = s.rs;
            talked = s.talked;
            bytes = s.bytes;
            exchanges = s.exchanges;
            replies = s.replies;
            written = refl;
            last = s.last;
            told = s.told;
            told_so = s.told_so;
            last_so = s.last_so;
            counted = s.counted;
          },
          k bs e,
          m bs e,
        ),
        s.written,
      ))

  pub air_serves : {M A : Type 0} (services : AirServices M) (r : Result (AirReport ServiceReport) RunFault) (cs : List Config) (ls : List (AdLibrary A))
      → AirServicesStandFor services cs [] → AirServicesBegin services cs → length ls ≡ length cs
      → ((ts : List ServiceTerms) (bs : List ℕ) → AirServicesStandFor services (configs_of ts) [] → AirServicesBegin services (configs_of ts) → FiledAs ls ts → input ≡ Some bs
      → IfOk r (λ ran. ServicesOnAir ts bs is_out told ran))
      → ((bs : List ℕ) → input ≡ Some bs → IfOk r (λ ran. TellsServices ran cs bs))
      → IfOk r (PassesAll (AirServes (terms_by cs ls) told) input is_out)
  air_serves services (Err f) cs ls stands begins long h k = tt
  air_serves services (Ok report) cs ls stands begins long h k = if_known input (λ bs e.
      let same = sym (configs_by cs ls long) in
      let s = h (terms_by cs ls) bs (subst (λ ds. AirServicesStandFor services ds []) same stands) (subst (AirServicesBegin services) same begins) (filed_by cs ls long) e in (
        _,
        (
          record {
            ending = s.ending;
            takes = s.takes;
            rs = s.rs;
            talked = s.talked;
            bytes = s.bytes;
            exchanges = s.exchanges;
            replies = s.replies;
            written = refl;
            messages = s.messages;
            events = s.events;
            lost = s.lost;
          },
          subst (λ ds. TellsServices report ds bs) same (k bs e),
        ),
        s.written,
      ))

-- ---- what is known of the pieces of messages

module _ (told told' : Option SessionEnd → List Take → List Reply → Type 0) (so : (ending : Option SessionEnd) (ts : List Take) (rs : List Reply) → length rs ≤ length (messages_taken ts) → told ending ts rs → told' ending ts rs)
    (is_out : List (List ℕ) → Type 0) where
  pub air_cues_so : (c : Config) (input : Option (List ℕ)) (report : AirReport Report) → PassesAll (AirCues c told) input is_out report → PassesAll (AirCues c told') input is_out report
  air_cues_so c None report h = tt
  air_cues_so c (Some bs) report (ps, (s, k), out) = (
    ps,
    (
      record {
        ending = s.ending;
        ts = s.ts;
        rs = s.rs;
        talked = s.talked;
        bytes = s.bytes;
        exchanges = so s.ending s.ts s.rs (few_replies s.ending s.ts (length s.rs) (length (packets_of bs)) s.talked) s.exchanges;
        replies = s.replies;
        written = s.written;
        counted = s.counted;
      },
      k,
    ),
    out,
  )

  pub air_plays_so : (c : Config) (filed : ℕ → Option Advertisement) (input : Option (List ℕ)) (report : AirReport Report) → PassesAll (AirPlays c filed told) input is_out report
      → PassesAll (AirPlays c filed told') input is_out report
  air_plays_so c filed None report h = tt
  air_plays_so c filed (Some bs) report (ps, (s, k, m), out) = (
    ps,
    (
      record {
        ending = s.ending;
        ts = s.ts;
        rs = s.rs;
        talked = s.talked;
        bytes = s.bytes;
        exchanges = so s.ending s.ts s.rs (few_replies s.ending s.ts (length s.rs) (length (packets_of bs)) s.talked) s.exchanges;
        replies = s.replies;
        written = s.written;
        last = s.last;
        told = s.told;
        told_so = s.told_so;
        last_so = s.last_so;
        counted = s.counted;
      },
      k,
      m,
    ),
    out,
  )

  pub air_serves_so : (services : List ServiceTerms) (input : Option (List ℕ)) (report : AirReport ServiceReport) → PassesAll (AirServes services told) input is_out report
      → PassesAll (AirServes services told') input is_out report
  air_serves_so services None report h = tt
  air_serves_so services (Some bs) report (ps, (s, k), out) = (
    ps,
    (
      record {
        ending = s.ending;
        takes = s.takes;
        rs = s.rs;
        talked = s.talked;
        bytes = s.bytes;
        exchanges = so s.ending s.takes s.rs (few_replies s.ending s.takes (length s.rs) (length (packets_of bs)) s.talked) s.exchanges;
        replies = s.replies;
        written = s.written;
        messages = s.messages;
        events = s.events;
        lost = s.lost;
      },
      k,
    ),
    out,
  )
