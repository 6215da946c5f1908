-- A run of the chain by its requests, from what its passage says, off air and on air.
use Rattle.std.specs.Prelude.{IfSome}
use Rattle.std.proofs.Common.{◌≡◌, ℕ, List, Option, None, Some, sym, subst}
use Rattle.psi_tables.specs.declared.config.Config.{Config}
use Rattle.ad_library.specs.Advertisements.{Advertisement}
use Rattle.ad_library.specs.Library.{held}
use Rattle.ad_library.specs.declared.library.AdLibrary.{AdLibrary}
use Rattle.scte104_codec.specs.declared.reply.Reply.{Reply}
use Rattle.chain_engine.specs.Automation.{Take}
use Rattle.chain_engine.specs.ChainRuns as chain
use Rattle.chain_engine.specs.declared.hearing.SessionEnd.{SessionEnd}
use Rattle.chain_engine.specs.declared.report.Report.{Report}
use Rattle.chain_laws.specs.Exactly.{RanExactly}
use Rattle.chain_laws.specs.Headline.{Headline}
use Rattle.chain_laws.proofs.HeadlineLemmas.{runs_are_so, headline_by}
use Rattle.on_air.specs.AirChains.{RanOnAir}
use Rattle.on_air.specs.declared.report.AirReport.{AirReport}
use Rattle.air_laws.specs.Headline.{HeadlineOnAir}
use Rattle.air_laws.proofs.HeadlineLemmas.{runs_on_air_are_so}
use Rattle.passages.specs.Runs.{PassesAll, Plays}
use Rattle.passages.specs.AirRuns.{AirPlays}

-- the packets that are out are the run's
ran_so : (c : Config) (filed : ℕ → Option Advertisement) (bs : List ℕ) (is_out : List (List ℕ) → Type 0) (told : Option SessionEnd → List Take → List Reply → Type 0) (report : Report)
    → (ps : List (List ℕ)) → Plays c filed told bs ps report → is_out ps → chain.Ran c filed bs is_out told report
ran_so c filed bs is_out told report ps h out = record { sound = h.sound; bytes = h.bytes; ts = h.ts; rs = h.rs; serves = h.serves; written = subst is_out (sym h.written) out; counted = h.counted }

pub exactly_so : {A : Type 0} (library : AdLibrary A) (c : Config) (input : Option (List ℕ)) (is_out : List (List ℕ) → Type 0) (told : Option SessionEnd → List Take → List Reply → Type 0) (report : Report)
    → PassesAll (Plays c (held library) told) input is_out report → IfSome input (λ bs. RanExactly c (held library) bs is_out told report)
exactly_so library c None is_out told report h = tt
exactly_so library c (Some bs) is_out told report (ps, h, out) = runs_are_so _ library c bs is_out told report (ran_so c (held library) bs is_out told report ps h out)

pub headline_so : {A : Type 0} (library : AdLibrary A) (c : Config) (input : Option (List ℕ)) (is_out : List (List ℕ) → Type 0) (told : Option SessionEnd → List Take → List Reply → Type 0) (report : Report)
    → PassesAll (Plays c (held library) told) input is_out report → IfSome input (λ bs. Headline c (held library) bs is_out told report)
headline_so library c None is_out told report h = tt
headline_so library c (Some bs) is_out told report h = headline_by c (held library) bs is_out told report (exactly_so library c (Some bs) is_out told report h)

-- on air
ran_on_air_so : (c : Config) (filed : ℕ → Option Advertisement) (bs : List ℕ) (is_out : List (List ℕ) → Type 0) (told : Option SessionEnd → List Take → List Reply → Type 0) (report : Report)
    → (ps : List (List ℕ)) → RanOnAir c filed bs (λ qs. qs ≡ ps) told report → is_out ps → RanOnAir c filed bs is_out told report
ran_on_air_so c filed bs is_out told report ps h out = record {
  ending = h.ending;
  ts = h.ts;
  rs = h.rs;
  talked = h.talked;
  bytes = h.bytes;
  exchanges = h.exchanges;
  replies = h.replies;
  written = subst is_out (sym h.written) out;
  last = h.last;
  told = h.told;
  told_so = h.told_so;
  last_so = h.last_so;
  counted = h.counted;
}

pub headline_on_air_so : {A : Type 0} (library : AdLibrary A) (c : Config) (input : Option (List ℕ)) (is_out : List (List ℕ) → Type 0) (told : Option SessionEnd → List Take → List Reply → Type 0)
    (report : AirReport Report) → PassesAll (AirPlays c (held library) told) input is_out report → IfSome input (λ bs. HeadlineOnAir c (held library) bs is_out told report.report)
headline_on_air_so library c None is_out told report h = tt
headline_on_air_so library c (Some bs) is_out told report (ps, (s, k, m), out) =
    runs_on_air_are_so _ library c bs is_out told report.report m (ran_on_air_so c (held library) bs is_out told report.report ps s out)
