-- What a switch on air puts and reports.
use Rattle.std.specs.Prelude.{◌≡◌, ℕ, List, Option}
use Rattle.psi_tables.specs.declared.config.Config.{Config}
use Rattle.program_follower.specs.Purposes.{reading_cues}
use Rattle.ad_library.specs.Advertisements.{Advertisement}
use Rattle.splice_plans.specs.declared.report.SwitchReport.{SwitchReport}
use Rattle.splice_plans.specs.Adverts.{setting_of}
use Rattle.splice_plans.specs.Reporting.{events_sum}
use Rattle.chain_engine.specs.Airing.{Aired, Stretch, total}
use Rattle.chain_engine.specs.Switched.{switched_to_end, AllReport, ReportsOf}
use Rattle.on_air.specs.AirRuns.{newest}
use Rattle.on_air.specs.AirOutputs.{aired, ended_in, stretches_in}

-- the stretches of these bytes that ended, for who reads cues, and the last one
abbrev pub ended_read : Config → List ℕ → List Stretch
ended_read c bs = ended_in (reading_cues c) (stretches_in (reading_cues c) bs)

abbrev pub last_read : Config → List ℕ → List Aired
last_read c bs = aired (newest (stretches_in (reading_cues c) bs))

-- THE THEOREM for any network: what a switch on air puts is the stretches' outputs one behind the other, each by its own packets, and behind each but
-- the last the packets that have brought a section of the map which is not whole; and what it reports of the stretches is summed. `is_out` says of
-- packets that they stand behind what was there.
pub record SplicedOnAir (c : Config) (filed : ℕ → Option Advertisement) (bs : List ℕ) (is_out : List (List ℕ) → Type 0) (report : SwitchReport)
    : Type 0 where
  pub last : SwitchReport
  pub told : List SwitchReport
  pub written : is_out (switched_to_end (setting_of c filed) (ended_read c bs) (last_read c bs))
  pub told_so : AllReport (setting_of c filed) (ended_read c bs) told
  pub last_so : ReportsOf (setting_of c filed) (last_read c bs) last
  pub counted : report ≡ total events_sum last told
