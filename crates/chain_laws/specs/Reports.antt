-- What a run reports of its breaks, by the accepted requests and the network's units.
use Rattle.std.specs.Prelude.{◌≡◌, ℕ, List, ◌&&◌, Option, count_by, Some}
use Rattle.program_follower.specs.Following.{high_of}
use Rattle.psi_tables.specs.declared.config.Config.{Config}
use Rattle.ad_library.specs.Advertisements.{Advertisement}
use Rattle.armed_events.specs.Arming.{ignored}
use Rattle.injector.specs.Steps.{Step, cued}
use Rattle.splice_plans.specs.Adverts.{setting_of}
use Rattle.splice_plans.specs.Playing.{is_played}
use Rattle.splice_plans.specs.Reporting.{EventCounts, is_not_fitted, is_unconditioned, report_of}
use Rattle.chain_laws.specs.Breaks.{accepted_by}
use Rattle.chain_laws.specs.Runs.{switched_by, behind_by, adverts_by, IsWholeRun}

-- THE COUNTS: the breaks that are played; those without an advertisement that fits; the played ones at whose start or last end some switched
-- stream is not conditioned; and, of the cued stream, the cues that were ignored
abbrev pub counts_by : Config → (ℕ → Option Advertisement) → List Step → EventCounts
counts_by c filed steps = record {
  played = count_by (is_played (adverts_by c filed steps)) (accepted_by c steps);
  not_fitted = count_by (is_not_fitted (adverts_by c filed steps)) (accepted_by c steps);
  unconditioned = count_by (λ e. is_played (adverts_by c filed steps) e && is_unconditioned (switched_by c steps) (behind_by c steps) e) (accepted_by c steps);
  ignored = ignored c.cue_pid (high_of (Some c.program)) (cued c steps);
}

-- THE LAW OF THE REPORT
abbrev pub BreaksAreCounted : Type 0
BreaksAreCounted = (c : Config) (filed : ℕ → Option Advertisement) (steps : List Step) → IsWholeRun c filed steps →
    report_of (setting_of c filed) (cued c steps) ≡ counts_by c filed steps
