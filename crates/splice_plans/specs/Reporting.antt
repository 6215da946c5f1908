-- What a switch reports of a network: counts over the events that were armed in it.
use Rattle.event_table.specs.Counting.{one_if}
use Rattle.std.specs.Prelude.{◌≡◌, ℕ, ◌+◌, List, Bool, true, not, ◌&&◌, ◌||◌, count_by, Some, ℤ, int_lt}
use Rattle.std.specs.List.{list_any}
use Rattle.event_table.specs.Standing.{Standing, end_of, forgotten_at}
use Rattle.armed_events.specs.Arming.{ignored}
use Rattle.program_follower.specs.Program.{behind_head}
use Rattle.psi_section.specs.Assembling.{capped}
use Rattle.splice_laws.specs.Splicing.{stream}
use Rattle.splice_plans.specs.declared.plan.Plan.{Plan}
use Rattle.splice_plans.specs.declared.report.SwitchReport.{SwitchReport}
use Rattle.splice_plans.specs.Playing.{Adverts, is_played, is_crossed}
use Rattle.splice_plans.specs.Switching.{Setting, switched_at, streams_at, high_at, events_at}

-- not cancelled, and without an advertisement that fits
abbrev pub is_not_fitted : Adverts → Standing → Bool
is_not_fitted ads e = not e.cancelled && not (ads.fits e)

-- in some of the streams a unit below the event's start begins after one at or past it, or the same of its last end
abbrev pub is_unconditioned : List ℕ → List (List ℕ) → Standing → Bool
is_unconditioned switched behind e = list_any (λ pid. is_crossed (stream switched pid) e.start behind || is_crossed (stream switched pid) (end_of e) behind) switched

pub record EventCounts : Type 0 where
  pub played : ℕ
  pub not_fitted : ℕ
  pub unconditioned : ℕ
  pub ignored : ℕ

-- what two stretches of a run counted, summed; each count stops at the greatest u64
abbrev pub events_sum : SwitchReport → SwitchReport → SwitchReport
events_sum a b = record {
  played = capped (a.played + b.played);
  not_fitted = capped (a.not_fitted + b.not_fitted);
  unconditioned = capped (a.unconditioned + b.unconditioned);
  ignored = capped (a.ignored + b.ignored);
}

-- of no events
abbrev pub no_counts : EventCounts
no_counts = record { played = 0; not_fitted = 0; unconditioned = 0; ignored = 0 }

-- with one event more
abbrev pub with_one : Bool → Bool → Bool → EventCounts → EventCounts
with_one cancelled fits crossed c = record {
  played = one_if (not cancelled && fits) + c.played;
  not_fitted = one_if (not cancelled && not fits) + c.not_fitted;
  unconditioned = one_if ((not cancelled && fits) && crossed) + c.unconditioned;
  ignored = c.ignored;
}

-- with those events more, each beside what is known of it, that the test takes
abbrev pub with_counted : (Standing → Bool) → Adverts → List (Standing × Plan) → EventCounts → EventCounts
with_counted takes ads xs c = record {
  played = count_by (λ x. takes x.0 && is_played ads x.0) xs + c.played;
  not_fitted = count_by (λ x. takes x.0 && is_not_fitted ads x.0) xs + c.not_fitted;
  unconditioned = count_by (λ x. takes x.0 && (is_played ads x.0 && x.1.is_crossed)) xs + c.unconditioned;
  ignored = c.ignored;
}

-- it stands no longer at this greatest time
abbrev pub is_out_at : ℤ → Standing → Bool
is_out_at high e = not (int_lt high (forgotten_at e))

abbrev pub is_any : Standing → Bool
is_any e = true

-- each count stops at the greatest u64
pub record ReportIs (report : SwitchReport) (c : EventCounts) : Type 0 where
  pub played : report.played ≡ capped c.played
  pub not_fitted : report.not_fitted ≡ capped c.not_fitted
  pub unconditioned : report.unconditioned ≡ capped c.unconditioned
  pub ignored : report.ignored ≡ capped c.ignored

-- THE REPORT
abbrev pub report_of : Setting → List (List ℕ) → EventCounts
report_of k past =
    let ads = k.adverts (streams_at k past) in
    let behind = behind_head (Some k.program) past in
    let events = events_at k past in
    record {
      played = count_by (is_played ads) events;
      not_fitted = count_by (is_not_fitted ads) events;
      unconditioned = count_by (λ e. is_played ads e && is_unconditioned (switched_at k past) behind e) events;
      ignored = ignored k.cue_pid (high_at k) past;
    }
