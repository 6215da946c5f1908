-- What goes out of a stretch on air, beside what would go out of its packets as they are read.
use Rattle.std.specs.Prelude.{◌≡◌, ◌==◌, ◌&&◌, ℕ, ◌<◌, List, Bool, true, not, filter, reverse, Option}
use Rattle.std.specs.List.{list_any}
use Rattle.ts_packet.specs.Fields.{pid_of, is_among}
use Rattle.ts_packet.specs.Membership.{In}
use Rattle.psi_tables.specs.declared.config.Config.{Config}
use Rattle.event_table.specs.Standing.{Standing}
use Rattle.ad_library.specs.Advertisements.{Advertisement}
use Rattle.injector.specs.Steps.{Step}
use Rattle.splice_laws.specs.Splicing.{SliceUnit, stream, closed}
use Rattle.splice_plans.specs.Adverts.{packed_units}
use Rattle.splice_plans.specs.Playing.{played, as_played}
use Rattle.chain_engine.specs.Airing.{Aired}
use Rattle.chain_laws.specs.Breaks.{accepted_by}
use Rattle.chain_laws.specs.Runs.{switched_by, behind_by, adverts_by}
use Rattle.chain_laws.specs.Streams.{is_reached}
use Rattle.air_laws.specs.Airs.{all_put, all_read, left_unjudged}
use Rattle.air_laws.specs.Counters.{but_counters}

-- a packet of the PID
abbrev pub has_pid : ℕ → Aired → Bool
has_pid pid a = pid_of a.packet == pid

-- those of these PIDs on which some packet is left unjudged
abbrev pub disturbed : List Aired → List ℕ → List ℕ
disturbed packets pids = filter (λ (pid : ℕ). list_any (has_pid pid) (left_unjudged packets)) pids

-- WHAT GOES OUT FOR A LIST of packets, where packets of a stretch, newest first, are left unjudged: packets which are that list as they are read, and
-- of which those left unjudged are the stretch's, in order and as they came; all this but for the counters on these PIDs.
pub record GoesOutFor (pids : List ℕ) (packets : List Aired) (out spliced : List (List ℕ)) : Type 0 where
  pub aired : List Aired
  pub put : all_put aired ≡ out
  pub read : but_counters pids (all_read aired) ≡ but_counters pids spliced
  pub unjudged : but_counters pids (all_put (left_unjudged aired)) ≡ but_counters pids (all_put (left_unjudged (reverse packets)))

-- A break runs at the end of a stream: it was reached, and no unit has begun outside it since, or with the unit that reached it.
abbrev pub runs_at_end : List ℕ → ℕ → List (List ℕ) → Standing → Bool
runs_at_end switched pid past e = is_reached switched pid past e && not (closed (stream switched pid) (as_played e) past)

-- A packet of an advertisement that runs at the end: one of those in which a unit is packed of its stream for a switched PID, on which its break, one
-- of those played, runs at the end
pub record IsOfAdvertisement (c : Config) (filed : ℕ → Option Advertisement) (steps : List Step) (q : List ℕ) : Type 0 where
  pub pid : ℕ
  pub e : Standing
  pub unit : SliceUnit
  pub counter : ℕ
  pub switched : is_among pid (switched_by c steps) ≡ true
  pub played_so : In e (played (adverts_by c filed steps) (accepted_by c steps))
  pub runs : runs_at_end (switched_by c steps) pid (behind_by c steps) e ≡ true
  pub unit_of : In unit ((adverts_by c filed steps).units e pid)
  pub small : counter < 16
  pub packed : In q (packed_units pid unit counter)
