-- Runs on air of networks without a fault: what is told of them beside what their one stretch counts.
use Rattle.std.specs.Prelude.{◌≡◌, ℕ, List, [], ◌∷◌, Bool, true, false, None}
use Rattle.ts_packet.specs.Packets.{packets_of}
use Rattle.ts_packet.specs.FirstFault.{first_fault}
use Rattle.packet_runs.specs.Stops.{refusal_test}
use Rattle.packet_runs.specs.declared.run.Stop.TheVariants.{Read}
use Rattle.program_follower.specs.declared.purpose.Purpose.{Purpose}
use Rattle.program_follower.specs.Faults.{network_fault}
use Rattle.psi_tables.specs.declared.network.FeedFault.TheVariants.{Network, Sink, Failed}
use Rattle.chain_engine.specs.declared.faults.RunFault.{RunFault}
use Rattle.chain_engine.specs.declared.faults.RunFault.TheVariants as faults
use Rattle.on_air.specs.declared.air.Air.{Air}
use Rattle.on_air.specs.declared.report.AirReport.{AirReport}

-- one stretch begins with the first packet
abbrev pub stretches_of : List (List ℕ) → ℕ
stretches_of [] = 0
stretches_of (p ∷ ps) = 1

abbrev pub has_none : List (List ℕ) → Bool
has_none [] = true
has_none (p ∷ ps) = false

-- it was given these packets, in order, and none of them is at fault
pub record IsPlain {R : Type 0} (air : Air R) (ps : List (List ℕ)) : Type 0 where
  pub ended : air.ended ≡ None
  pub lost : air.lost ≡ 0
  pub unjudged : air.unjudged ≡ 0
  pub stretches : air.stretches ≡ stretches_of ps
  pub is_empty : air.is_empty ≡ has_none ps

-- so it is told of these packets, where their stretch counted this
pub record IsToldPlain {R : Type 0} (told : AirReport R) (ps : List (List ℕ)) (report : R) : Type 0 where
  pub counted : told.report ≡ report
  pub stretches : told.stretches ≡ stretches_of ps
  pub lost : told.lost ≡ 0
  pub unjudged : told.unjudged ≡ 0

-- THE THEOREM for a network without a fault: all that the stage sent is out, and what it tells is told of one stretch. `ends` is the stage's,
-- from its first state, and `is_out` says of packets that they stand behind what was there.
pub record GoesPlainly {S R : Type 0} (ends : List (List ℕ) → List (List ℕ) → R → S → Type 0) (bs : List ℕ) (told : AirReport R) (now : S)
    (is_out : List (List ℕ) → Type 0) : Type 0 where
  pub sent : List (List ℕ)
  pub report : R
  pub ends_so : ends (packets_of bs) sent report now
  pub tells : IsToldPlain told (packets_of bs) report
  pub out : is_out sent

-- The bytes have no fault, by what the program of such a purpose may not be.
abbrev pub IsSound : Purpose → List ℕ → Type 0
IsSound purpose bs = first_fault Read (refusal_test (λ seen. network_fault purpose seen.packet seen.past)) bs ≡ None

-- THE THEOREM for a network without a fault: what is told beside the counts is told of one stretch, and `ran` says of these counts what the run
-- without on air says of its own.
pub record RunsPlainly {R : Type 0} (ran : R → Type 0) (bs : List ℕ) (told : AirReport R) : Type 0 where
  pub report : R
  pub ran_so : ran report
  pub tells : IsToldPlain told (packets_of bs) report

-- a device failed: nothing that a network may say stops a run on air
abbrev pub IsOfDevices : RunFault → Type 0
IsOfDevices (faults.Read fault) = Unit {0}
IsOfDevices (faults.Feed (Network fault)) = ⊥
IsOfDevices (faults.Feed (Sink fault)) = Unit {0}
IsOfDevices (faults.Feed Failed) = ⊥
IsOfDevices faults.SharedPid = ⊥
