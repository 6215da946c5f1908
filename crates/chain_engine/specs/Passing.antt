-- What a chain sends for one packet: what its switch sends for each packet that its injector sends for it; and what a service stands for.
use Rattle.std.specs.Prelude.{◌≡◌, ℕ, List, [], ◌∷◌, ◌++◌, Option, None, Some}
use Rattle.ts_packet.specs.Fields.{pid_of}
use Rattle.ts_packet.specs.declared.sink.PutFault.{PutFault}
use Rattle.psi_tables.specs.declared.config.Config.{Config}
use Rattle.psi_tables.specs.declared.network.FeedFault.{FeedFault}
use Rattle.psi_tables.specs.declared.network.FeedFault.TheVariants.{Network, Sink, Failed}
use Rattle.program_follower.specs.Faults.{network_fault, first_fault}
use Rattle.program_follower.specs.Purposes.{writing_cues}
use Rattle.program_follower.specs.Following.{IsUnfollowed}
use Rattle.program_follower.specs.declared.starts.StreamPart.{StreamPart}
use Rattle.outgoing_packets.specs.Numbers.{FrontFails}
use Rattle.injector.specs.Steps.{Step, Packet, packets_in, cued, sent_at}
use Rattle.injector.specs.Injecting.{GoesOnAlone, InjectorStandsFor}
use Rattle.cued_laws.specs.Laws.{ArePacketsOfBytes}
use Rattle.ad_library.specs.Advertisements.{Advertisement}
use Rattle.splice_plans.specs.Adverts.{setting_of}
use Rattle.splice_plans.specs.Switching.{Setting, switched_at_packet}
use Rattle.splice_switch.specs.Standing.{SwitchStandsFor, switch_unasked}
use Rattle.chain_engine.specs.declared.service.Service.{Service}

-- what a switch sends for these packets, one after another, behind a past
abbrev pub switched_over : Setting → List (List ℕ) → List (List ℕ) → List (List ℕ)
switched_over k past [] = []
switched_over k past (p ∷ ps) = switched_at_packet k p past ++ switched_over k (p ∷ past) ps

-- WHAT A CHAIN SENDS for a packet behind these steps, in order
abbrev pub chain_at : Config → (ℕ → Option Advertisement) → List ℕ → List Step → List (List ℕ)
chain_at c filed p steps = switched_over (setting_of c filed) (cued c steps) (sent_at c p steps)

-- the packets of a network so far, newest first, are of bytes, and none of them is at fault
pub record IsSoundNetwork (c : Config) (past : List (List ℕ)) : Type 0 where
  pub bytes : ArePacketsOfBytes past
  pub sound : first_fault (writing_cues c) past ≡ None

-- A service has gone these steps: its injector has, and its switch was fed all that they send.
pub record ServiceStandsFor (s : Service) (c : Config) (filed : ℕ → Option Advertisement) (steps : List Step) : Type 0 where
  pub injector : InjectorStandsFor s.injector c steps
  pub switch : SwitchStandsFor s.switch c filed (cued c steps)
  pub network : IsSoundNetwork c (packets_in steps)
  pub config : s.config ≡ c

-- A packet changes nothing of a service that has gone these steps: nothing of the service is on the packet's PID, the service stands for the
-- packet too as it is, and the packet goes out alone.
pub record PassesBy (s : Service) (c : Config) (filed : ℕ → Option Advertisement) (p : List ℕ) (steps : List Step) : Type 0 where
  pub unfollowed : IsUnfollowed (Some c.program) (Some c.cue_pid) (pid_of p) (packets_in steps)
  pub stands : ServiceStandsFor s c filed (Packet p ∷ steps)
  pub alone : chain_at c filed p steps ≡ p ∷ []

-- A packet goes on alone for a service, as this to its stream, whatever its injector has gone.
abbrev pub GoesOnBy : Service → StreamPart → List ℕ → Type 0
GoesOnBy s of p = (c : Config) (steps : List Step) → InjectorStandsFor s.injector c steps → GoesOnAlone c of p steps

-- the same service, of which it is open whether what was due of the advertisements that run is out
abbrev pub service_unasked : Service → Service
service_unasked s = record s { switch = switch_unasked s.switch }

-- Why a packet was not passed on behind these steps: what is wrong with it behind those before it, and nothing of it is out; or the sink
-- failed behind a front of what it sends. `before` says that nothing more is out.
abbrev pub PassFails : FeedFault → Config → (ℕ → Option Advertisement) → List ℕ → List Step → Type 0
    → (List (List ℕ) → List ℕ → PutFault → Type 0) → Type 0
PassFails (Network fault) c filed p steps before fails = (network_fault (writing_cues c) p (packets_in steps) ≡ Some fault) × before
PassFails (Sink fault) c filed p steps before fails = FrontFails (chain_at c filed p steps) (λ put q. fails put q fault)
PassFails Failed c filed p steps before fails = ⊥
