-- How far a switch has come: with a packet that went through it where all did, and with one that it read and put nothing for.
use Rattle.std.proofs.Common.{ℕ, List, ◌∷◌, subst}
use Rattle.std.specs.Prelude.{Option}
use Rattle.ts_packet.specs.declared.sink.PutFault.{PutFault}
use Rattle.psi_tables.specs.declared.config.Config.{Config}
use Rattle.psi_tables.specs.declared.network.FeedFault.{FeedFault}
use Rattle.psi_tables.specs.declared.network.FeedFault.TheVariants.{Network, Sink, Failed}
use Rattle.outgoing_packets.specs.Numbers.{FrontFails}
use Rattle.ad_library.specs.Advertisements.{Advertisement}
use Rattle.splice_plans.specs.Adverts.{setting_of}
use Rattle.splice_plans.specs.Stepping.{journey_at, journey_next}
use Rattle.known_laws.proofs.SteppingLemmas.{steps_are_of_moves}
use Rattle.splice_switch.specs.declared.switch.Switch.{Switch}
use Rattle.splice_switch.specs.Standing.{SwitchStandsAt, SwitchStandsFor, FeedFails, FeedFailsAt}

module _ (c : Config) (filed : ℕ → Option Advertisement) (p : List ℕ) (past : List (List ℕ)) where
  pub stands-next : (s : Switch) → SwitchStandsAt s c filed (journey_next (setting_of c filed) (journey_at (setting_of c filed) past) p) → SwitchStandsFor s c filed (p ∷ past)
  stands-next s h = subst (SwitchStandsAt s c filed) ((steps_are_of_moves (setting_of c filed) past).journey p) h

  pub fails-next : (fault : FeedFault) (fails : List (List ℕ) → List ℕ → PutFault → Type 0) → FeedFailsAt fault c filed p (journey_at (setting_of c filed) past) fails → FeedFails fault c filed p past fails
  fails-next (Network fault) fails h = h
  fails-next (Sink fault) fails h = subst (λ qs. FrontFails qs (λ put q. fails put q fault)) ((steps_are_of_moves (setting_of c filed) past).puts p) h
  fails-next Failed fails h = h
