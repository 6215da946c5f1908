-- What a switch says of the packets that it takes: behind each past that it was given, and by how far it has come.
use Rattle.std.specs.Prelude.{ℕ, List, ◌++◌, Option, Result, OnOk, IfErr}
use Rattle.ts_packet.specs.declared.sink.PacketSink as sink
use Rattle.psi_tables.specs.declared.config.Config.{Config}
use Rattle.psi_tables.specs.declared.network.FeedFault.{FeedFault}
use Rattle.ad_library.specs.Advertisements.{Advertisement}
use Rattle.splice_plans.specs.Adverts.{setting_of}
use Rattle.splice_plans.specs.Switching.{switched_at_packet}
use Rattle.splice_plans.specs.Stepping.{Journey, puts_next, journey_next}
use Rattle.splice_playing.specs.Puts.{OfPuts}
use Rattle.splice_switch.specs.declared.switch.Switch.{Switch}
use Rattle.splice_switch.specs.Standing.{SwitchStandsAt, SwitchStandsFor, FeedFails, FeedFailsAt}

module _ (switch : Switch) (filed : ℕ → Option Advertisement) where
  -- so it is said of each past that it was given, and of how far it has come
  abbrev pub OfGiven : (Config → List (List ℕ) → Type 0) → Type 0
  OfGiven said = (c : Config) (past : List (List ℕ)) → SwitchStandsFor switch c filed past → said c past

  abbrev pub OfJourney : (Config → Journey → Type 0) → Type 0
  OfJourney said = (c : Config) (x : Journey) → SwitchStandsAt switch c filed x → said c x

  -- and of what it puts for this packet
  abbrev pub OfNext : {S : Type 0} → List ℕ → sink.Ghosts S → S → OfPuts → Type 0
  OfNext p puts out said = (start : Option (List ℕ)) (before : List (List ℕ)) (c : Config) (past : List (List ℕ))
      → puts.holds out start before → SwitchStandsFor switch c filed past → said start before (switched_at_packet (setting_of c filed) p past)

  abbrev pub OfNextAt : {S : Type 0} → List ℕ → sink.Ghosts S → S → OfPuts → Type 0
  OfNextAt p puts out said = (start : Option (List ℕ)) (before : List (List ℕ)) (c : Config) (x : Journey)
      → puts.holds out start before → SwitchStandsAt switch c filed x → said start before (puts_next (setting_of c filed) x p)

  -- where it does not take it
  abbrev pub FailsToTake : {S R : Type 0} → List ℕ → sink.Ghosts S → S → S → Result R FeedFault → Type 0
  FailsToTake p puts out out' answer = (start : Option (List ℕ)) (before : List (List ℕ)) (c : Config) (past : List (List ℕ))
      → puts.holds out start before → SwitchStandsFor switch c filed past
      → IfErr answer (λ f. FeedFails f c filed p past (λ put q x. puts.fails out' start (before ++ put) q x))

  abbrev pub FailsToTakeAt : {S R : Type 0} → List ℕ → sink.Ghosts S → S → S → Result R FeedFault → Type 0
  FailsToTakeAt p puts out out' answer = (start : Option (List ℕ)) (before : List (List ℕ)) (c : Config) (x : Journey)
      → puts.holds out start before → SwitchStandsAt switch c filed x
      → IfErr answer (λ f. FeedFailsAt f c filed p x (λ put q fault. puts.fails out' start (before ++ put) q fault))

-- it has come further, by this packet
abbrev pub ComesFurther : {R F : Type 0} → Switch → (ℕ → Option Advertisement) → List ℕ → Result R F → Config → Journey → Type 0
ComesFurther switch filed p answer c x = OnOk answer (SwitchStandsAt switch c filed (journey_next (setting_of c filed) x p))

-- So it is said of a packet that was followed, as `followed` says, and of what is put for it.
module _ (followed : Config → (ℕ → Option Advertisement) → List ℕ → Journey → Type 0) (filed : ℕ → Option Advertisement) (p : List ℕ) where
  abbrev pub AtFollowed : (Config → Journey → Type 0) → Type 0
  AtFollowed said = (c : Config) (x : Journey) → followed c filed p x → said c x

  abbrev pub OfFollowedPuts : {S : Type 0} → sink.Ghosts S → S → OfPuts → Type 0
  OfFollowedPuts puts out said = (start : Option (List ℕ)) (before : List (List ℕ)) (c : Config) (x : Journey)
      → puts.holds out start before → followed c filed p x → said start before (puts_next (setting_of c filed) x p)
