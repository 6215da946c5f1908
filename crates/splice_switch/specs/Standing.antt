-- What a switch stands for.
use Rattle.std.specs.Prelude.{◌≡◌, ℕ, List, ◌∷◌, false, Option, None, Some, option_map}
use Rattle.ts_packet.specs.declared.sink.PutFault.{PutFault}
use Rattle.psi_tables.specs.declared.config.Config.{Config}
use Rattle.psi_tables.specs.declared.network.FeedFault.{FeedFault}
use Rattle.psi_tables.specs.declared.network.FeedFault.TheVariants.{Network, Sink, Failed}
use Rattle.program_follower.specs.declared.start_follower.StartPlace.{StartPlace}
use Rattle.program_follower.specs.declared.start_follower.StartPlace.TheVariants as places
use Rattle.program_follower.specs.declared.starts.StartPacket.TheVariants.{Start}
use Rattle.unit_stream.specs.declared.clock.Begun.{Begun}
use Rattle.program_follower.specs.declared.purpose.Listed.{Listed}
use Rattle.program_follower.specs.declared.purpose.Purpose.{Purpose}
use Rattle.program_follower.specs.Purposes.{reading_cues}
use Rattle.program_follower.specs.Program.{listed}
use Rattle.program_follower.specs.declared.starts.StreamPart.{StreamPart}
use Rattle.program_follower.specs.Following.{IsPartOf, StartsStandFor, StartsShow, IsStartPlace}
use Rattle.program_follower.specs.Faults.{network_fault, first_fault}
use Rattle.outgoing_packets.specs.Numbers.{HasPut, GoOnAs, FrontFails}
use Rattle.ad_library.specs.Advertisements.{Advertisement}
use Rattle.splice_switch.specs.declared.switch.Switch.{Switch}
use Rattle.splice_plans.specs.Switching.{switched_at_packet, rest_at}
use Rattle.splice_plans.specs.Stepping.{Journey, journey_at, puts_next}
use Rattle.splice_plans.specs.Adverts.{setting_of}
use Rattle.splice_playing.specs.Relations.{PlaysBy, unasked}

-- what the numbers of outgoing packets stand for: packets whose counters go on as those of all that is out
pub record Numbers (s : Switch) (l : Option Listed) (out : List (List ℕ)) : Type 0 where
  pub passed : List (List ℕ)
  pub put : HasPut s.out passed
  pub go_on : GoOnAs l passed out

-- It has come so far, with this library, and answered no fault.
pub record SwitchStandsAt (s : Switch) (c : Config) (filed : ℕ → Option Advertisement) (x : Journey) : Type 0 where
  pub cue_pid : s.cue_pid ≡ c.cue_pid
  pub follower : StartsStandFor s.follower (reading_cues c) x.read
  pub clean : first_fault (reading_cues c) x.read ≡ None
  pub playing : PlaysBy s.playing (setting_of c filed) x.read x.counted
  pub numbers : Numbers s (listed (Some c.program) x.read) x.put
  pub whole : s.is_spent ≡ false

-- It has been given this past, with this library, and answered no fault.
abbrev pub SwitchStandsFor : Switch → Config → (ℕ → Option Advertisement) → List (List ℕ) → Type 0
SwitchStandsFor s c filed past = SwitchStandsAt s c filed (journey_at (setting_of c filed) past)

-- Its follower has read this past, also where packets of it went out beside the switch: all that tells what is wrong with the next one.
abbrev pub SwitchFollows : Switch → Purpose → List (List ℕ) → Type 0
SwitchFollows s c past = StartsStandFor s.follower c past

-- the same switch, of which it is open whether what was due of the advertisements that run is out
abbrev pub switch_unasked : Switch → Switch
switch_unasked s = record s { playing = unasked s.playing }

-- Why a packet was not taken: what is wrong with it behind those before it, before anything was put; or the sink failed behind a front of
-- what the packet puts.
abbrev pub FeedFails : FeedFault → Config → (ℕ → Option Advertisement) → List ℕ → List (List ℕ)
    → (List (List ℕ) → List ℕ → PutFault → Type 0) → Type 0
FeedFails (Network fault) c filed p past fails = network_fault (reading_cues c) p past ≡ Some fault
FeedFails (Sink fault) c filed p past fails = FrontFails (switched_at_packet (setting_of c filed) p past) (λ put q. fails put q fault)
FeedFails Failed c filed p past fails = ⊥

-- the same where it has come so far
abbrev pub FeedFailsAt : FeedFault → Config → (ℕ → Option Advertisement) → List ℕ → Journey
    → (List (List ℕ) → List ℕ → PutFault → Type 0) → Type 0
FeedFailsAt (Network fault) c filed p x fails = network_fault (reading_cues c) p x.read ≡ Some fault
FeedFailsAt (Sink fault) c filed p x fails = FrontFails (puts_next (setting_of c filed) x p) (λ put q. fails put q fault)
FeedFailsAt Failed c filed p x fails = ⊥

-- at the end the network is not at fault
abbrev pub FinishFails : FeedFault → Config → (ℕ → Option Advertisement) → List (List ℕ)
    → (List (List ℕ) → List ℕ → PutFault → Type 0) → Type 0
FinishFails (Network fault) c filed past fails = ⊥
FinishFails (Sink fault) c filed past fails = FrontFails (rest_at (setting_of c filed) past) (λ put q. fails put q fault)
FinishFails Failed c filed past fails = ⊥

-- the next packet is this to its stream, and was not taken yet
pub record GoesOnAt (s : Switch) (of : StreamPart) (c : Config) (filed : ℕ → Option Advertisement) (p : List ℕ) (x : Journey) : Type 0 where
  pub stands : SwitchStandsAt s c filed x
  pub part : IsPartOf (reading_cues c) of p x.read

-- the follower has been given the packet, which is of this place, and nothing was put yet
pub record IsFollowedAs (s : Switch) (place : StartPlace) (c : Config) (filed : ℕ → Option Advertisement)
    (p : List ℕ) (x : Journey) : Type 0 where
  pub cue_pid : s.cue_pid ≡ c.cue_pid
  pub follower : StartsStandFor s.follower (reading_cues c) (p ∷ x.read)
  pub shows : StartsShow s.follower (reading_cues c) (p ∷ x.read)
  pub clean : first_fault (reading_cues c) x.read ≡ None
  pub sound : network_fault (reading_cues c) p x.read ≡ None
  pub place_is : IsStartPlace place (reading_cues c) p x.read
  pub playing : PlaysBy s.playing (setting_of c filed) x.read x.counted
  pub numbers : Numbers s (listed (Some c.program) x.read) x.put
  pub whole : s.is_spent ≡ false

-- the same, of a packet that begins a unit with this stamp, in the stream of this number
pub record IsStart (s : Switch) (number : ℕ) (time : Option ℕ) (c : Config) (filed : ℕ → Option Advertisement)
    (p : List ℕ) (x : Journey) : Type 0 where
  pub begun : Option Begun
  pub followed : IsFollowedAs s (places.Stream number (Start begun)) c filed p x
  pub time_is : time ≡ option_map (λ (b : Begun). b.pts) begun
