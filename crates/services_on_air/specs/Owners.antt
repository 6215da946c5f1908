-- Which services take the packets of a PID: the others need not be shown them.
use Rattle.std.specs.Prelude.{◌≡◌, ◌<◌, ◌≤◌, ◌%◌, ◌/◌, ℕ, false, List, [], ◌∷◌, length, drop, slice_index_or, Some}
use Rattle.program_follower.specs.Following.{IsUnfollowed}
use Rattle.program_follower.specs.declared.starts.StreamPart.{StreamPart}
use Rattle.chain_engine.specs.Passing.{GoesOnBy}
use Rattle.chain_services.specs.Owners.{IsShifted}
use Rattle.chain_services.specs.declared.owners.Alone.{Alone}
use Rattle.on_air.specs.Stretches.{Entry, as_read}
use Rattle.on_air.specs.AirRuns.{newest, has_no}
use Rattle.services_on_air.specs.Airing.{Airing, before_last}
use Rattle.services_on_air.specs.declared.service.AirService.{AirService}

-- ---- by the packets

-- nothing of the service is on the PID, behind the PAT of its newest stretch and these packets of that; and it has not ended
pub record IsBesideBehind (past : List Entry) (pid : ℕ) (a : Airing) : Type 0 where
  pub begun : has_no a.stretches ≡ false
  pub alone : a.shares ≡ false
  pub unfollowed : IsUnfollowed (Some a.config.program) (Some a.config.cue_pid) pid (as_read past)

-- behind all packets; and where the next one is settled, behind those before it
abbrev pub IsBeside : ℕ → Airing → Type 0
IsBeside pid a = IsBesideBehind (newest a.stretches) pid a

abbrev pub IsBesideAhead : ℕ → Airing → Type 0
IsBesideAhead pid a = IsBesideBehind (before_last (newest a.stretches)) pid a

-- where bit n of a number is not set, it is so of the service of number n
abbrev pub LeavesOutOnAir : (Airing → Type 0) → ℕ → List Airing → Type 0
LeavesOutOnAir beside takers [] = Unit {0}
LeavesOutOnAir beside takers (a ∷ xs) = (takers % 2 ≡ 0 → beside a) × LeavesOutOnAir beside (takers / 2) xs

-- It is told of each PID (ISO/IEC 13818-1, 2.4.3.3: 13 bits) by such a number, or by 255 where all services take its packets.
abbrev pub IsToldBy : (ℕ → Airing → Type 0) → List ℕ → List Airing → Type 0
IsToldBy beside owners xs = (pid : ℕ) → pid < 8192 → slice_index_or owners pid 0 < 255
    → LeavesOutOnAir (beside pid) (slice_index_or owners pid 0) xs

abbrev pub HasOwnersOnAir : List ℕ → List Airing → Type 0
HasOwnersOnAir owners xs = IsToldBy IsBeside owners xs

abbrev pub HasOwnersAhead : List ℕ → List Airing → Type 0
HasOwnersAhead owners ys = IsToldBy IsBesideAhead owners ys

-- ---- by the services

-- none left the packet unjudged that was settled last
abbrev pub AllJudged : List AirService → Type 0
AllJudged [] = Unit {0}
AllJudged (s ∷ ss) = (s.is_unjudged ≡ false) × AllJudged ss

-- a packet of this PID, which comes next, need not be settled for a service, or for those that do not take it
abbrev pub MayStay : AirService → ℕ → Airing → Type 0
MayStay s pid a = IsBeside pid a × (s.is_unjudged ≡ false)

abbrev pub MayAllStay : ℕ → List AirService → ℕ → List Airing → Type 0
MayAllStay takers ss pid xs = LeavesOutOnAir (IsBeside pid) takers xs × AllJudged ss

-- and one of this PID that is settled need not pass through it: it judges that, and no request was accepted since the last one
pub record IsLeftOut (s : AirService) (pid : ℕ) (a : Airing) : Type 0 where
  pub judged : s.is_unjudged ≡ false
  pub quiet : s.service.injector.has_news ≡ false
  pub beside : IsBesideAhead pid a

abbrev pub AreLeftOut : ℕ → List AirService → ℕ → List Airing → Type 0
AreLeftOut takers [] pid ys = Unit {0}
AreLeftOut takers (s ∷ ss) pid [] = Unit {0}
AreLeftOut takers (s ∷ ss) pid (a ∷ ys) = (takers % 2 ≡ 0 → IsLeftOut s pid a) × AreLeftOut (takers / 2) ss pid ys

-- the first of these services judges the packet that is settled, which goes on alone there, as this to its stream
abbrev pub FirstGoesOnAir : List AirService → StreamPart → List ℕ → Type 0
FirstGoesOnAir [] of p = ⊥
FirstGoesOnAir (s ∷ ss) of p = (s.is_unjudged ≡ false) × GoesOnBy s.service of p

-- the one behind so many of them alone takes it, and it goes on so
pub record TakerGoesOn (takers : ℕ) (alone : Alone) (ss : List AirService) (p : List ℕ) : Type 0 where
  pub few : alone.count ≤ length ss
  pub taker : IsShifted alone.count 1 takers
  pub goes_on : FirstGoesOnAir (drop alone.count ss) alone.of p
