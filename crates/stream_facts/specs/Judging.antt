-- Whether the chain takes a stream: the first thing that is wrong with its packets, by what comes before each, newest first.
use Rattle.std.specs.Option.{option_or}
use Rattle.std.specs.Prelude.{◌≡◌, ℕ, ◌-◌, List, [], ◌∷◌, false, not, ◌==◌, if◌then◌else◌, Option, None, Some, option_map, is_some, map, length, nat_le, nat_lt}
use Rattle.program_follower.specs.declared.follower.ProgramFollower.{ProgramFollower}
use Rattle.program_follower.specs.declared.purpose.Purpose.{Purpose}
use Rattle.program_follower.specs.Faults.{network_fault}
use Rattle.program_follower.specs.Program.{known_map}
use Rattle.program_follower.specs.Following.{FollowerStandsFor}
use Rattle.stream_facts.specs.declared.facts.Damage.{Damage}
use Rattle.stream_facts.specs.declared.facts.Profile.{Profile}
use Rattle.stream_facts.specs.declared.facts.Profile.TheVariants.{Taken, Faulty, NoProgram}
use Rattle.stream_facts.specs.declared.facts.StreamFault.{StreamFault}
use Rattle.stream_facts.specs.declared.facts.Wrong.{Wrong}
use Rattle.stream_facts.specs.declared.facts.Wrong.TheVariants.{Network, SyncLost, BadAdaptation, Truncated, NotPlain}
use Rattle.stream_facts.specs.declared.packet_size.PacketSize.{PacketSize}
use Rattle.stream_facts.specs.declared.packet_size.PacketSize.TheVariants.{Plain, Timed, Coded}
use Rattle.stream_facts.specs.declared.judge.Judge.{Judge}

-- a packet, and what stands before it that is no packet, or none that can be read, itself included
pub record Fed : Type 0 where
  pub packet : List ℕ
  pub damage : Damage

abbrev pub fed_of : List ℕ → Damage → Fed
fed_of p d = record { packet = p; damage = d }

abbrev pub packets_in : List Fed → List (List ℕ)
packets_in past = map (λ (f : Fed). f.packet) past

-- what is wrong before the newest packet and with it
abbrev pub damage_in : List Fed → Damage
damage_in [] = record { skipped = 0; mended = 0 }
damage_in (f ∷ past) = f.damage

-- the program of this number, or the first, and no cue of ours
abbrev pub wish_of : Option ℕ → Purpose
wish_of number = record { program = number; cue_pid = None; writes_cues = false }

-- what is wrong with a packet: bytes before it that are in none, its adaptation field, or what the network says
abbrev pub wrong_at : Purpose → Fed → List Fed → Option Wrong
wrong_at c f past = if not (f.damage.skipped == (damage_in past).skipped) then Some SyncLost
    else (if not (f.damage.mended == (damage_in past).mended) then Some BadAdaptation
    else option_map Network (network_fault c f.packet (packets_in past)))

-- something wrong, with its packet
abbrev pub at_packet : ℕ → Wrong → StreamFault
at_packet place wrong = record { wrong = wrong; packet = place }

abbrev pub stream_fault_at : Purpose → Fed → List Fed → Option StreamFault
stream_fault_at c f past = option_map (at_packet (length past)) (wrong_at c f past)

-- THE FIRST FAULT of a run
abbrev pub first_wrong : Purpose → List Fed → Option StreamFault
first_wrong c [] = None
first_wrong c (f ∷ past) = option_or (first_wrong c past) (stream_fault_at c f past)

-- ---- in the end, with so much that is no packet in all

-- a whole packet's bytes or more behind the last packet are in none, or fewer; or a map of the program was read, or none
abbrev pub profile_at_end : Purpose → Damage → List Fed → Profile
profile_at_end c damage past = if nat_le 188 (damage.skipped - (damage_in past).skipped) then Faulty (at_packet (length past) SyncLost)
    else (if nat_lt 0 (damage.skipped - (damage_in past).skipped) then Faulty (at_packet (length past) Truncated)
    else (if is_some (known_map c.program (packets_in past)) then Taken
    else NoProgram))

abbrev pub or_end : Option StreamFault → Profile → Profile
or_end None profile = profile
or_end (Some fault) profile = Faulty fault

abbrev pub not_plain : ℕ → Profile
not_plain place = Faulty (at_packet place NotPlain)

-- WHETHER THE CHAIN TAKES IT: packets with bytes before them are none from the first on, those with bytes behind them from the second on;
-- plain ones are taken where nothing is wrong
abbrev pub profile_of : Purpose → PacketSize → Damage → List Fed → Profile
profile_of c Timed damage past = not_plain 0
profile_of c Coded damage past = not_plain 1
profile_of c Plain damage past = or_end (first_wrong c past) (profile_at_end c damage past)

-- ---- a judge

-- what it keeps where nothing was wrong
pub record IsGood (j : Judge) (c : Purpose) (past : List Fed) : Type 0 where
  pub follows : FollowerStandsFor j.follower c (packets_in past)
  pub damage : j.damage ≡ damage_in past

-- it has judged this past
pub record Judged (j : Judge) (c : Purpose) (past : List Fed) : Type 0 where
  pub verdict : j.verdict ≡ first_wrong c past
  pub good : j.verdict ≡ None → IsGood j c past

abbrev pub OfJudged : Judge → (Purpose → List Fed → Type 0) → Type 0
OfJudged j says = (c : Purpose) (past : List Fed) → Judged j c past → says c past

-- the fault of a packet, or it has none and is followed
abbrev pub Meets : Option StreamFault → ProgramFollower → Purpose → Fed → List Fed → Type 0
Meets found follower c f past = (found ≡ stream_fault_at c f past)
    × (found ≡ None → FollowerStandsFor follower c (packets_in (f ∷ past)))

abbrev pub MeetsWrong : Option Wrong → ProgramFollower → Purpose → Fed → List Fed → Type 0
MeetsWrong found follower c f past = (found ≡ wrong_at c f past)
    × (found ≡ None → FollowerStandsFor follower c (packets_in (f ∷ past)))
