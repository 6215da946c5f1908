-- The laws of several services in one stream.
use Rattle.std.specs.Prelude.{◌≡◌, ℕ, not, true, false, List, [], ◌∷◌, filter, flat_map, reverse, length, Option, None, Some}
use Rattle.std.specs.List.{AllByRecursion}
use Rattle.wire_fields.specs.Numbers.{AreBytes}
use Rattle.ts_packet.specs.Fields.{on, on_one}
use Rattle.psi_tables.specs.declared.config.Config.{Config}
use Rattle.scte104_codec.specs.Reading.{MessageReading}
use Rattle.injector.specs.Replies.{reply_to}
use Rattle.injector.specs.Steps.{Step, packets_in, turns_in, cued}
use Rattle.ad_library.specs.Advertisements.{Advertisement}
use Rattle.splice_plans.specs.Adverts.{setting_of}
use Rattle.splice_plans.specs.Switching.{rest_at, spliced_network}
use Rattle.chain_engine.specs.Automation.{Take, bytes_of}
use Rattle.chain_engine.specs.Talks.{HasTalked}
use Rattle.chain_engine.specs.Runs.{steps_of, sent_by}
use Rattle.chain_engine.specs.Passing.{IsSoundNetwork, chain_at}
use Rattle.service_laws.specs.Messages.{is_for, own_steps, reply_of_none}
use Rattle.program_follower.specs.Program.{known_pids}
use Rattle.service_laws.specs.Services.{ServiceTerms, configs_of, services_output}
use Rattle.service_laws.specs.Faults.{share_a_pid}
use Rattle.service_laws.specs.Takes.{own_takes, own_judged}

-- ---- messages

-- Of a service with all messages, and with its own alone: the same is sent, a message of its own has the same reply, and any other one that of
-- a message that is for no service.
pub record IsByItsOwn (c : Config) (steps : List Step) : Type 0 where
  pub sent : cued c steps ≡ cued c (own_steps c.index steps)
  pub reply : (m : MessageReading) → is_for c.index m ≡ true → reply_to c.index m (turns_in c.program steps) ≡ reply_to c.index m (turns_in c.program (own_steps c.index steps))
  pub other_reply : (m : MessageReading) → is_for c.index m ≡ false → reply_to c.index m (turns_in c.program steps) ≡ reply_of_none m

-- THE LAW OF OTHERS' MESSAGES: they change nothing of a service
abbrev pub OthersMessagesChangeNothing : Type 0
OthersMessagesChangeNothing = (c : Config) (steps : List Step) → IsByItsOwn c steps

-- the takes are those of a session that is open behind them, their messages are the service's own at their places, and they are bytes
pub record GivesItsOwn (index most : ℕ) (ts : List Take) (past : List (List ℕ)) : Type 0 where
  pub steps : steps_of (own_judged index most ts (length past)) (own_takes index most ts (length past)) past ≡ own_steps index (steps_of most ts past)
  pub talked : HasTalked None (own_takes index most ts (length past)) (own_judged index most ts (length past)) (length past)
  pub bytes : AreBytes (bytes_of (own_takes index most ts (length past)))

-- THE LAW OF TAKES: a run that is given a service's own messages at their marks has its history
abbrev pub OwnTakesGive : Type 0
OwnTakesGive = (index most : ℕ) (ts : List Take) (past : List (List ℕ)) → AreBytes (bytes_of ts) → GivesItsOwn index most ts past

-- ---- packets

-- THE LAW OF OTHERS' PACKETS: for a packet that is on no PID of a service its chain sends exactly that packet
abbrev pub OthersPacketsPass : Type 0
OthersPacketsPass = (c : Config) (filed : ℕ → Option Advertisement) (p : List ℕ) (steps : List Step) → IsSoundNetwork c (p ∷ packets_in steps) →
    on_one (known_pids (Some c.program) (packets_in steps)) p ≡ false → chain_at c filed p steps ≡ p ∷ []

-- all packets are on the PIDs of a service
abbrev pub AreIts : Config → List Step → List (List ℕ) → Type 0
AreIts c steps qs = AllByRecursion (λ q. on_one (known_pids (Some c.program) (packets_in steps)) q ≡ true) qs

-- THE LAW OF OWN PACKETS: for a packet on one of its PIDs it sends packets on its PIDs alone, and so at the end
abbrev pub OwnPacketsStay : Type 0
OwnPacketsStay = (c : Config) (filed : ℕ → Option Advertisement) (p : List ℕ) (steps : List Step) → IsSoundNetwork c (p ∷ packets_in steps) →
    on_one (known_pids (Some c.program) (packets_in steps)) p ≡ true → AreIts c steps (chain_at c filed p steps)

abbrev pub OwnRestStays : Type 0
OwnRestStays = (c : Config) (filed : ℕ → Option Advertisement) (steps : List Step) → IsSoundNetwork c (packets_in steps) →
    AreIts c steps (rest_at (setting_of c filed) (cued c steps))

-- ---- the output

-- these services run on this network, none is at fault, and no two share a PID
pub record AreServed (ss : List ServiceTerms) (past : List (List ℕ)) : Type 0 where
  pub sound : AllByRecursion (λ (s : ServiceTerms). IsSoundNetwork s.config past) ss
  pub apart : share_a_pid (configs_of ss) past ≡ false

-- the packets of a service's PIDs in the output are, as one list, those of a run of its chain alone, with its own messages
abbrev pub IsAlone : List ServiceTerms → List Step → ServiceTerms → Type 0
IsAlone ss steps s =
    filter (on_one (known_pids (Some s.config.program) (packets_in steps))) (services_output ss steps)
    ≡ filter (on_one (known_pids (Some s.config.program) (packets_in steps))) (spliced_network (setting_of s.config s.filed) (sent_by s.config (own_steps s.config.index steps)))

-- THE LAW OF ISOLATION
abbrev pub EachIsAlone : Type 0
EachIsAlone = (ss : List ServiceTerms) (steps : List Step) → AreServed ss (packets_in steps) → AllByRecursion (IsAlone ss steps) ss

-- the PIDs of all services
abbrev pub all_pids : List ServiceTerms → List (List ℕ) → List ℕ
all_pids ss past = flat_map (λ (s : ServiceTerms). known_pids (Some s.config.program) past) ss

-- THE LAW OF THE REST: the packets marked in error and those on the PIDs of no service are the network's, byte for byte, as one list; and no
-- packet is on a cue PID but those that are marked in error
abbrev pub OthersAreTheNetworks : Type 0
OthersAreTheNetworks = (ss : List ServiceTerms) (steps : List Step) → AreServed ss (packets_in steps) →
    filter (λ q. not (on_one (all_pids ss (packets_in steps)) q)) (services_output ss steps)
    ≡ filter (λ q. not (on_one (all_pids ss (packets_in steps)) q)) (reverse (packets_in steps))

abbrev pub NoCueGoesOut : Type 0
NoCueGoesOut = (ss : List ServiceTerms) (steps : List Step) → AreServed ss (packets_in steps) →
    AllByRecursion (λ (s : ServiceTerms). filter (on s.config.cue_pid) (services_output ss steps) ≡ []) ss
