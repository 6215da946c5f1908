-- What an injector stands for.
use Rattle.std.specs.Prelude.{Option, ◌≡◌, ℕ, List, ◌∷◌, Bool, false, None, Some, Result, Ok, Err}
use Rattle.ts_packet.specs.declared.sink.PutFault.{PutFault}
use Rattle.psi_section.specs.Assembling.{capped}
use Rattle.psi_tables.specs.declared.config.Config.{Config}
use Rattle.psi_tables.specs.declared.network.FeedFault.{FeedFault}
use Rattle.psi_tables.specs.declared.network.FeedFault.TheVariants.{Network, Sink, Failed}
use Rattle.psi_tables.specs.declared.network.NetworkFault.{NetworkFault}
use Rattle.program_follower.specs.Program.{listed}
use Rattle.program_follower.specs.Following.{IsPartOf, StartsStandFor, StartsShow, on_map, high_of}
use Rattle.program_follower.specs.declared.starts.StreamPart.{StreamPart}
use Rattle.program_follower.specs.Faults.{network_fault}
use Rattle.outgoing_packets.specs.Numbers.{HasPut, GoOnAs, FrontFails}
use Rattle.outgoing_packets.specs.declared.outgoing.Outgoing.{Outgoing}
use Rattle.program_laws.specs.Writing.{number_on}
use Rattle.program_follower.specs.declared.purpose.Listed.{Listed}
use Rattle.injector.specs.declared.counts.MessageCounts.{MessageCounts}
use Rattle.injector.specs.declared.injector.Injector.{Injector}
use Rattle.injector.specs.Turns.{Turn, greatest_in}
use Rattle.injector.specs.Senders.{standing_senders, IsIdle}
use Rattle.injector.specs.Requests.{RequestsStandFor}
use Rattle.injector.specs.Noting.{NotesStandFor, Rests}
use Rattle.injector.specs.Steps.{Step, packets_in, turns_in, cued, sent_at, has_news, judged_in}
use Rattle.injector.specs.Steps.{accepted_in, refused_in}
use Rattle.program_follower.specs.Purposes.{writing_cues}

-- the time until which no cue is due
abbrev pub RestsAt : Option ℕ → ℕ → List Turn → Type 0
RestsAt rest index past = Rests rest (greatest_in past) (standing_senders index past)

-- each count stops at the greatest u64
pub record CountsAre (counts : MessageCounts) (index : ℕ) (past : List Turn) : Type 0 where
  pub messages : counts.messages ≡ capped (judged_in past)
  pub accepted : counts.accepted ≡ capped (accepted_in index past)
  pub refused : counts.refused ≡ capped (refused_in index past)

-- It judges and counts messages by this history, also after a fault.
pub record JudgesBy (i : Injector) (c : Config) (past : List Step) : Type 0 where
  pub requests : RequestsStandFor i.requests c.index (turns_in c.program past)
  pub counted : CountsAre i.counts c.index (turns_in c.program past)

-- What the numbers of its outgoing packets stand for: packets whose counters go on as those of all that is out, also on the PID of the cues.
pub record CuesGoOn (o : Outgoing) (cue_pid : ℕ) (l : Option Listed) (out : List (List ℕ)) : Type 0 where
  pub passed : List (List ℕ)
  pub put : HasPut o passed
  pub cues : number_on cue_pid passed ≡ number_on cue_pid out
  pub go_on : GoOnAs l passed out

-- It has been given this history, and answered no fault.
pub record InjectorStandsFor (i : Injector) (c : Config) (past : List Step) : Type 0 where
  pub judges : JudgesBy i c past
  pub cue_pid : i.cue_pid ≡ c.cue_pid
  pub notes : NotesStandFor i.requests c.index (turns_in c.program past)
  pub news : i.has_news ≡ has_news c.index (turns_in c.program past)
  pub rest : i.has_news ≡ false → RestsAt i.rest c.index (turns_in c.program past)
  pub follower : StartsStandFor i.follower (writing_cues c) (packets_in past)
  pub out : CuesGoOn i.out c.cue_pid (listed (Some c.program) (packets_in past)) (cued c past)
  pub whole : i.is_spent ≡ false

-- Why a packet was not passed on: what is wrong with it behind those before it, before anything of it was put; or the sink failed behind a
-- front of what the packet sends.
abbrev pub FeedFails : FeedFault → Config → List ℕ → List Step → (List (List ℕ) → List ℕ → PutFault → Type 0) → Type 0
FeedFails (Network fault) c p past fails = network_fault (writing_cues c) p (packets_in past) ≡ Some fault
FeedFails (Sink fault) c p past fails = FrontFails (sent_at c p past) (λ put q. fails put q fault)
FeedFails Failed c p past fails = ⊥

-- what an answer says of the network
abbrev pub network_answer : Result (Unit {0}) FeedFault → Option NetworkFault
network_answer (Ok u) = None
network_answer (Err (Network fault)) = Some fault
network_answer (Err (Sink fault)) = None
network_answer (Err Failed) = None

-- A packet that is this to its switched stream, with which nothing is wrong, where no request was accepted since the last packet and no cue is
-- due before it: it goes out alone.
pub record GoesOnAlone (c : Config) (x : StreamPart) (p : List ℕ) (past : List Step) : Type 0 where
  pub goes_on : IsPartOf (writing_cues c) x p (packets_in past)
  pub quiet : has_news c.index (turns_in c.program past) ≡ false
  pub idle : IsIdle c.index (high_of (Some c.program) (p ∷ packets_in past)) (turns_in c.program past)

-- ---- within

-- the packet was followed, and is on the PID of the map or not
pub record IsBodyOf (i : Injector) (is_map : Bool) (c : Config) (p : List ℕ) (past : List (List ℕ)) : Type 0 where
  pub cue_pid : i.cue_pid ≡ c.cue_pid
  pub follower : StartsStandFor i.follower (writing_cues c) (p ∷ past)
  pub shows : StartsShow i.follower (writing_cues c) (p ∷ past)
  pub sound : network_fault (writing_cues c) p past ≡ None
  pub map : is_map ≡ on_map (listed (Some c.program) past) p

pub record IsFollowed (i : Injector) (is_map : Bool) (c : Config) (p : List ℕ) (past : List Step) : Type 0 where
  pub judges : JudgesBy i c past
  pub notes : NotesStandFor i.requests c.index (turns_in c.program past)
  pub news : i.has_news ≡ has_news c.index (turns_in c.program past)
  pub rest : i.has_news ≡ false → RestsAt i.rest c.index (turns_in c.program past)
  pub body : IsBodyOf i is_map c p (packets_in past)
  pub out : CuesGoOn i.out c.cue_pid (listed (Some c.program) (packets_in past)) (cued c past)
  pub whole : i.is_spent ≡ false

-- the packet was followed and is not on the PID of the map, the greatest time stays with it, and no request was accepted since the last one
pub record IsStill (i : Injector) (c : Config) (p : List ℕ) (past : List Step) : Type 0 where
  pub followed : IsFollowed i false c p past
  pub quiet : i.has_news ≡ false
  pub high : high_of (Some c.program) (p ∷ packets_in past) ≡ high_of (Some c.program) (packets_in past)

-- the follower alone has been given the packet, which goes out alone
pub record HasGoneOn (i : Injector) (c : Config) (x : StreamPart) (p : List ℕ) (past : List Step) : Type 0 where
  pub alone : GoesOnAlone c x p past
  pub judges : JudgesBy i c past
  pub cue_pid : i.cue_pid ≡ c.cue_pid
  pub notes : NotesStandFor i.requests c.index (turns_in c.program past)
  pub news : i.has_news ≡ has_news c.index (turns_in c.program past)
  pub rest : i.has_news ≡ false → RestsAt i.rest c.index (turns_in c.program past)
  pub follower : StartsStandFor i.follower (writing_cues c) (p ∷ packets_in past)
  pub out : CuesGoOn i.out c.cue_pid (listed (Some c.program) (packets_in past)) (cued c past)
  pub whole : i.is_spent ≡ false

-- nothing changes but until when no cue is due, and that a request was accepted
pub record KeepsAllButRest (old new : Injector) : Type 0 where
  pub cue_pid : new.cue_pid ≡ old.cue_pid
  pub requests : new.requests ≡ old.requests
  pub follower : new.follower ≡ old.follower
  pub out : new.out ≡ old.out
  pub counts : new.counts ≡ old.counts
  pub is_spent : new.is_spent ≡ old.is_spent

-- nothing else changes
pub record KeepsRest (old new : Injector) : Type 0 where
  pub cue_pid : new.cue_pid ≡ old.cue_pid
  pub requests : new.requests ≡ old.requests
  pub has_news : new.has_news ≡ old.has_news
  pub rest : new.rest ≡ old.rest
  pub follower : new.follower ≡ old.follower
  pub counts : new.counts ≡ old.counts
  pub is_spent : new.is_spent ≡ old.is_spent
