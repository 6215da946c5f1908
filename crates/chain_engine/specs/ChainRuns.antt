-- Whole runs of the chain: what is put and answered, by the network's bytes, the library and what the automation gave; what a fault says, and
-- what the devices did there.
use Rattle.std.specs.Prelude.{◌≡◌, ◌⊎◌, ℕ, suc, ◌+◌, Bool, false, List, [], ◌∷◌, ◌++◌, Option, None, IfSome, length, reverse}
use Rattle.ts_packet.specs.Packets.{packets_of}
use Rattle.ts_packet.specs.declared.sink.PacketSink as sink
use Rattle.ts_packet.specs.declared.sink.PutFault.{PutFault}
use Rattle.packet_runs.specs.Devices.{OfPackets, OfPut}
use Rattle.psi_section.specs.Assembling.{capped}
use Rattle.psi_tables.specs.declared.config.Config.{Config}
use Rattle.psi_tables.specs.declared.network.FeedFault.{FeedFault}
use Rattle.program_follower.specs.Faults.{network_fault}
use Rattle.scte104_codec.specs.declared.reply.Reply.{Reply}
use Rattle.outgoing_packets.specs.Numbers.{FrontFails}
use Rattle.cued_laws.specs.Laws.{ArePacketsOfBytes}
use Rattle.injector.specs.Steps.{Step, Packet, packets_in, turns_in, cued, judged_in, accepted_in, refused_in}
use Rattle.ad_library.specs.Advertisements.{Advertisement}
use Rattle.splice_plans.specs.Adverts.{setting_of}
use Rattle.splice_plans.specs.Switching.{spliced_network, switched_past, rest_at}
use Rattle.splice_plans.specs.Reporting as events
use Rattle.chain_engine.specs.Automation.{Take, Exchange, takes_and_answers}
use Rattle.chain_engine.specs.Hearing.{answers_to}
use Rattle.chain_engine.specs.Talks.{TalkStandsFor, judged_before, loses}
use Rattle.chain_engine.specs.Stops.{first_run_fault, IsLeftBy, IfSink, StopsBy}
use Rattle.chain_engine.specs.Runs.{asked, steps_of, reply_in, replies_in, sent_by, Serves, ServedBefore, WasServed}
use Rattle.chain_engine.specs.Passing.{ServiceStandsFor, PassFails, chain_at, service_unasked}
use Rattle.chain_engine.specs.declared.hearing.SessionEnd.{SessionEnd}
use Rattle.chain_engine.specs.declared.report.Report.{Report}
use Rattle.chain_engine.specs.declared.chain.Chain.{Chain}
use Rattle.chain_engine.specs.declared.faults.RunFault.{RunFault}
use Rattle.program_follower.specs.Purposes.{writing_cues}

-- THE OUTPUT of these steps, in order: what the switch sends by what the injector sends
abbrev pub chain_sends : Config → (ℕ → Option Advertisement) → List Step → List (List ℕ)
chain_sends c filed steps = reverse (switched_past (setting_of c filed) (cued c steps))

-- ---- the report

-- the messages of these steps, counted; each count stops at the greatest u64
pub record MessagesAre (report : Report) (c : Config) (steps : List Step) : Type 0 where
  pub messages : report.messages ≡ capped (judged_in (turns_in c.program steps))
  pub accepted : report.accepted ≡ capped (accepted_in c.index (turns_in c.program steps))
  pub refused : report.refused ≡ capped (refused_in c.index (turns_in c.program steps))

-- and the events that the switch was cued
pub record Counted (report : Report) (c : Config) (filed : ℕ → Option Advertisement) (steps : List Step) : Type 0 where
  pub messages : MessagesAre report c steps
  pub events : events.ReportIs report.switch (events.report_of (setting_of c filed) (reverse (sent_by c steps)))

-- ---- the theorems

-- THE THEOREM: the network's packets are of bytes, and have no fault; out is the spliced network of the cued stream, which is that of the
-- network and of the requests that were accepted; the replies are those to the messages of all pieces joined; and the report counts messages and events.
-- `is_out` says of packets that they stand behind what was there.
pub record Ran (c : Config) (filed : ℕ → Option Advertisement) (bs : List ℕ) (is_out : List (List ℕ) → Type 0)
    (exchanged : Option SessionEnd → List Take → List Reply → Type 0) (report : Report) : Type 0 where
  pub sound : first_run_fault (writing_cues c) bs ≡ None
  pub bytes : ArePacketsOfBytes (reverse (packets_of bs))
  pub ts : List Take
  pub rs : List Reply
  pub serves : Serves c exchanged ts rs (length (packets_of bs)) (steps_of (length rs) ts (reverse (packets_of bs)))
  pub written : is_out (spliced_network (setting_of c filed) (sent_by c (steps_of (length rs) ts (reverse (packets_of bs)))))
  pub counted : Counted report c filed (steps_of (length rs) ts (reverse (packets_of bs)))

abbrev pub RunsAll : Config → (ℕ → Option Advertisement) → Option (List ℕ) → (List (List ℕ) → Type 0)
    → (Option SessionEnd → List Take → List Reply → Type 0) → Report → Type 0
RunsAll c filed input is_out exchanged report = IfSome input (λ bs. Ran c filed bs is_out exchanged report)

-- ---- faults

-- Behind these steps a front of what was to go out next went out, and then the sink failed so: of what the next of the packets left sends, or,
-- where all packets of a network without a fault are passed, of what was left at the end.
abbrev pub ChainFailsNext : PutFault → Config → (ℕ → Option Advertisement) → List ℕ → List Step → List (List ℕ) → (List (List ℕ) → List ℕ → PutFault → Type 0) → Type 0
ChainFailsNext fault c filed bs steps [] fails = (first_run_fault (writing_cues c) bs ≡ None)
    × FrontFails (rest_at (setting_of c filed) (cued c steps)) (λ put q. fails (chain_sends c filed steps ++ put) q fault)
ChainFailsNext fault c filed bs steps (p ∷ more) fails = FrontFails (chain_at c filed p steps) (λ put q. fails (chain_sends c filed steps ++ put) q fault)

-- what is answered and out, by the packets that were passed on and those left
abbrev pub ChainLeaves : Config → (ℕ → Option Advertisement) → RunFault → (List (List ℕ) → Type 0) → (List (List ℕ) → List ℕ → PutFault → Type 0)
    → (List (List ℕ) → PutFault → Type 0) → (Option SessionEnd → List Take → List Reply → Type 0) → List ℕ → List (List ℕ) → List (List ℕ) → Type 0
ChainLeaves c filed fault is_out fails unsent exchanged bs passed rest =
    WasServed c exchanged fault
    (λ steps. IsLeftBy fault (is_out (chain_sends c filed steps)) (λ x. ChainFailsNext x c filed bs steps rest fails)) passed rest
    ⊎ IfSink fault (λ x. ServedBefore (reply_in c) exchanged (length passed) (λ steps. unsent (chain_sends c filed steps) x) passed)

-- THE THEOREM FOR FAULTS of a run of the chain
abbrev pub ChainStops : Config → (ℕ → Option Advertisement) → RunFault → Option (List ℕ) → (List (List ℕ) → Type 0)
    → (List (List ℕ) → List ℕ → PutFault → Type 0) → (List (List ℕ) → PutFault → Type 0)
    → (Option SessionEnd → List Take → List Reply → Type 0) → Type 0
ChainStops c filed fault input is_out fails unsent exchanged =
    StopsBy (writing_cues c) fault input (ChainLeaves c filed fault is_out fails unsent exchanged)

-- ---- one packet

-- A chain has gone these steps by its configuration: with these takes so many replies were given, before so many packets, none of which is at
-- fault; and what the steps send is out.
pub record HasStepped {M : Type 0} (chain : Chain M) (filed : ℕ → Option Advertisement) (is_out : List (List ℕ) → Type 0)
    (ts : List Take) (n k : ℕ) (steps : List Step) : Type 0 where
  pub talk : TalkStandsFor chain.talk ts n k
  pub service : ServiceStandsFor chain.service chain.service.config filed steps
  pub out : is_out (chain_sends chain.service.config filed steps)
  pub whole : chain.is_spent ≡ false

-- So it is said of a step, by what the chain has gone and put before it.
abbrev pub OfSteps : {M K : Type 0} → Chain M → (ℕ → Option Advertisement) → sink.Ghosts K → K → K
    → (OfPackets → OfPut → List Take → ℕ → ℕ → List Step → Type 0) → Type 0
OfSteps chain filed puts out out' said = (ts : List Take) (n k : ℕ) (steps : List Step) (start : Option (List ℕ)) (before : List (List ℕ))
    → HasStepped chain filed (λ qs. puts.holds out start (before ++ qs)) ts n k steps
    → said (λ qs. puts.holds out' start (before ++ qs)) (λ qs. puts.fails out' start (before ++ qs)) ts n k steps

-- the same chain, of which it is open whether what was due of the advertisements that run is out
abbrev pub chain_unasked : {M : Type 0} → Chain M → Chain M
chain_unasked chain = record chain { service = service_unasked chain.service }

-- the steps before the next packet, where these takes and so many replies came
abbrev pub heard_steps : List Take → ℕ → ℕ → List Step → List Step
heard_steps ts n k steps = asked (judged_before n ts k) steps

-- Before a packet these takes came, and then these replies, each by the history; the last reply was lost, or none. The function is an
-- automation's.
pub record Hears {X : Type 0} (between : X → List Exchange → X → Type 0) (old new : X) (lost : Bool)
    (c : Config) (ts : List Take) (n k : ℕ) (steps : List Step) (more : List Take) (rs : List Reply) : Type 0 where
  pub exchanges : between old (takes_and_answers more (answers_to lost rs)) new
  pub replies : replies_in c (heard_steps (ts ++ more) (n + length rs) k steps) ≡ replies_in c steps ++ rs

-- THE STEP: the automation was heard, and then the packet, which is without fault, was passed on
pub record Stepped {M X : Type 0} (between : X → List Exchange → X → Type 0) (before now : X) (old new : Chain M)
    (filed : ℕ → Option Advertisement) (is_out : List (List ℕ) → Type 0) (ts : List Take) (n k : ℕ) (p : List ℕ) (steps : List Step) : Type 0 where
  pub config : new.service.config ≡ old.service.config
  pub more : List Take
  pub rs : List Reply
  pub hears : Hears between before now (loses old.talk.end new.talk.end) old.service.config ts n k steps more rs
  pub sound : network_fault (writing_cues old.service.config) p (packets_in steps) ≡ None
  pub stands : HasStepped new filed is_out (ts ++ more) (n + length rs) (suc k) (Packet p ∷ heard_steps (ts ++ more) (n + length rs) k steps)

-- the automation was heard, and then the packet was not passed on; the talk is as it was left
pub record StepStops {M X : Type 0} (between : X → List Exchange → X → Type 0) (before now : X) (old new : Chain M) (fault : FeedFault)
    (filed : ℕ → Option Advertisement) (is_out : List (List ℕ) → Type 0) (fails : List (List ℕ) → List ℕ → PutFault → Type 0)
    (ts : List Take) (n k : ℕ) (p : List ℕ) (steps : List Step) : Type 0 where
  pub more : List Take
  pub rs : List Reply
  pub hears : Hears between before now (loses old.talk.end new.talk.end) old.service.config ts n k steps more rs
  pub talk : TalkStandsFor new.talk (ts ++ more) (n + length rs) (suc k)
  pub why : PassFails fault old.service.config filed p (heard_steps (ts ++ more) (n + length rs) k steps) (is_out (chain_sends old.service.config filed steps))
      (λ put q x. fails (chain_sends old.service.config filed steps ++ put) q x)
