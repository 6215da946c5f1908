-- What the stage of several services says of itself: what it sends for the packets that it was given, how it refuses one, how its sink fails, and
-- how it ends.
use Rattle.std.specs.Prelude.{◌≡◌, ◌≤◌, ℕ, suc, if◌then◌else◌, List, ◌∷◌, ◌++◌, map, length, reverse, false, Option, None, Some, option_map}
use Rattle.std.specs.Option.{option_or}
use Rattle.ts_packet.specs.Packets.{packets_of}
use Rattle.ts_packet.specs.Runs.{Seen}
use Rattle.ts_packet.specs.declared.sink.PutFault.TheVariants as put_faults
use Rattle.packet_runs.specs.declared.run.Stop.{Stop}
use Rattle.packet_runs.specs.declared.run.Stop.TheVariants as stop
use Rattle.packet_runs.specs.declared.stage.StageFault.{StageFault}
use Rattle.packet_runs.specs.declared.stage.StageFault.TheVariants as stage
use Rattle.psi_tables.specs.declared.config.Config.{Config}
use Rattle.psi_tables.specs.declared.network.FeedFault.{FeedFault}
use Rattle.psi_tables.specs.declared.network.FeedFault.TheVariants as feed
use Rattle.scte104_codec.specs.declared.reply.Reply.{Reply}
use Rattle.outgoing_packets.specs.Numbers.{FrontFails}
use Rattle.injector.specs.Steps.{Step, Packet, packets_in}
use Rattle.ad_library.specs.declared.library.AdLibrary.{AdLibrary}
use Rattle.chain_engine.specs.Automation.{Take}
use Rattle.chain_engine.specs.Runs.{ServedBefore}
use Rattle.chain_engine.specs.Stages.{HasRun}
use Rattle.chain_engine.specs.declared.hearing.SessionEnd.{SessionEnd}
use Rattle.chain_engine.specs.declared.talk.Talk.{Talk}
use Rattle.chain_engine.specs.declared.service.Service.{Service}
use Rattle.chain_engine.specs.declared.faults.RunFault.{RunFault}
use Rattle.chain_engine.specs.declared.faults.RunFault.TheVariants.{Read, Feed, SharedPid}
use Rattle.service_laws.specs.Messages.{share_an_index}
use Rattle.service_laws.specs.Services.{ServiceTerms, configs_of, given_at, services_send, services_rest}
use Rattle.service_laws.specs.Faults.{services_fault, share_a_pid, first_services_fault}
use Rattle.chain_services.specs.Serving.{reply_by, FiledAs, DeskStandsFor, services_in}
use Rattle.chain_services.specs.Parts.{FrontIsOut}
use Rattle.chain_services.specs.Runs.{ServicesRan, terms_by}
use Rattle.chain_services.specs.declared.desk.Desk.{Desk}
use Rattle.chain_services.specs.declared.refusal.Refusal.{Refusal}
use Rattle.chain_services.specs.declared.refusal.Refusal.TheVariants as refusal
use Rattle.chain_services.specs.declared.report.ServiceReport.{ServiceReport}

-- ---- faults

-- what is wrong with a packet
abbrev pub refusal_by : List Config → Seen → Option Refusal
refusal_by cs s = option_or (option_map refusal.Network (services_fault cs s.packet s.past)) (if share_a_pid cs (s.packet ∷ s.past) then Some refusal.SharedPid else None)

-- the fault of a run whose stage stopped it so
abbrev pub services_fault_of : Stop Refusal → RunFault
services_fault_of (stop.Read f) = Read f
services_fault_of (stop.Packet (refusal.Network f)) = Feed (feed.Network f)
services_fault_of (stop.Packet refusal.SharedPid) = SharedPid
services_fault_of (stop.Sink f) = Feed (feed.Sink f)

-- what the stage says of such a fault of a service
abbrev pub stage_fault_of : FeedFault → StageFault Refusal
stage_fault_of (feed.Network f) = stage.Packet (refusal.Network f)
stage_fault_of (feed.Sink f) = stage.Sink f
stage_fault_of feed.Failed = stage.Sink put_faults.Failed

-- ---- the stage

abbrev pub configs_in : {M : Type 0} → Desk M → List Config
configs_in desk = map (λ (s : Service). s.config) (services_in desk)

-- what the services stand for, each with its library
abbrev pub terms_in : {M A : Type 0} → Desk M → List (AdLibrary A) → List ServiceTerms
terms_in desk libraries = terms_by (configs_in desk) libraries

abbrev pub DeskServes : {M : Type 0} → List ServiceTerms → Desk M → List Step → Type 0
DeskServes ts desk steps = DeskStandsFor desk ts steps

-- services that were given nothing have passed these packets on, and sent these
pub record ServicesSend {M A : Type 0} (ts : List ServiceTerms) (desk : Desk M) (talk : Talk M) (libraries : List (AdLibrary A))
    (exchanged : Option SessionEnd → List Take → List Reply → Type 0) (ps qs : List (List ℕ)) : Type 0 where
  pub filed : FiledAs libraries ts
  pub indexes : share_an_index (configs_of ts) ≡ false
  pub few : length ts ≤ 8
  pub apart : share_a_pid (configs_of ts) (reverse ps) ≡ false
  pub run : HasRun (DeskServes ts) (reply_by ts) desk talk (λ steps. services_send ts steps ≡ qs) exchanged ps

-- what is out where a packet is refused: a front of what it sends, and all of that where it is without fault for each service
pub record RefusedSends (ts : List ServiceTerms) (p : List ℕ) (steps : List Step) (sent : List (List ℕ)) : Type 0 where
  pub front : FrontIsOut (given_at ts p steps) (λ front. services_send ts steps ++ front ≡ sent)
  pub whole : services_fault (configs_of ts) p (packets_in steps) ≡ None → services_send ts (Packet p ∷ steps) ≡ sent

abbrev pub ServicesRefuse : List ServiceTerms → (Option SessionEnd → List Take → List Reply → Type 0) → List (List ℕ) → List (List ℕ) → List ℕ → Type 0
ServicesRefuse ts exchanged ps sent p = ServedBefore (reply_by ts) exchanged (suc (length ps)) (λ steps. RefusedSends ts p steps sent) ps

abbrev pub ServicesBreak : List ServiceTerms → (Option SessionEnd → List Take → List Reply → Type 0) → List (List ℕ) → Option (List ℕ)
    → List (List ℕ) → List ℕ → Type 0
ServicesBreak ts exchanged ps (Some p) put q = ServedBefore (reply_by ts) exchanged (suc (length ps))
    (λ steps. FrontFails (given_at ts p steps) (λ front r. (services_send ts steps ++ front ≡ put) × (r ≡ q))) ps
ServicesBreak ts exchanged ps None put q = ServedBefore (reply_by ts) exchanged (length ps)
    (λ steps. FrontFails (services_rest ts steps) (λ front r. (services_send ts steps ++ front ≡ put) × (r ≡ q))) ps

abbrev pub ServicesEnd : List ServiceTerms → (Option SessionEnd → List Take → List Reply → Type 0) → List (List ℕ) → List (List ℕ) → ServiceReport → Type 0
ServicesEnd ts exchanged ps sent report = (bs : List ℕ) → packets_of bs ≡ ps → first_services_fault (configs_of ts) bs ≡ None →
    ServicesRan ts bs (λ l. l ≡ sent) exchanged report
