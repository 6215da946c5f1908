-- Whole runs of several services: what is put and answered, by the network's bytes, the libraries and what the automation gave; what a fault
-- says.
use Rattle.std.specs.Prelude.{◌≡◌, ◌≤◌, ◌⊎◌, ℕ, List, [], ◌∷◌, ◌++◌, length, reverse, false, Option, None, IfSome}
use Rattle.ts_packet.specs.Packets.{packets_of}
use Rattle.ts_packet.specs.declared.sink.PutFault.{PutFault}
use Rattle.packet_runs.specs.Stops as stops
use Rattle.psi_tables.specs.declared.config.Config.{Config}
use Rattle.psi_tables.specs.declared.network.FeedFault.TheVariants.{Network, Sink, Failed}
use Rattle.scte104_codec.specs.declared.reply.Reply.{Reply}
use Rattle.outgoing_packets.specs.Numbers.{FrontFails}
use Rattle.injector.specs.Steps.{Step, Packet}
use Rattle.cued_laws.specs.Laws.{ArePacketsOfBytes}
use Rattle.ad_library.specs.declared.library.AdLibrary.{AdLibrary}
use Rattle.ad_library.specs.Library.{held}
use Rattle.chain_engine.specs.Automation.{Take}
use Rattle.chain_engine.specs.Stops.{run_cause, IfSink}
use Rattle.chain_engine.specs.Talks.{TalkStandsFor}
use Rattle.chain_engine.specs.Runs.{steps_of, heard_at, ServesBy, ServedBefore}
use Rattle.chain_engine.specs.declared.hearing.SessionEnd.{SessionEnd}
use Rattle.chain_engine.specs.declared.faults.RunFault.{RunFault}
use Rattle.chain_engine.specs.declared.faults.RunFault.TheVariants.{Read, Feed, SharedPid}
use Rattle.service_laws.specs.Messages.{share_an_index}
use Rattle.service_laws.specs.Services.{ServiceTerms, configs_of, given_at, services_send, services_rest, services_output}
use Rattle.service_laws.specs.Faults.{services_test, first_services_fault}
use Rattle.chain_services.specs.Owners.{AllTake}
use Rattle.chain_services.specs.Serving.{reply_by, AllServe, AnswersNone, CountsReplies, services_in}
use Rattle.chain_services.specs.Parts.{FrontIsOut, AreEvents}
use Rattle.chain_services.specs.declared.report.ServiceReport.{ServiceReport}
use Rattle.chain_services.specs.declared.services.Services.{Services}

-- ---- services

-- these configurations, each with what its library holds
abbrev pub terms_by : {A : Type 0} → List Config → List (AdLibrary A) → List ServiceTerms
terms_by [] ls = []
terms_by (c ∷ cs) [] = []
terms_by (c ∷ cs) (l ∷ ls) = record { config = c; filed = held l } ∷ terms_by cs ls

-- services of these configurations were given nothing; no two have one index
pub record ServicesStandFor {M : Type 0} (services : Services M) (cs : List Config) : Type 0 where
  pub talk : TalkStandsFor services.talk [] 0 0
  pub serve : (ts : List ServiceTerms) → configs_of ts ≡ cs → AllServe (services_in services.desk) ts []
  pub none : (ts : List ServiceTerms) → configs_of ts ≡ cs → AnswersNone services.desk.none ts
  pub counts : CountsReplies services.desk.counts.messages services.desk.counts.accepted services.desk.counts.refused []
  pub owners : AllTake services.desk.owners
  pub indexes : share_an_index cs ≡ false
  pub few : length cs ≤ 8

-- ---- the theorem

pub record ServicesCounted (report : ServiceReport) (ts : List ServiceTerms) (rs : List Reply) (steps : List Step) : Type 0 where
  pub messages : CountsReplies report.messages report.accepted report.refused rs
  pub events : AreEvents report.services.items ts steps

-- THE THEOREM: the network's packets are of bytes, none is at fault for a service, and no two services share a PID; the output of the services
-- is out; each message is answered by the history of the service that it is for; and the report counts messages and events. `is_out` says of
-- packets that they stand behind what was there.
pub record ServicesRan (ts : List ServiceTerms) (bs : List ℕ) (is_out : List (List ℕ) → Type 0)
    (exchanged : Option SessionEnd → List Take → List Reply → Type 0) (report : ServiceReport) : Type 0 where
  pub sound : first_services_fault (configs_of ts) bs ≡ None
  pub bytes : ArePacketsOfBytes (reverse (packets_of bs))
  pub takes : List Take
  pub rs : List Reply
  pub serves : ServesBy (reply_by ts) exchanged takes rs (length (packets_of bs)) (steps_of (length rs) takes (reverse (packets_of bs)))
  pub written : is_out (services_output ts (steps_of (length rs) takes (reverse (packets_of bs))))
  pub counted : ServicesCounted report ts rs (steps_of (length rs) takes (reverse (packets_of bs)))

abbrev pub ServicesRunAll : List ServiceTerms → Option (List ℕ) → (List (List ℕ) → Type 0)
    → (Option SessionEnd → List Take → List Reply → Type 0) → ServiceReport → Type 0
ServicesRunAll ts input is_out exchanged report = IfSome input (λ bs. ServicesRan ts bs is_out exchanged report)

-- ---- faults

-- What is out where a run stops so behind these steps, with these packets left: a front of what the next of them sends where that is at
-- fault; all that it sends where it makes two services share a PID; and where the sink failed a front of that, or of what was left at the end.
abbrev pub ServicesOut : RunFault → List ServiceTerms → List ℕ → List Step → List (List ℕ) → (List (List ℕ) → Type 0)
    → (List (List ℕ) → List ℕ → PutFault → Type 0) → Type 0
ServicesOut (Read f) ts bs steps rest is_out fails = is_out (services_send ts steps)
ServicesOut (Feed (Network f)) ts bs steps [] is_out fails = ⊥
ServicesOut (Feed (Network f)) ts bs steps (p ∷ more) is_out fails = FrontIsOut (given_at ts p steps) (λ front. is_out (services_send ts steps ++ front))
ServicesOut (Feed (Sink x)) ts bs steps [] is_out fails = (first_services_fault (configs_of ts) bs ≡ None)
    × FrontFails (services_rest ts steps) (λ put q. fails (services_send ts steps ++ put) q x)
ServicesOut (Feed (Sink x)) ts bs steps (p ∷ more) is_out fails = FrontFails (given_at ts p steps) (λ put q. fails (services_send ts steps ++ put) q x)
ServicesOut (Feed Failed) ts bs steps rest is_out fails = ⊥
ServicesOut SharedPid ts bs steps [] is_out fails = ⊥
ServicesOut SharedPid ts bs steps (p ∷ more) is_out fails = is_out (services_send ts (Packet p ∷ steps))

-- what is answered and out, by the packets that were passed on and those left
abbrev pub ServicesLeave : List ServiceTerms → RunFault → (List (List ℕ) → Type 0) → (List (List ℕ) → List ℕ → PutFault → Type 0)
    → (List (List ℕ) → PutFault → Type 0) → (Option SessionEnd → List Take → List Reply → Type 0) → List ℕ → List (List ℕ) → List (List ℕ) → Type 0
ServicesLeave ts fault is_out fails unsent exchanged bs passed rest =
    ServedBefore (reply_by ts) exchanged (heard_at fault rest (length passed)) (λ steps. ServicesOut fault ts bs steps rest is_out fails) passed
    ⊎ IfSink fault (λ x. ServedBefore (reply_by ts) exchanged (length passed) (λ steps. unsent (services_send ts steps) x) passed)

-- THE THEOREM FOR FAULTS of a run of several services
abbrev pub ServicesStop : List ServiceTerms → RunFault → Option (List ℕ) → (List (List ℕ) → Type 0)
    → (List (List ℕ) → List ℕ → PutFault → Type 0) → (List (List ℕ) → PutFault → Type 0)
    → (Option SessionEnd → List Take → List Reply → Type 0) → Type 0
ServicesStop ts fault input is_out fails unsent exchanged =
    stops.StopsBy Read (services_test (configs_of ts)) run_cause fault input (ServicesLeave ts fault is_out fails unsent exchanged)
