-- Runs of several services, where some pieces of messages are spoken of.
use Rattle.std.proofs.Common.{◌≤◌, ℕ, List, length, Option, None, Some, inl, inr, refl}
use Rattle.ts_packet.specs.declared.sink.PutFault.{PutFault}
use Rattle.packet_runs.specs.Stops.{Stopped}
use Rattle.psi_tables.specs.declared.network.FeedFault.TheVariants.{Network, Sink, Failed}
use Rattle.scte104_codec.specs.declared.reply.Reply.{Reply}
use Rattle.injector.specs.Steps.{Step}
use Rattle.chain_engine.specs.Automation.{Take}
use Rattle.chain_engine.specs.Talks.{messages_taken}
use Rattle.chain_engine.specs.Stops.{run_cause, IfSink}
use Rattle.chain_engine.specs.Runs.{ServesBy, ServedBefore, heard_at}
use Rattle.chain_engine.specs.declared.hearing.SessionEnd.{SessionEnd}
use Rattle.chain_engine.specs.declared.faults.RunFault.{RunFault}
use Rattle.chain_engine.specs.declared.faults.RunFault.TheVariants.{Read, Feed, SharedPid}
use Rattle.chain_engine.proofs.RunLemmas.{few_replies}
use Rattle.service_laws.specs.Services.{ServiceTerms, configs_of, services_send}
use Rattle.service_laws.specs.Faults.{services_test}
use Rattle.chain_services.specs.Serving.{reply_by}
use Rattle.chain_services.specs.Runs.{ServicesRunAll, ServicesOut, ServicesLeave, ServicesStop}
use Rattle.chain_services.specs.declared.report.ServiceReport.{ServiceReport}
use Rattle.passages.specs.Runs.{PassesAll, Serves, ServesStop}
use Rattle.passages.specs.declared.listening.ListenFault.{ListenFault}
use Rattle.passages.specs.declared.listening.ListenFault.TheVariants as listen

sink_so : (fault : RunFault) (one two : PutFault → Type 0) → ((x : PutFault) → one x → two x) → IfSink fault one → IfSink fault two
sink_so (Read x) one two so h = h
sink_so (Feed (Network x)) one two so h = h
sink_so (Feed (Sink x)) one two so h = so x h
sink_so (Feed Failed) one two so h = h
sink_so SharedPid one two so h = h

module _ (told told' : Option SessionEnd → List Take → List Reply → Type 0) (so : (ending : Option SessionEnd) (ts : List Take) (rs : List Reply) → length rs ≤ length (messages_taken ts) → told ending ts rs → told' ending ts rs) (services : List ServiceTerms) where
  rule_so : (ts : List Take) (rs : List Reply) (k : ℕ) (steps : List Step) → ServesBy (reply_by services) told ts rs k steps → ServesBy (reply_by services) told' ts rs k steps
  rule_so ts rs k steps h = record {
    ending = h.ending;
    talked = h.talked;
    bytes = h.bytes;
    exchanges = so h.ending ts rs (few_replies h.ending ts (length rs) k h.talked) h.exchanges;
    replies = h.replies;
  }

  served_so : (k : ℕ) (leaves : List Step → Type 0) (passed : List (List ℕ)) → ServedBefore (reply_by services) told k leaves passed → ServedBefore (reply_by services) told' k leaves passed
  served_so k leaves passed h = record { ts = h.ts; rs = h.rs; serves = rule_so h.ts h.rs _ _ h.serves; out = h.out }

  pub ran_so : (input : Option (List ℕ)) (is_out : List (List ℕ) → Type 0) (report : ServiceReport) → ServicesRunAll services input is_out told report
      → ServicesRunAll services input is_out told' report
  ran_so None is_out report h = tt
  ran_so (Some bs) is_out report h =
      record { sound = h.sound; bytes = h.bytes; takes = h.takes; rs = h.rs; serves = rule_so _ _ _ _ h.serves; written = h.written; counted = h.counted }

  pub serves : (input : Option (List ℕ)) (is_out : List (List ℕ) → Type 0) (report : ServiceReport) → ServicesRunAll services input is_out told report
      → PassesAll (Serves services told') input is_out report
  serves None is_out report h = tt
  serves (Some bs) is_out report h =
      (_, record { sound = h.sound; bytes = h.bytes; takes = h.takes; rs = h.rs; serves = rule_so _ _ _ _ h.serves; written = refl; counted = h.counted }, h.written)

  pub serves_so : (input : Option (List ℕ)) (is_out : List (List ℕ) → Type 0) (report : ServiceReport) → PassesAll (Serves services told) input is_out report
      → PassesAll (Serves services told') input is_out report
  serves_so None is_out report h = tt
  serves_so (Some bs) is_out report (ps, h, out) =
      (ps, record { sound = h.sound; bytes = h.bytes; takes = h.takes; rs = h.rs; serves = rule_so _ _ _ _ h.serves; written = h.written; counted = h.counted }, out)

  module _ (fault : RunFault) (is_out : List (List ℕ) → Type 0) (fails : List (List ℕ) → List ℕ → PutFault → Type 0) (unsent : List (List ℕ) → PutFault → Type 0) where
    left_so : (bs : List ℕ) (passed rest : List (List ℕ)) → ServicesLeave services fault is_out fails unsent told bs passed rest → ServicesLeave services fault is_out fails unsent told' bs passed rest
    left_so bs passed rest (inl h) = inl (served_so (heard_at fault rest (length passed)) (λ steps. ServicesOut fault services bs steps rest is_out fails) passed h)
    left_so bs passed rest (inr h) = inr (sink_so fault (λ x. ServedBefore (reply_by services) told (length passed) (λ steps. unsent (services_send services steps) x) passed)
        (λ x. ServedBefore (reply_by services) told' (length passed) (λ steps. unsent (services_send services steps) x) passed)
        (λ x k. served_so (length passed) (λ steps. unsent (services_send services steps) x) passed k) h)

    stopped_so : (bs : List ℕ) → Stopped Read (services_test (configs_of services)) run_cause fault bs (ServicesLeave services fault is_out fails unsent told)
        → Stopped Read (services_test (configs_of services)) run_cause fault bs (ServicesLeave services fault is_out fails unsent told')
    stopped_so bs h = record { passed = h.passed; rest = h.rest; parts = h.parts; sound = h.sound; says = h.says; left = left_so bs h.passed h.rest h.left }

    pub services_stop_so : (input : Option (List ℕ)) → ServicesStop services fault input is_out fails unsent told → ServicesStop services fault input is_out fails unsent told'
    services_stop_so None (bs, h) = (bs, stopped_so bs h)
    services_stop_so (Some bs) h = stopped_so bs h

  pub serves_stop_so : (fault : ListenFault) (input : Option (List ℕ)) (is_out : List (List ℕ) → Type 0) (fails : List (List ℕ) → List ℕ → PutFault → Type 0)
      (unsent : List (List ℕ) → PutFault → Type 0)
      → ServesStop services told fault input is_out fails unsent → ServesStop services told' fault input is_out fails unsent
  serves_stop_so listen.Accept input is_out fails unsent h = h
  serves_stop_so (listen.Run fault) input is_out fails unsent h = services_stop_so fault is_out fails unsent input h
