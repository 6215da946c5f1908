-- What follows from what is known of a run: of its output, and of what its automation tells.
use Rattle.std.proofs.Common.{ℕ, ◌≤◌, List, Option, None, Some, ◌⊎◌, inl, inr, length}
use Rattle.ts_packet.specs.declared.sink.PutFault.{PutFault}
use Rattle.psi_tables.specs.declared.config.Config.{Config}
use Rattle.scte104_codec.specs.declared.reply.Reply.{Reply}
use Rattle.program_follower.specs.declared.purpose.Purpose.{Purpose}
use Rattle.injector.specs.Steps.{Step}
use Rattle.ad_library.specs.Advertisements.{Advertisement}
use Rattle.chain_engine.specs.Automation.{Take}
use Rattle.psi_tables.specs.declared.network.FeedFault.TheVariants.{Network, Sink, Failed}
use Rattle.chain_engine.specs.declared.faults.RunFault.TheVariants.{Read, Feed, SharedPid}
use Rattle.chain_engine.specs.Talks.{messages_taken}
use Rattle.chain_engine.proofs.RunLemmas.{few_replies}
use Rattle.chain_engine.specs.Stops.{StoppedBy, StopsBy, IfSink}
use Rattle.chain_engine.specs.Runs.{reply_in, Serves, InjectsAll, ServedBefore, WasServed, InjectLeaves, InjectStops}
use Rattle.chain_engine.specs.ChainRuns.{ChainLeaves, ChainStops}
use Rattle.chain_engine.specs.declared.hearing.SessionEnd.{SessionEnd}
use Rattle.chain_engine.specs.declared.report.Report.{Report}
use Rattle.chain_engine.specs.declared.faults.RunFault.{RunFault}
use Rattle.program_follower.specs.Purposes.{writing_cues}

module _ (k : Purpose) (fault : RunFault) where
  stopped_so : (bs : List ℕ) (leaves leaves' : List ℕ → List (List ℕ) → List (List ℕ) → Type 0) → ((bs : List ℕ) (passed rest : List (List ℕ)) → leaves bs passed rest → leaves' bs passed rest)
      → StoppedBy k fault bs leaves → StoppedBy k fault bs leaves'
  stopped_so bs leaves leaves' so h = record { passed = h.passed; rest = h.rest; parts = h.parts; sound = h.sound; says = h.says; left = so bs h.passed h.rest h.left }

  pub leaves_so : (input : Option (List ℕ)) (leaves leaves' : List ℕ → List (List ℕ) → List (List ℕ) → Type 0) → ((bs : List ℕ) (passed rest : List (List ℕ)) → leaves bs passed rest → leaves' bs passed rest)
      → StopsBy k fault input leaves → StopsBy k fault input leaves'
  leaves_so None leaves leaves' so (bs, h) = (bs, stopped_so bs leaves leaves' so h)
  leaves_so (Some bs) leaves leaves' so h = stopped_so bs leaves leaves' so h

module _ (c : Config) (told told' : Option SessionEnd → List Take → List Reply → Type 0) (tells : (e : Option SessionEnd) (ts : List Take) (rs : List Reply) → length rs ≤ length (messages_taken ts) → told e ts rs → told' e ts rs) where
  pub serves_so : (ts : List Take) (rs : List Reply) (k : ℕ) (steps : List Step) → Serves c told ts rs k steps → Serves c told' ts rs k steps
  serves_so ts rs k steps h = record {
    ending = h.ending;
    talked = h.talked;
    bytes = h.bytes;
    exchanges = tells h.ending ts rs (few_replies h.ending ts (length rs) k h.talked) h.exchanges;
    replies = h.replies;
  }

  pub injects_so : (input : Option (List ℕ)) (is_out is_out' : List (List ℕ) → Type 0) (report : Report) → ((ps : List (List ℕ)) → is_out ps → is_out' ps) → InjectsAll c input is_out told report
      → InjectsAll c input is_out' told' report
  injects_so None is_out is_out' report so h = tt
  injects_so (Some bs) is_out is_out' report so h = record { sound = h.sound; ts = h.ts; rs = h.rs; serves = serves_so h.ts h.rs _ _ h.serves; written = so _ h.written; counted = h.counted }

  served_by : (k : ℕ) (leaves : List Step → Type 0) (passed : List (List ℕ)) → ServedBefore (reply_in c) told k leaves passed → ServedBefore (reply_in c) told' k leaves passed
  served_by k leaves passed h = record { ts = h.ts; rs = h.rs; serves = serves_so h.ts h.rs _ _ h.serves; out = h.out }

  sink_so : (fault : RunFault) (one two : PutFault → Type 0) → ((x : PutFault) → one x → two x) → IfSink fault one → IfSink fault two
  sink_so (Read f) one two so h = h
  sink_so (Feed (Network f)) one two so h = h
  sink_so (Feed (Sink f)) one two so h = so f h
  sink_so (Feed Failed) one two so h = h
  sink_so SharedPid one two so h = h

  serves_left : (fault : RunFault) (leaves : List Step → Type 0) (unsent : PutFault → List Step → Type 0) (passed rest : List (List ℕ))
      → WasServed c told fault leaves passed rest ⊎ IfSink fault (λ x. ServedBefore (reply_in c) told (length passed) (unsent x) passed)
      → WasServed c told' fault leaves passed rest ⊎ IfSink fault (λ x. ServedBefore (reply_in c) told' (length passed) (unsent x) passed)
  serves_left fault leaves unsent passed rest (inl h) = inl (served_by _ leaves passed h)
  serves_left fault leaves unsent passed rest (inr h) = inr (sink_so fault _ _ (λ x. served_by (length passed) (unsent x) passed) h)

  pub stops_so : (fault : RunFault) (input : Option (List ℕ)) (is_out : List (List ℕ) → Type 0) (fails : List (List ℕ) → List ℕ → PutFault → Type 0) (unsent : List (List ℕ) → PutFault → Type 0)
      → InjectStops c fault input is_out fails unsent told → InjectStops c fault input is_out fails unsent told'
  stops_so fault input is_out fails unsent =
      leaves_so (writing_cues c) fault input (InjectLeaves c fault is_out fails unsent told) (InjectLeaves c fault is_out fails unsent told') (λ bs passed rest. serves_left fault _ _ passed rest)

  pub chain_stops_so : (filed : ℕ → Option Advertisement) (fault : RunFault) (input : Option (List ℕ)) (is_out : List (List ℕ) → Type 0) (fails : List (List ℕ) → List ℕ → PutFault → Type 0)
      (unsent : List (List ℕ) → PutFault → Type 0) → ChainStops c filed fault input is_out fails unsent told → ChainStops c filed fault input is_out fails unsent told'
  chain_stops_so filed fault input is_out fails unsent =
      leaves_so (writing_cues c) fault input (ChainLeaves c filed fault is_out fails unsent told) (ChainLeaves c filed fault is_out fails unsent told') (λ bs passed rest. serves_left fault _ _ passed rest)
