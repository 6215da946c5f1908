-- Laws of what a passage says that stopped: where what is known of the packets that are out has another form, it is said in that.
use Rattle.std.specs.Prelude.{ℕ, List, [], ◌∷◌, ◌++◌, Option, None, Some, ◌⊎◌, length}
use Rattle.std.proofs.Common.{inl, inr}
use Rattle.ts_packet.specs.Packets.{packets_of}
use Rattle.ts_packet.specs.Runs.{Seen}
use Rattle.ts_packet.specs.FirstFault.{Cause, OfInput, OfDevice, OfNothing, SaysBy}
use Rattle.ts_packet.specs.declared.reader.ReadFault.{ReadFault}
use Rattle.ts_packet.specs.declared.sink.PutFault.{PutFault}
use Rattle.packet_runs.specs.Stops as stops
use Rattle.packet_runs.specs.Devices.{OfPackets, OfPut, OfSending}
use Rattle.unit_cut.specs.Runs as cuts
use Rattle.unit_cut.specs.Cutting.{cut_between}
use Rattle.unit_cut.specs.FirstFault.{cut_cause}
use Rattle.unit_cut.specs.declared.run.CutFault.{CutFault}
use Rattle.unit_cut.specs.declared.run.CutFault.TheVariants as cut
use Rattle.psi_tables.specs.declared.config.Config.{Config}
use Rattle.psi_tables.specs.declared.network.FeedFault.TheVariants.{Network, Sink, Failed}
use Rattle.program_follower.specs.FirstFault.{network_test}
use Rattle.program_follower.specs.Purposes.{writing_cues, reading_cues}
use Rattle.ad_library.specs.Advertisements.{Advertisement}
use Rattle.outgoing_packets.specs.Numbers.{FrontFails}
use Rattle.injector.specs.Steps.{Step}
use Rattle.scte104_codec.specs.Reading.{MessageReading}
use Rattle.scte104_codec.specs.declared.reply.Reply.{Reply}
use Rattle.chain_engine.specs.Automation.{Take}
use Rattle.chain_engine.specs.Stops.{as_run_fault, run_cause, IsLeftBy, IfSink}
use Rattle.chain_engine.specs.Runs.{sent_by, ServedBefore, SendFails, InjectLeaves}
use Rattle.chain_engine.specs.Splices.{switch_sends, FailsNext, SpliceLeaves, SpliceStops}
use Rattle.chain_engine.specs.ChainRuns.{ChainFailsNext, ChainLeaves, chain_sends}
use Rattle.chain_engine.specs.declared.hearing.SessionEnd.{SessionEnd}
use Rattle.chain_engine.specs.declared.faults.RunFault.{RunFault}
use Rattle.chain_engine.specs.declared.faults.RunFault.TheVariants.{Read, Feed, SharedPid}
use Rattle.service_laws.specs.Services.{ServiceTerms, configs_of, services_send}
use Rattle.service_laws.specs.Faults.{services_test}
use Rattle.chain_services.specs.Runs.{ServicesOut, ServicesLeave}
use Rattle.packet_lines.specs.declared.lines.LinesFault.TheVariants.{BadLine, Cut}
use Rattle.passages.specs.declared.listening.ListenFault.{ListenFault}
use Rattle.passages.specs.declared.listening.ListenFault.TheVariants as listen
use Rattle.passages.specs.declared.fault.ProgramFault.{ProgramFault}
use Rattle.passages.specs.declared.fault.ProgramFault.TheVariants.{Lines, Run, Script, List as OfList, Services, Accept, Print, Log, File}
use Rattle.passages.specs.declared.fault.ProgramFault.TheVariants.{Unflushed, OutOfMemory}
use Rattle.passages.specs.Runs.{CuesStop, PlaysStop, ServesStop}
use Rattle.passages.specs.Stops.{OfCut, OfRun, OfAsked, CutStops, SplicingStops, AskedStops}

-- ---- which faults

of_cut_so : (fault : ProgramFault) (one two : CutFault → Type 0) → ((f : CutFault) → one f → two f) → OfCut fault one → OfCut fault two
of_cut_so (Lines BadLine) one two so h = h
of_cut_so (Lines (Cut f)) one two so h = so f h
of_cut_so (Run f) one two so h = h
of_cut_so (Script f) one two so h = h
of_cut_so (OfList f) one two so h = h
of_cut_so (Services f) one two so h = h
of_cut_so Accept one two so h = h
of_cut_so Print one two so h = h
of_cut_so Log one two so h = h
of_cut_so Unflushed one two so h = h
of_cut_so File one two so h = h
of_cut_so OutOfMemory one two so h = h

of_run_so : (fault : ProgramFault) (one two : RunFault → Type 0) → ((f : RunFault) → one f → two f) → OfRun fault one → OfRun fault two
of_run_so (Lines f) one two so h = h
of_run_so (Run f) one two so h = so f h
of_run_so (Script f) one two so h = h
of_run_so (OfList f) one two so h = h
of_run_so (Services f) one two so h = h
of_run_so Accept one two so h = h
of_run_so Print one two so h = h
of_run_so Log one two so h = h
of_run_so Unflushed one two so h = h
of_run_so File one two so h = h
of_run_so OutOfMemory one two so h = h

of_asked_so : (fault : ProgramFault) (one two : ListenFault → Type 0) (refused refused' : Type 0) → ((f : ListenFault) → one f → two f) → (refused → refused')
    → OfAsked fault one refused → OfAsked fault two refused'
of_asked_so (Lines f) one two refused refused' so also h = h
of_asked_so (Run f) one two refused refused' so also h = so (listen.Run f) h
of_asked_so (Script f) one two refused refused' so also h = h
of_asked_so (OfList f) one two refused refused' so also h = h
of_asked_so (Services f) one two refused refused' so also h = h
of_asked_so Accept one two refused refused' so also h = so listen.Accept h
of_asked_so Print one two refused refused' so also h = h
of_asked_so Log one two refused refused' so also h = h
of_asked_so Unflushed one two refused refused' so also h = h
of_asked_so File one two refused refused' so also h = h
of_asked_so OutOfMemory one two refused refused' so also h = also h

-- ---- parts of what they say

says_so : (cause : Cause) (one two : Type 0) → (one → two) → SaysBy cause one → SaysBy cause two
says_so OfInput one two so h = so h
says_so OfDevice one two so h = h
says_so OfNothing one two so h = h

left_by_so : (fault : RunFault) (all all' : Type 0) (next next' : PutFault → Type 0) → (all → all') → ((x : PutFault) → next x → next' x)
    → IsLeftBy fault all next → IsLeftBy fault all' next'
left_by_so (Read f) all all' next next' so also h = so h
left_by_so (Feed (Network f)) all all' next next' so also h = so h
left_by_so (Feed (Sink f)) all all' next next' so also h = also f h
left_by_so (Feed Failed) all all' next next' so also h = h
left_by_so SharedPid all all' next next' so also h = so h

if_sink_so : (fault : RunFault) (one two : PutFault → Type 0) → ((x : PutFault) → one x → two x) → IfSink fault one → IfSink fault two
if_sink_so (Read f) one two so h = h
if_sink_so (Feed (Network f)) one two so h = h
if_sink_so (Feed (Sink f)) one two so h = so f h
if_sink_so (Feed Failed) one two so h = h
if_sink_so SharedPid one two so h = h

front_so : (packets : List (List ℕ)) (one two : List (List ℕ) → List ℕ → Type 0) → ((put : List (List ℕ)) (p : List ℕ) → one put p → two put p)
    → FrontFails packets one → FrontFails packets two
front_so packets one two so h = record { put = h.put; packet = h.packet; left = h.left; all = h.all; fault = so h.put h.packet h.fault }

served_so : (rule : MessageReading → List Step → Reply) (exchanged : Option SessionEnd → List Take → List Reply → Type 0) (k : ℕ)
    (one two : List Step → Type 0) (passed : List (List ℕ)) → ((steps : List Step) → one steps → two steps)
    → ServedBefore rule exchanged k one passed → ServedBefore rule exchanged k two passed
served_so rule exchanged k one two passed so h = record { ts = h.ts; rs = h.rs; serves = h.serves; out = so _ h.out }

module _ {F : Type 0} (name : ReadFault → F) (test : Seen → Option F) (cause : F → Cause) (fault : F)
    (one two : List ℕ → List (List ℕ) → List (List ℕ) → Type 0)
    (so : (bs : List ℕ) (passed rest : List (List ℕ)) → one bs passed rest → two bs passed rest) where
  stopped_so : (bs : List ℕ) → stops.Stopped name test cause fault bs one → stops.Stopped name test cause fault bs two
  stopped_so bs h = record { passed = h.passed; rest = h.rest; parts = h.parts; sound = h.sound; says = h.says; left = so bs h.passed h.rest h.left }

  stops_so : (input : Option (List ℕ)) → stops.StopsBy name test cause fault input one → stops.StopsBy name test cause fault input two
  stops_so None (bs, h) = (bs, stopped_so bs h)
  stops_so (Some bs) h = stopped_so bs h

-- ---- the laws

module _ (is_out is_out' : OfPackets) (fails fails' : OfPut) (unsent unsent' : OfSending)
    (out_so : (ps : List (List ℕ)) → is_out ps → is_out' ps)
    (fails_so : (ps : List (List ℕ)) (p : List ℕ) (fault : PutFault) → fails ps p fault → fails' ps p fault)
    (unsent_so : (ps : List (List ℕ)) (fault : PutFault) → unsent ps fault → unsent' ps fault) where
  -- of a cut
  cut_front : (whole : List (List ℕ)) → cuts.FrontIsOut whole is_out → cuts.FrontIsOut whole is_out'
  cut_front whole (front, more, same, h) = (front, more, same, out_so front h)

  cut_left : (fault : CutFault) (whole : List (List ℕ)) → cuts.Leaves fault whole is_out fails unsent → cuts.Leaves fault whole is_out' fails' unsent'
  cut_left (cut.Read f) whole h = cut_front whole h
  cut_left cut.Scrambled whole h = cut_front whole h
  cut_left cut.HeaderSplit whole h = cut_front whole h
  cut_left cut.TimeJump whole h = cut_front whole h
  cut_left (cut.Sink f) whole (inl (front, p, more, same, h)) = inl (front, p, more, same, fails_so front p f h)
  cut_left (cut.Sink f) whole (inr (front, more, same, h)) = inr (front, more, same, unsent_so front f h)

  cut_so : (fault : CutFault) (pid from length : ℕ) (input : Option (List ℕ)) → cuts.Stops fault pid from length input is_out fails unsent
      → cuts.Stops fault pid from length input is_out' fails' unsent'
  cut_so fault pid from length None h = h
  cut_so fault pid from length (Some bs) h = (
    says_so (cut_cause fault) _ _ (λ first. record { first = first.first; before = out_so _ first.before }) h.0,
    cut_left fault (cut_between from length pid (packets_of bs)) h.1,
  )

  pub cut-stops-so : (pid from length : ℕ) (fault : ProgramFault) (input : Option (List ℕ)) → CutStops pid from length fault input is_out fails unsent
      → CutStops pid from length fault input is_out' fails' unsent'
  cut-stops-so pid from length fault input = of_cut_so fault _ _ (λ f. cut_so f pid from length input)

  -- of a run with advertisements
  switch_next : (c : Config) (filed : ℕ → Option Advertisement) (bs : List ℕ) (passed rest : List (List ℕ)) (one two : List (List ℕ) → List ℕ → Type 0)
      → ((put : List (List ℕ)) (p : List ℕ) → one put p → two put p) → FailsNext c filed bs passed rest one → FailsNext c filed bs passed rest two
  switch_next c filed bs passed [] one two so (none, h) = (none, front_so _ one two so h)
  switch_next c filed bs passed (p ∷ more) one two so h = front_so _ one two so h

  switch_fails : (c : Config) (filed : ℕ → Option Advertisement) (bs : List ℕ) (passed rest : List (List ℕ)) (x : PutFault)
      → FailsNext c filed bs passed rest (λ put q. fails (switch_sends c filed passed ++ put) q x) ⊎ unsent (switch_sends c filed passed) x
      → FailsNext c filed bs passed rest (λ put q. fails' (switch_sends c filed passed ++ put) q x) ⊎ unsent' (switch_sends c filed passed) x
  switch_fails c filed bs passed rest x (inl h) = inl (switch_next c filed bs passed rest _ _ (λ put q. fails_so (switch_sends c filed passed ++ put) q x) h)
  switch_fails c filed bs passed rest x (inr h) = inr (unsent_so (switch_sends c filed passed) x h)

  switch_so : (c : Config) (filed : ℕ → Option Advertisement) (fault : RunFault) (input : Option (List ℕ)) → SpliceStops c filed fault input is_out fails unsent
      → SpliceStops c filed fault input is_out' fails' unsent'
  switch_so c filed fault = stops_so Read (network_test as_run_fault (reading_cues c)) run_cause fault
      (SpliceLeaves c filed fault is_out fails unsent) (SpliceLeaves c filed fault is_out' fails' unsent')
      (λ bs passed rest. left_by_so fault _ _ _ _ (out_so (switch_sends c filed passed)) (switch_fails c filed bs passed rest))

  pub splicing-stops-so : (c : Config) (filed : ℕ → Option Advertisement) (fault : ProgramFault) (input : Option (List ℕ))
      → SplicingStops c filed fault input is_out fails unsent → SplicingStops c filed fault input is_out' fails' unsent'
  splicing-stops-so c filed fault input = of_run_so fault _ _ (λ f. switch_so c filed f input)

  module _ (told : Option SessionEnd → List Take → List Reply → Type 0) where
    -- of a run with cues
    sends_so : (c : Config) (steps : List Step) (rest : List (List ℕ)) (x : PutFault) → SendFails c steps rest (λ qs q. fails qs q x)
        → SendFails c steps rest (λ qs q. fails' qs q x)
    sends_so c steps rest x (p, more, same, h) = (p, more, same, front_so _ _ _ (λ put q. fails_so (sent_by c steps ++ put) q x) h)

    cues_left : (c : Config) (fault : RunFault) (bs : List ℕ) (passed rest : List (List ℕ)) → InjectLeaves c fault is_out fails unsent told bs passed rest
        → InjectLeaves c fault is_out' fails' unsent' told bs passed rest
    cues_left c fault bs passed rest (inl h) =
        inl (served_so _ _ _ _ _ passed (λ steps. left_by_so fault _ _ _ _ (out_so (sent_by c steps)) (sends_so c steps rest)) h)
    cues_left c fault bs passed rest (inr h) = inr (if_sink_so fault _ _ (λ x. served_so _ _ _ _ _ passed (λ steps. unsent_so (sent_by c steps) x)) h)

    cues_stop : (c : Config) (fault : ListenFault) (input : Option (List ℕ)) → CuesStop c told fault input is_out fails unsent
        → CuesStop c told fault input is_out' fails' unsent'
    cues_stop c listen.Accept input h = out_so [] h
    cues_stop c (listen.Run fault) input h = stops_so Read (network_test as_run_fault (writing_cues c)) run_cause fault
        (InjectLeaves c fault is_out fails unsent told) (InjectLeaves c fault is_out' fails' unsent' told) (cues_left c fault) input h

    pub cues-stop-so : (c : Config) (fault : ProgramFault) (input : Option (List ℕ)) → AskedStops (CuesStop c told) fault input is_out fails unsent
        → AskedStops (CuesStop c told) fault input is_out' fails' unsent'
    cues-stop-so c fault input = of_asked_so fault _ _ _ _ (λ f. cues_stop c f input) (out_so [])

    -- of one with cues and advertisements
    chain_next : (x : PutFault) (c : Config) (filed : ℕ → Option Advertisement) (bs : List ℕ) (steps : List Step) (rest : List (List ℕ))
        → ChainFailsNext x c filed bs steps rest fails → ChainFailsNext x c filed bs steps rest fails'
    chain_next x c filed bs steps [] (none, h) = (none, front_so _ _ _ (λ put q. fails_so (chain_sends c filed steps ++ put) q x) h)
    chain_next x c filed bs steps (p ∷ more) h = front_so _ _ _ (λ put q. fails_so (chain_sends c filed steps ++ put) q x) h

    plays_left : (c : Config) (filed : ℕ → Option Advertisement) (fault : RunFault) (bs : List ℕ) (passed rest : List (List ℕ))
        → ChainLeaves c filed fault is_out fails unsent told bs passed rest → ChainLeaves c filed fault is_out' fails' unsent' told bs passed rest
    plays_left c filed fault bs passed rest (inl h) =
        inl (served_so _ _ _ _ _ passed (λ steps. left_by_so fault _ _ _ _ (out_so (chain_sends c filed steps)) (λ x. chain_next x c filed bs steps rest)) h)
    plays_left c filed fault bs passed rest (inr h) =
        inr (if_sink_so fault _ _ (λ x. served_so _ _ _ _ _ passed (λ steps. unsent_so (chain_sends c filed steps) x)) h)

    plays_stop : (c : Config) (filed : ℕ → Option Advertisement) (fault : ListenFault) (input : Option (List ℕ))
        → PlaysStop c filed told fault input is_out fails unsent → PlaysStop c filed told fault input is_out' fails' unsent'
    plays_stop c filed listen.Accept input h = out_so [] h
    plays_stop c filed (listen.Run fault) input h = stops_so Read (network_test as_run_fault (writing_cues c)) run_cause fault
        (ChainLeaves c filed fault is_out fails unsent told) (ChainLeaves c filed fault is_out' fails' unsent' told) (plays_left c filed fault) input h

    pub plays-stop-so : (c : Config) (filed : ℕ → Option Advertisement) (fault : ProgramFault) (input : Option (List ℕ))
        → AskedStops (PlaysStop c filed told) fault input is_out fails unsent → AskedStops (PlaysStop c filed told) fault input is_out' fails' unsent'
    plays-stop-so c filed fault input = of_asked_so fault _ _ _ _ (λ f. plays_stop c filed f input) (out_so [])

    -- of one of several services
    services_out : (fault : RunFault) (ts : List ServiceTerms) (bs : List ℕ) (steps : List Step) (rest : List (List ℕ))
        → ServicesOut fault ts bs steps rest is_out fails → ServicesOut fault ts bs steps rest is_out' fails'
    services_out (Read f) ts bs steps rest h = out_so _ h
    services_out (Feed (Network f)) ts bs steps [] h = h
    services_out (Feed (Network f)) ts bs steps (p ∷ more) h =
        record { front = h.front; left = h.left; all = h.all; out = out_so (services_send ts steps ++ h.front) h.out }
    services_out (Feed (Sink x)) ts bs steps [] (none, h) = (none, front_so _ _ _ (λ put q. fails_so (services_send ts steps ++ put) q x) h)
    services_out (Feed (Sink x)) ts bs steps (p ∷ more) h = front_so _ _ _ (λ put q. fails_so (services_send ts steps ++ put) q x) h
    services_out (Feed Failed) ts bs steps rest h = h
    services_out SharedPid ts bs steps [] h = h
    services_out SharedPid ts bs steps (p ∷ more) h = out_so _ h

    serves_left : (ts : List ServiceTerms) (fault : RunFault) (bs : List ℕ) (passed rest : List (List ℕ))
        → ServicesLeave ts fault is_out fails unsent told bs passed rest → ServicesLeave ts fault is_out' fails' unsent' told bs passed rest
    serves_left ts fault bs passed rest (inl h) = inl (served_so _ _ _ _ _ passed (λ steps. services_out fault ts bs steps rest) h)
    serves_left ts fault bs passed rest (inr h) =
        inr (if_sink_so fault _ _ (λ x. served_so _ _ _ _ _ passed (λ steps. unsent_so (services_send ts steps) x)) h)

    serves_stop : (ts : List ServiceTerms) (fault : ListenFault) (input : Option (List ℕ)) → ServesStop ts told fault input is_out fails unsent
        → ServesStop ts told fault input is_out' fails' unsent'
    serves_stop ts listen.Accept input h = out_so [] h
    serves_stop ts (listen.Run fault) input h = stops_so Read (services_test (configs_of ts)) run_cause fault
        (ServicesLeave ts fault is_out fails unsent told) (ServicesLeave ts fault is_out' fails' unsent' told) (serves_left ts fault) input h

    pub serves-stop-so : (ts : List ServiceTerms) (fault : ProgramFault) (input : Option (List ℕ)) → AskedStops (ServesStop ts told) fault input is_out fails unsent
        → AskedStops (ServesStop ts told) fault input is_out' fails' unsent'
    serves-stop-so ts fault input = of_asked_so fault _ _ _ _ (λ f. serves_stop ts f input) (out_so [])
