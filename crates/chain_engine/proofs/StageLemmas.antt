-- From what a run of a stage leaves to what the runs of the chain say.
use Rattle.std.specs.Prelude.{option_map}
use Rattle.std.proofs.Common.{◌≡◌, ℕ, Bool, true, false, reverse, List, [], ◌∷◌, ◌++◌, inl, inr, length, Option, None, Some, refl, sym, ap, subst}
use Rattle.ts_packet.specs.Runs.{Seen}
use Rattle.ts_packet.specs.FirstFault.{first_fault}
use Rattle.ts_packet.specs.declared.sink.PutFault.{PutFault}
use Rattle.packet_runs.specs.Stages.{StepFails, StepBlamed, FinishFails, seen_behind}
use Rattle.packet_runs.specs.Stops as stops
use Rattle.packet_runs.specs.Stops.{refusal_test, stop_cause}
use Rattle.packet_runs.specs.Runs.{Leaves, GoesThrough, SourceBlamedAt, SinkBlamedAt}
use Rattle.ts_packet.specs.declared.reader.ReadFault.TheVariants as read_faults
use Rattle.splice_plans.specs.declared.report.SwitchReport.{SwitchReport}
use Rattle.packet_runs.specs.declared.stage.StageFault.{StageFault}
use Rattle.packet_runs.specs.declared.run.Stop.{Stop}
use Rattle.packet_runs.specs.declared.run.Stop.TheVariants as stop
use Rattle.packet_runs.proofs.StopLemmas.{stops_as, none_as}
use Rattle.psi_tables.specs.declared.config.Config.{Config}
use Rattle.psi_tables.specs.declared.network.NetworkFault.{NetworkFault}
use Rattle.psi_tables.specs.declared.network.FeedFault.{FeedFault}
use Rattle.psi_tables.specs.declared.network.FeedFault.TheVariants.{Network, Sink, Failed}
use Rattle.ts_packet.specs.declared.tally.Tally.{Tally}
use Rattle.ts_packet.specs.Sinks.{Blamed}
use Rattle.ts_packet.specs.Transfers.{WentWell}
use Rattle.ts_packet.proofs.CountLemmas.{well-refl}
use Rattle.program_follower.specs.declared.purpose.Purpose.{Purpose}
use Rattle.program_follower.specs.Faults.{network_fault}
use Rattle.program_follower.specs.FirstFault.{network_test}
use Rattle.program_follower.specs.Purposes.{reading_cues, writing_cues}
use Rattle.scte104_codec.specs.Reading.{MessageReading}
use Rattle.scte104_codec.specs.declared.reply.Reply.{Reply}
use Rattle.outgoing_packets.specs.Numbers.{FrontFails}
use Rattle.outgoing_packets.specs.Faults.{FeedBlamed, KeepsSink}
use Rattle.injector.specs.Injecting.{FeedFails}
use Rattle.splice_switch.specs.Standing as standing
use Rattle.injector.specs.Steps.{Step, cued, sent_at}
use Rattle.ad_library.specs.Advertisements.{Advertisement}
use Rattle.splice_switch.specs.declared.switch.Switch.{Switch}
use Rattle.cued_laws.specs.Laws.{ArePacketsOfBytes}
use Rattle.chain_engine.specs.Automation.{Take}
use Rattle.chain_engine.specs.Stops.{as_run_fault, first_run_fault, run_cause, run_fault_of, stage_fault_of, put_fault_of, StopsBy}
use Rattle.chain_engine.specs.Runs.{sent_by, steps_of, steps_before, reply_in, report_of, Serves, ServedBefore, WasServed, InjectsAll, InjectLeaves, NetworkBlamed, OutputBlamed}
use Rattle.chain_engine.specs.Passing.{PassFails}
use Rattle.chain_engine.specs.Splices.{switch_sends, SplicesAll, SpliceLeaves, NetworkBlamedToEnd}
use Rattle.splice_plans.specs.Adverts.{setting_of}
use Rattle.splice_plans.specs.Switching.{spliced_network}
use Rattle.splice_plans.specs.Reporting as events
use Rattle.chain_engine.specs.ChainRuns.{chain_sends, MessagesAre, RunsAll, ChainLeaves}
use Rattle.chain_engine.specs.declared.report.Report.{Report}
use Rattle.chain_engine.specs.Stages.{HasRun, InjectsFor, ServesFor, InjectSends, InjectRefuses, InjectBreaks, InjectEnds, SpliceSends, SpliceBreaks, SpliceEnds, ChainSends, ChainRefuses, ChainBreaks, ChainEnds}
use Rattle.chain_engine.specs.declared.chain.Chain.{Chain}
use Rattle.chain_engine.specs.declared.service.Service.{Service}
use Rattle.chain_engine.specs.declared.talk.Talk.{Talk}
use Rattle.chain_engine.specs.declared.hearing.SessionEnd.{SessionEnd}
use Rattle.chain_engine.specs.declared.faults.RunFault.{RunFault}
use Rattle.chain_engine.specs.declared.faults.RunFault.TheVariants.{Read, Feed, SharedPid}
use Rattle.chain_engine.proofs.RunLemmas.{HasHeard, run_served, heard_served}
use Rattle.chain_engine.proofs.StepsLemmas.{before_packets, steps_packets}

-- ---- the faults, by the names of a run

abbrev pub refusal_by : Purpose → Seen → Option NetworkFault
refusal_by k s = network_fault k s.packet s.past

same_name : (o : Option NetworkFault) → option_map as_run_fault o ≡ option_map run_fault_of (option_map stop.Packet o)
same_name None = refl
same_name (Some f) = refl

same_test : (k : Purpose) (s : Seen) → network_test as_run_fault k s ≡ option_map run_fault_of (refusal_test (refusal_by k) s)
same_test k s = same_name (network_fault k s.packet s.past)

same_cause : (f : Stop NetworkFault) → run_cause (run_fault_of f) ≡ stop_cause f
same_cause (stop.Read f) = refl
same_cause (stop.Packet f) = refl
same_cause (stop.Sink f) = refl

pub none_by : (k : Purpose) (bs : List ℕ) → first_fault stop.Read (refusal_test (refusal_by k)) bs ≡ None → first_run_fault k bs ≡ None
none_by k bs e = none_as run_fault_of stop.Read Read (refusal_test (refusal_by k)) (network_test as_run_fault k) (λ f. refl) (same_test k) bs e

pub stops_by : (k : Purpose) (fault : Stop NetworkFault) (input : Option (List ℕ)) (leaves leaves' : List ℕ → List (List ℕ) → List (List ℕ) → Type 0)
    → ((bs : List ℕ) (passed rest : List (List ℕ)) → leaves bs passed rest → leaves' bs passed rest)
    → stops.StopsBy stop.Read (refusal_test (refusal_by k)) stop_cause fault input leaves → StopsBy k (run_fault_of fault) input leaves'
stops_by k fault input leaves leaves' so h =
    stops_as run_fault_of stop.Read Read (refusal_test (refusal_by k)) (network_test as_run_fault k) (λ f. refl) (same_test k) stop_cause run_cause fault (same_cause fault) input leaves leaves' so h

-- ---- of whom a front went out

pub front_so : (packets : List (List ℕ)) (fails fails' : List (List ℕ) → List ℕ → Type 0) → ((put : List (List ℕ)) (q : List ℕ) → fails put q → fails' put q) → FrontFails packets fails → FrontFails packets fails'
front_so packets fails fails' so h = record { put = h.put; packet = h.packet; left = h.left; all = h.all; fault = so h.put h.packet h.fault }

pub both_as : (P : List (List ℕ) → List ℕ → Type 0) (l m : List (List ℕ)) (q r : List ℕ) → (l ≡ m) × (q ≡ r) → P m r → P l q
both_as P l m q r e h = subst (λ k. P k q) (sym e.0) (subst (P m) (sym e.1) h)

pub served_so : (rule : MessageReading → List Step → Reply) (exchanged : Option SessionEnd → List Take → List Reply → Type 0) (k : ℕ) (leaves leaves' : List Step → Type 0) (ps : List (List ℕ))
    → ((steps : List Step) → leaves steps → leaves' steps) → ServedBefore rule exchanged k leaves ps → ServedBefore rule exchanged k leaves' ps
served_so rule exchanged k leaves leaves' ps so h = record { ts = h.ts; rs = h.rs; serves = h.serves; out = so _ h.out }

-- ---- what is left

module _ {S : Type 0} (refusal : S → Seen → Option NetworkFault) (sends : S → List (List ℕ) → List (List ℕ) → List ℕ → S → Type 0)
    (refuses : S → List (List ℕ) → List (List ℕ) → List ℕ → S → Type 0) (breaks : S → List (List ℕ) → Option (List ℕ) → List (List ℕ) → List ℕ → S → Type 0)
    (first now : S) (is_out : List (List ℕ) → Type 0) (fails : List (List ℕ) → List ℕ → PutFault → Type 0) (unsent : List (List ℕ) → PutFault → Type 0) where
  abbrev pub LeavesSo : Stop NetworkFault → List ℕ → List (List ℕ) → List (List ℕ) → Type 0
  LeavesSo fault bs passed rest = Leaves sends refuses breaks refusal fault first now is_out fails unsent bs passed rest

  -- of an injector
  module _ {M : Type 0} (one two : Chain M) (exchanged : Option SessionEnd → List Take → List Reply → Type 0)
      (sends_so : (ps qs : List (List ℕ)) (kept : List ℕ) → sends first ps qs kept now → InjectSends one two exchanged ps qs)
      (refuses_so : (ps qs : List (List ℕ)) (p : List ℕ) → refuses first ps qs p now → InjectRefuses one.service.config exchanged ps qs p)
      (breaks_so : (ps : List (List ℕ)) (next : Option (List ℕ)) (put : List (List ℕ)) (q : List ℕ) → breaks first ps next put q now → InjectBreaks one.service.config exchanged ps next put q) where
    pub inject_leaves : (fault : Stop NetworkFault) (bs : List ℕ) (passed rest : List (List ℕ)) → LeavesSo fault bs passed rest
        → InjectLeaves one.service.config (run_fault_of fault) is_out fails unsent exchanged bs passed rest
    inject_leaves (stop.Read f) bs passed rest h =
        let c = one.service.config in
        let run = (sends_so passed h.sent h.kept h.sends_it).run in
        inl (run_served (InjectsFor c) (reply_in c) exchanged passed two.service two.talk _ (λ steps. is_out (sent_by c steps)) run (subst is_out (sym run.out) h.out))
    inject_leaves (stop.Packet f) bs passed rest (p, more, e, h) =
        let c = one.service.config in
        inl (subst (λ l. WasServed c exchanged (Feed (Network f)) (λ steps. is_out (sent_by c steps)) passed l) (sym e)
        (served_so (reply_in c) exchanged _ _ _ passed (λ steps s. subst is_out (sym s) h.out) (refuses_so passed h.sent p h.refuses_it)))
    inject_leaves (stop.Sink f) bs passed rest (inr h) =
        let c = one.service.config in
        let run = (sends_so passed h.sent h.kept h.sends_it).run in
        inr (run_served (InjectsFor c) (reply_in c) exchanged passed two.service two.talk _ (λ steps. unsent (sent_by c steps) f) run (subst (λ l. unsent l f) (sym run.out) h.out))
    inject_leaves (stop.Sink f) bs passed [] (inl (none, h)) = absurd (breaks_so passed None h.sent h.packet h.breaks_so)
    inject_leaves (stop.Sink f) bs passed (p ∷ more) (inl h) =
        let c = one.service.config in
        inl (served_so (reply_in c) exchanged _ _ _ passed
        (λ steps s. (p, more, refl, front_so (sent_at c p steps) _ _ (λ put q e. both_as (λ l r. fails l r f) _ h.sent q h.packet e h.failed) s)) (breaks_so passed (Some p) h.sent h.packet h.breaks_so))

  -- of a switch
  module _ (switch : Switch) (c : Config) (filed : ℕ → Option Advertisement)
      (sends_so : (ps qs : List (List ℕ)) (kept : List ℕ) → sends first ps qs kept now → SpliceSends switch c filed ps qs)
      (refuses_so : (ps qs : List (List ℕ)) (p : List ℕ) → refuses first ps qs p now → switch_sends c filed ps ≡ qs)
      (breaks_so : (ps : List (List ℕ)) (next : Option (List ℕ)) (put : List (List ℕ)) (q : List ℕ) → breaks first ps next put q now → SpliceBreaks c filed ps next put q)
      (none_so : (bs : List ℕ) → first_fault stop.Read (refusal_test (refusal first)) bs ≡ None → first_run_fault (reading_cues c) bs ≡ None) where
    pub splice_leaves : (fault : Stop NetworkFault) (bs : List ℕ) (passed rest : List (List ℕ)) → LeavesSo fault bs passed rest → SpliceLeaves c filed (run_fault_of fault) is_out fails unsent bs passed rest
    splice_leaves (stop.Read f) bs passed rest h = subst is_out (sym (sends_so passed h.sent h.kept h.sends_it).sent) h.out
    splice_leaves (stop.Packet f) bs passed rest (p, more, e, h) = subst is_out (sym (refuses_so passed h.sent p h.refuses_it)) h.out
    splice_leaves (stop.Sink f) bs passed rest (inr h) = inr (subst (λ l. unsent l f) (sym (sends_so passed h.sent h.kept h.sends_it).sent) h.out)
    splice_leaves (stop.Sink f) bs passed [] (inl (none, h)) =
        inl (none_so bs none, front_so _ _ _ (λ put q e. both_as (λ l r. fails l r f) _ h.sent q h.packet e h.failed) (breaks_so passed None h.sent h.packet h.breaks_so))
    splice_leaves (stop.Sink f) bs passed (p ∷ more) (inl h) =
        inl (front_so _ _ _ (λ put q e. both_as (λ l r. fails l r f) _ h.sent q h.packet e h.failed) (breaks_so passed (Some p) h.sent h.packet h.breaks_so))

  -- of a chain
  module _ {M : Type 0} (one two : Chain M) (filed : ℕ → Option Advertisement) (exchanged : Option SessionEnd → List Take → List Reply → Type 0)
      (sends_so : (ps qs : List (List ℕ)) (kept : List ℕ) → sends first ps qs kept now → ChainSends one two filed exchanged ps qs)
      (refuses_so : (ps qs : List (List ℕ)) (p : List ℕ) → refuses first ps qs p now → ChainRefuses one.service.config filed exchanged ps qs p)
      (breaks_so : (ps : List (List ℕ)) (next : Option (List ℕ)) (put : List (List ℕ)) (q : List ℕ) → breaks first ps next put q now → ChainBreaks one.service.config filed exchanged ps next put q)
      (none_so : (bs : List ℕ) → first_fault stop.Read (refusal_test (refusal first)) bs ≡ None → first_run_fault (writing_cues one.service.config) bs ≡ None) where
    pub chain_leaves : (fault : Stop NetworkFault) (bs : List ℕ) (passed rest : List (List ℕ)) → LeavesSo fault bs passed rest
        → ChainLeaves one.service.config filed (run_fault_of fault) is_out fails unsent exchanged bs passed rest
    chain_leaves (stop.Read f) bs passed rest h =
        let c = one.service.config in
        let run = (sends_so passed h.sent h.kept h.sends_it).run in
        inl (run_served (ServesFor c filed) (reply_in c) exchanged passed two.service two.talk _ (λ steps. is_out (chain_sends c filed steps)) run (subst is_out (sym run.out) h.out))
    chain_leaves (stop.Packet f) bs passed rest (p, more, e, h) =
        let c = one.service.config in
        inl (subst (λ l. WasServed c exchanged (Feed (Network f)) (λ steps. is_out (chain_sends c filed steps)) passed l) (sym e)
        (served_so (reply_in c) exchanged _ _ _ passed (λ steps s. subst is_out (sym s) h.out) (refuses_so passed h.sent p h.refuses_it)))
    chain_leaves (stop.Sink f) bs passed rest (inr h) =
        let c = one.service.config in
        let run = (sends_so passed h.sent h.kept h.sends_it).run in
        inr (run_served (ServesFor c filed) (reply_in c) exchanged passed two.service two.talk _ (λ steps. unsent (chain_sends c filed steps) f) run (subst (λ l. unsent l f) (sym run.out) h.out))
    chain_leaves (stop.Sink f) bs passed [] (inl (none, h)) =
        inl (served_so (reply_in one.service.config) exchanged _ _ _ passed
        (λ steps s. (none_so bs none, front_so _ _ _ (λ put q e. both_as (λ l r. fails l r f) _ h.sent q h.packet e h.failed) s)) (breaks_so passed None h.sent h.packet h.breaks_so))
    chain_leaves (stop.Sink f) bs passed (p ∷ more) (inl h) =
        inl (served_so (reply_in one.service.config) exchanged _ _ _ passed
        (λ steps s. front_so _ _ _ (λ put q e. both_as (λ l r. fails l r f) _ h.sent q h.packet e h.failed) s) (breaks_so passed (Some p) h.sent h.packet h.breaks_so))

-- ---- a step

-- what is out of a run is a list
pub run_of : {J M : Type 0} (stands : J → List Step → Type 0) (rule : MessageReading → List Step → Reply) (exchanged : Option SessionEnd → List Take → List Reply → Type 0) (ps : List (List ℕ))
    (judge : J) (talk : Talk M) (sends : List Step → List (List ℕ)) (is_out : List (List ℕ) → Type 0) → HasRun stands rule judge talk (λ steps. is_out (sends steps)) exchanged ps
    → (sent : List (List ℕ)) × HasRun stands rule judge talk (λ steps. sends steps ≡ sent) exchanged ps × is_out sent
run_of stands rule exchanged ps judge talk sends is_out h =
    (_, record { ts = h.ts; rs = h.rs; gone = h.gone; talks = h.talks; exchanges = h.exchanges; replies = h.replies; out = refl }, h.out)

module _ {M : Type 0} (c : Config) (exchanged : Option SessionEnd → List Take → List Reply → Type 0) (ps sent : List (List ℕ)) (service : Service) (talk : Talk M) (report : Report) where
  -- ---- a run that went through

  pub injected : (h : HasRun (InjectsFor c) (reply_in c) service talk (λ steps. sent_by c steps ≡ sent) exchanged ps)
      → report ≡ report_of c (steps_of (length h.rs) h.ts (reverse ps)) → InjectEnds c exchanged ps sent report
  injected h told bs all sound = record {
    sound = sound;
    ts = h.ts;
    rs = h.rs;
    serves = subst (λ q. Serves c exchanged h.ts h.rs (length q) (steps_of (length h.rs) h.ts (reverse q))) (sym all)
        (record { ending = talk.end; talked = h.talks.talked; bytes = h.talks.bytes; exchanges = h.exchanges; replies = h.replies });
    written = subst (λ q. sent_by c (steps_of (length h.rs) h.ts (reverse q)) ≡ sent) (sym all) h.out;
    counted = subst (λ q. report ≡ report_of c (steps_of (length h.rs) h.ts (reverse q))) (sym all) told;
  }

  pub ran : (filed : ℕ → Option Advertisement) (is_out : List Step → Type 0) (h : HasRun (ServesFor c filed) (reply_in c) service talk is_out exchanged ps)
      → MessagesAre report c (steps_of (length h.rs) h.ts (reverse ps))
      → spliced_network (setting_of c filed) (sent_by c (steps_of (length h.rs) h.ts (reverse ps))) ≡ sent
      → events.ReportIs report.switch (events.report_of (setting_of c filed) (reverse (sent_by c (steps_of (length h.rs) h.ts (reverse ps)))))
      → ChainEnds c filed exchanged ps sent report
  ran filed is_out h told out counts bs all sound = record {
    sound = sound;
    bytes = subst (λ q. ArePacketsOfBytes (reverse q)) (sym all) (subst ArePacketsOfBytes (steps_packets (length h.rs) h.ts (reverse ps)) h.gone.network.bytes);
    ts = h.ts;
    rs = h.rs;
    serves = subst (λ q. Serves c exchanged h.ts h.rs (length q) (steps_of (length h.rs) h.ts (reverse q))) (sym all)
        (record { ending = talk.end; talked = h.talks.talked; bytes = h.talks.bytes; exchanges = h.exchanges; replies = h.replies });
    written = subst (λ q. spliced_network (setting_of c filed) (sent_by c (steps_of (length h.rs) h.ts (reverse q))) ≡ sent) (sym all) out;
    counted = record {
      messages = subst (λ q. MessagesAre report c (steps_of (length h.rs) h.ts (reverse q))) (sym all) told;
      events = subst (λ q. events.ReportIs report.switch (events.report_of (setting_of c filed) (reverse (sent_by c (steps_of (length h.rs) h.ts (reverse q)))))) (sym all) counts;
    };
  }

pub spliced : (c : Config) (filed : ℕ → Option Advertisement) (ps sent : List (List ℕ)) (report : SwitchReport) → spliced_network (setting_of c filed) ps ≡ sent
    → events.ReportIs report (events.report_of (setting_of c filed) (reverse ps)) → SpliceEnds c filed ps sent report
spliced c filed ps sent report out told bs all sound = record {
  sound = sound;
  written = subst (λ q. spliced_network (setting_of c filed) q ≡ sent) (sym all) out;
  counted = subst (λ q. events.ReportIs report (events.report_of (setting_of c filed) (reverse q))) (sym all) told;
}

-- ---- a packet that is not passed on

pub stage_blamed : (fault : FeedFault) (a b : Tally) (full : Bool) → FeedBlamed fault a b full → StepBlamed (stage_fault_of fault) a b full
stage_blamed (Network f) a b full h = subst (WentWell a) (sym h) (well-refl a)
stage_blamed (Sink f) a b full h = h
stage_blamed Failed a b full h = tt

pub chain_blamed : (fault : FeedFault) (a b : Tally) (full : Bool) → OutputBlamed (Feed fault) a b full → StepBlamed (stage_fault_of fault) a b full
chain_blamed (Network f) a b full h = h
chain_blamed (Sink f) a b full h = h
chain_blamed Failed a b full h = tt

pub finish_blamed : (fault : FeedFault) (a b : Tally) (full : Bool) → FeedBlamed fault a b full → Blamed (put_fault_of fault) a b full
finish_blamed (Network f) a b full h = tt
finish_blamed (Sink f) a b full h = h
finish_blamed Failed a b full h = tt

-- what follows from how a sink failed
pub fails_so : (fault : FeedFault) (c : Config) (p : List ℕ) (steps : List Step) (fails fails' : List (List ℕ) → List ℕ → PutFault → Type 0) → ((put : List (List ℕ)) (q : List ℕ) (f : PutFault) → fails put q f → fails' put q f)
    → FeedFails fault c p steps fails → FeedFails fault c p steps fails'
fails_so (Network f) c p steps fails fails' so h = h
fails_so (Sink f) c p steps fails fails' so h = front_so _ _ _ (λ put q. so put q f) h
fails_so Failed c p steps fails fails' so h = absurd h

pub switch_fails_so : (fault : FeedFault) (c : Config) (filed : ℕ → Option Advertisement) (p : List ℕ) (past : List (List ℕ)) (fails fails' : List (List ℕ) → List ℕ → PutFault → Type 0)
    → ((put : List (List ℕ)) (q : List ℕ) (f : PutFault) → fails put q f → fails' put q f) → standing.FeedFails fault c filed p past fails → standing.FeedFails fault c filed p past fails'
switch_fails_so (Network f) c filed p past fails fails' so h = h
switch_fails_so (Sink f) c filed p past fails fails' so h = front_so _ _ _ (λ put q. so put q f) h
switch_fails_so Failed c filed p past fails fails' so h = absurd h

pub rest_fails_so : (fault : FeedFault) (c : Config) (filed : ℕ → Option Advertisement) (past : List (List ℕ)) (fails fails' : List (List ℕ) → List ℕ → PutFault → Type 0)
    → ((put : List (List ℕ)) (q : List ℕ) (f : PutFault) → fails put q f → fails' put q f) → standing.FinishFails fault c filed past fails → standing.FinishFails fault c filed past fails'
rest_fails_so (Network f) c filed past fails fails' so h = absurd h
rest_fails_so (Sink f) c filed past fails fails' so h = front_so _ _ _ (λ put q. so put q f) h
rest_fails_so Failed c filed past fails fails' so h = absurd h

module _ {S X : Type 0} (refusal : S → Seen → Option NetworkFault) (refuses : S → List (List ℕ) → List (List ℕ) → List ℕ → S → Type 0)
    (breaks : S → List (List ℕ) → Option (List ℕ) → List (List ℕ) → List ℕ → S → Type 0) (first now : S) (is_out : X → List (List ℕ) → Type 0)
    (fails : List (List ℕ) → List ℕ → PutFault → Type 0) (s t : X) (ps qs : List (List ℕ)) (p : List ℕ) (held : is_out s qs) where
  abbrev pub StepFailsSo : StageFault NetworkFault → Type 0
  StepFailsSo r = StepFails refusal refuses breaks r first ps p now (is_out t) fails

  -- by an injector
  module _ {M : Type 0} (c : Config) (exchanged : Option SessionEnd → List Take → List Reply → Type 0) (service : Service) (talk : Talk M)
      (h : HasHeard (InjectsFor c) (reply_in c) service talk (λ steps. sent_by c steps ≡ qs) exchanged ps)
      (refusal_so : (f : NetworkFault) → network_fault (writing_cues c) p (reverse ps) ≡ Some f → refusal first (seen_behind ps p) ≡ Some f)
      (refuses_so : InjectRefuses c exchanged ps qs p → refuses first ps qs p now)
      (breaks_so : (put : List (List ℕ)) (q : List ℕ) → InjectBreaks c exchanged ps (Some p) put q → breaks first ps (Some p) put q now) where
    inject_fails_so : (fault : FeedFault) → KeepsSink fault s t → FeedFails fault c p (steps_before (length h.rs) h.ts (reverse ps)) (λ put q x. fails (qs ++ put) q x)
        → StepFailsSo (stage_fault_of fault)
    inject_fails_so (Network f) kept k = record {
      sent = qs;
      reason = refusal_so f (subst (λ q. network_fault (writing_cues c) p q ≡ Some f) (before_packets (length h.rs) h.ts (reverse ps)) k);
      refuses_it = refuses_so (heard_served (InjectsFor c) (reply_in c) exchanged ps service talk _ (λ w. sent_by c w ≡ qs) h h.out);
      out = subst (λ w. is_out w qs) (sym kept) held;
    }
    inject_fails_so (Sink f) kept k = record {
      sent = qs ++ k.put;
      packet = k.packet;
      breaks_so = breaks_so _ _ (heard_served (InjectsFor c) (reply_in c) exchanged ps service talk _ _ h
          (record { put = k.put; packet = k.packet; left = k.left; all = k.all; fault = (ap (λ l. l ++ k.put) h.out, refl) }));
      failed = k.fault;
    }
    inject_fails_so Failed kept k = absurd k

    pub inject_step_fails : (r : StageFault NetworkFault) (fault : FeedFault) → r ≡ stage_fault_of fault → KeepsSink fault s t
        → FeedFails fault c p (steps_before (length h.rs) h.ts (reverse ps)) (λ put q x. fails (qs ++ put) q x) → StepFailsSo r
    inject_step_fails r fault e kept k = subst StepFailsSo (sym e) (inject_fails_so fault kept k)

  -- by a switch
  module _ (c : Config) (filed : ℕ → Option Advertisement) (sent : switch_sends c filed ps ≡ qs)
      (refusal_so : (f : NetworkFault) → network_fault (reading_cues c) p (reverse ps) ≡ Some f → refusal first (seen_behind ps p) ≡ Some f)
      (refuses_so : switch_sends c filed ps ≡ qs → refuses first ps qs p now)
      (breaks_so : (put : List (List ℕ)) (q : List ℕ) → SpliceBreaks c filed ps (Some p) put q → breaks first ps (Some p) put q now) where
    splice_fails_so : (fault : FeedFault) → KeepsSink fault s t → standing.FeedFails fault c filed p (reverse ps) (λ put q x. fails (switch_sends c filed ps ++ put) q x) → StepFailsSo (stage_fault_of fault)
    splice_fails_so (Network f) kept k = record {
      sent = qs;
      reason = refusal_so f k;
      refuses_it = refuses_so sent;
      out = subst (λ w. is_out w qs) (sym kept) held;
    }
    splice_fails_so (Sink f) kept k = record {
      sent = switch_sends c filed ps ++ k.put;
      packet = k.packet;
      breaks_so = breaks_so _ _ (record { put = k.put; packet = k.packet; left = k.left; all = k.all; fault = (refl, refl) });
      failed = k.fault;
    }
    splice_fails_so Failed kept k = absurd k

    pub splice_step_fails : (r : StageFault NetworkFault) (fault : FeedFault) → r ≡ stage_fault_of fault → KeepsSink fault s t
        → standing.FeedFails fault c filed p (reverse ps) (λ put q x. fails (switch_sends c filed ps ++ put) q x) → StepFailsSo r
    splice_step_fails r fault e kept k = subst StepFailsSo (sym e) (splice_fails_so fault kept k)

  -- by a chain
  module _ {M : Type 0} (c : Config) (filed : ℕ → Option Advertisement) (exchanged : Option SessionEnd → List Take → List Reply → Type 0) (service : Service) (talk : Talk M)
      (h : HasHeard (ServesFor c filed) (reply_in c) service talk (λ steps. chain_sends c filed steps ≡ qs) exchanged ps)
      (refusal_so : (f : NetworkFault) → network_fault (writing_cues c) p (reverse ps) ≡ Some f → refusal first (seen_behind ps p) ≡ Some f)
      (refuses_so : ChainRefuses c filed exchanged ps qs p → refuses first ps qs p now)
      (breaks_so : (put : List (List ℕ)) (q : List ℕ) → ChainBreaks c filed exchanged ps (Some p) put q → breaks first ps (Some p) put q now) where
    chain_fails_so : (fault : FeedFault) → PassFails fault c filed p (steps_before (length h.rs) h.ts (reverse ps)) (is_out t qs) (λ put q x. fails (qs ++ put) q x) → StepFailsSo (stage_fault_of fault)
    chain_fails_so (Network f) k = record {
      sent = qs;
      reason = refusal_so f (subst (λ q. network_fault (writing_cues c) p q ≡ Some f) (before_packets (length h.rs) h.ts (reverse ps)) k.0);
      refuses_it = refuses_so (heard_served (ServesFor c filed) (reply_in c) exchanged ps service talk _ (λ w. chain_sends c filed w ≡ qs) h h.out);
      out = k.1;
    }
    chain_fails_so (Sink f) k = record {
      sent = qs ++ k.put;
      packet = k.packet;
      breaks_so = breaks_so _ _ (heard_served (ServesFor c filed) (reply_in c) exchanged ps service talk _ _ h
          (record { put = k.put; packet = k.packet; left = k.left; all = k.all; fault = (ap (λ l. l ++ k.put) h.out, refl) }));
      failed = k.fault;
    }
    chain_fails_so Failed k = absurd k

    pub chain_step_fails : (r : StageFault NetworkFault) (fault : FeedFault) → r ≡ stage_fault_of fault
        → PassFails fault c filed p (steps_before (length h.rs) h.ts (reverse ps)) (is_out t qs) (λ put q x. fails (qs ++ put) q x) → StepFailsSo r
    chain_step_fails r fault e k = subst StepFailsSo (sym e) (chain_fails_so fault k)

-- ---- what is left at the end is not taken

module _ {S : Type 0} (breaks : S → List (List ℕ) → Option (List ℕ) → List (List ℕ) → List ℕ → S → Type 0) (first now : S) (fails : List (List ℕ) → List ℕ → PutFault → Type 0)
    (c : Config) (filed : ℕ → Option Advertisement) (ps : List (List ℕ)) where
  finish_fails_so : ((put : List (List ℕ)) (q : List ℕ) → SpliceBreaks c filed ps None put q → breaks first ps None put q now) → (fault : FeedFault)
      → standing.FinishFails fault c filed (reverse ps) (λ put q x. fails (switch_sends c filed ps ++ put) q x) → FinishFails breaks (put_fault_of fault) first ps now fails
  finish_fails_so breaks_so (Network f) k = absurd k
  finish_fails_so breaks_so (Sink f) k = record {
    sent = switch_sends c filed ps ++ k.put;
    packet = k.packet;
    breaks_so = breaks_so _ _ (record { put = k.put; packet = k.packet; left = k.left; all = k.all; fault = (refl, refl) });
    failed = k.fault;
  }
  finish_fails_so breaks_so Failed k = absurd k

  pub splice_finish_fails : ((put : List (List ℕ)) (q : List ℕ) → SpliceBreaks c filed ps None put q → breaks first ps None put q now) → (r : PutFault) (fault : FeedFault) → r ≡ put_fault_of fault
      → standing.FinishFails fault c filed (reverse ps) (λ put q x. fails (switch_sends c filed ps ++ put) q x) → FinishFails breaks r first ps now fails
  splice_finish_fails breaks_so r fault e k = subst (λ x. FinishFails breaks x first ps now fails) (sym e) (finish_fails_so breaks_so fault k)

  module _ {M : Type 0} (qs : List (List ℕ)) (exchanged : Option SessionEnd → List Take → List Reply → Type 0) (service : Service) (talk : Talk M)
      (h : HasRun (ServesFor c filed) (reply_in c) service talk (λ steps. chain_sends c filed steps ≡ qs) exchanged ps)
      (breaks_so : (put : List (List ℕ)) (q : List ℕ) → ChainBreaks c filed exchanged ps None put q → breaks first ps None put q now) where
    chain_end_fails : (fault : FeedFault) → standing.FinishFails fault c filed (cued c (steps_of (length h.rs) h.ts (reverse ps))) (λ put q x. fails (qs ++ put) q x)
        → FinishFails breaks (put_fault_of fault) first ps now fails
    chain_end_fails (Network f) k = absurd k
    chain_end_fails (Sink f) k = record {
      sent = qs ++ k.put;
      packet = k.packet;
      breaks_so = breaks_so _ _ (run_served (ServesFor c filed) (reply_in c) exchanged ps service talk _ _ h
          (record { put = k.put; packet = k.packet; left = k.left; all = k.all; fault = (ap (λ l. l ++ k.put) h.out, refl) }));
      failed = k.fault;
    }
    chain_end_fails Failed k = absurd k

    pub chain_finish_fails : (r : PutFault) (fault : FeedFault) → r ≡ put_fault_of fault → standing.FinishFails fault c filed (cued c (steps_of (length h.rs) h.ts (reverse ps)))
        (λ put q x. fails (qs ++ put) q x) → FinishFails breaks r first ps now fails
    chain_finish_fails r fault e k = subst (λ x. FinishFails breaks x first ps now fails) (sym e) (chain_end_fails fault k)

-- ---- whole runs

module _ {S : Type 0} (now : S) (is_out : List (List ℕ) → Type 0) where
  pub injects_all : (c : Config) (exchanged : Option SessionEnd → List Take → List Reply → Type 0) (ends : List (List ℕ) → List (List ℕ) → Report → S → Type 0)
      → ((ps sent : List (List ℕ)) (report : Report) → ends ps sent report now → InjectEnds c exchanged ps sent report) → (input : Option (List ℕ)) (report : Report)
      → GoesThrough (refusal_by (writing_cues c)) ends input report now is_out → InjectsAll c input is_out exchanged report
  injects_all c exchanged ends so None report h = tt
  injects_all c exchanged ends so (Some bs) report h =
      let r = so _ h.sent report h.ends_so bs refl (none_by (writing_cues c) bs h.sound) in
      record { sound = r.sound; ts = r.ts; rs = r.rs; serves = r.serves; written = subst is_out (sym r.written) h.out; counted = r.counted }

  pub splices_all : (c : Config) (filed : ℕ → Option Advertisement) (ends : List (List ℕ) → List (List ℕ) → SwitchReport → S → Type 0)
      → ((ps sent : List (List ℕ)) (report : SwitchReport) → ends ps sent report now → SpliceEnds c filed ps sent report) → (input : Option (List ℕ)) (report : SwitchReport)
      → GoesThrough (refusal_by (reading_cues c)) ends input report now is_out → SplicesAll c filed input is_out report
  splices_all c filed ends so None report h = tt
  splices_all c filed ends so (Some bs) report h =
      let r = so _ h.sent report h.ends_so bs refl (none_by (reading_cues c) bs h.sound) in
      record { sound = r.sound; written = subst is_out (sym r.written) h.out; counted = r.counted }

  pub runs_all : (c : Config) (filed : ℕ → Option Advertisement) (exchanged : Option SessionEnd → List Take → List Reply → Type 0) (ends : List (List ℕ) → List (List ℕ) → Report → S → Type 0)
      → ((ps sent : List (List ℕ)) (report : Report) → ends ps sent report now → ChainEnds c filed exchanged ps sent report) → (input : Option (List ℕ)) (report : Report)
      → GoesThrough (refusal_by (writing_cues c)) ends input report now is_out → RunsAll c filed input is_out exchanged report
  runs_all c filed exchanged ends so None report h = tt
  runs_all c filed exchanged ends so (Some bs) report h =
      let r = so _ h.sent report h.ends_so bs refl (none_by (writing_cues c) bs h.sound) in
      record { sound = r.sound; bytes = r.bytes; ts = r.ts; rs = r.rs; serves = r.serves; written = subst is_out (sym r.written) h.out; counted = r.counted }

-- ---- what the devices did

pub network_blamed : (fault : Stop NetworkFault) (before ended : Bool) (a b : Tally) → SourceBlamedAt false fault before ended a b → NetworkBlamed (run_fault_of fault) before ended a b
network_blamed (stop.Read f) before ended a b h = h
network_blamed (stop.Packet f) before ended a b h = h
network_blamed (stop.Sink f) before ended a b (inl h) = h
network_blamed (stop.Sink f) before ended a b (inr h) = absurd (let e = h.0 in cc)

pub network_blamed_to_end : (fault : Stop NetworkFault) (before ended : Bool) (a b : Tally) → SourceBlamedAt true fault before ended a b → NetworkBlamedToEnd (run_fault_of fault) before ended a b
network_blamed_to_end (stop.Read f) before ended a b h = h
network_blamed_to_end (stop.Packet f) before ended a b h = h
network_blamed_to_end (stop.Sink f) before ended a b (inl h) = inl h
network_blamed_to_end (stop.Sink f) before ended a b (inr h) = inr h.1

pub to_the_end : (fault : RunFault) (before ended : Bool) (a b : Tally) → NetworkBlamed fault before ended a b → NetworkBlamedToEnd fault before ended a b
to_the_end (Read f) before ended a b h = h
to_the_end (Feed (Network f)) before ended a b h = h
to_the_end (Feed (Sink f)) before ended a b h = inl h
to_the_end (Feed Failed) before ended a b h = h
to_the_end SharedPid before ended a b h = h

pub output_blamed : (fault : Stop NetworkFault) (a b : Tally) (full : Bool) → SinkBlamedAt fault a b full → OutputBlamed (run_fault_of fault) a b full
output_blamed (stop.Read f) a b full h = h
output_blamed (stop.Packet f) a b full h = h
output_blamed (stop.Sink f) a b full h = h

-- the fault that tells turns
pub turns_of : (fault : Stop NetworkFault) → run_fault_of fault ≡ Read read_faults.Turns → fault ≡ stop.Read read_faults.Turns
turns_of (stop.Read f) e = let same : f ≡ read_faults.Turns = cc in ap stop.Read same
turns_of (stop.Packet f) e = absurd (cc)
turns_of (stop.Sink f) e = absurd (cc)
