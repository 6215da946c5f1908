-- From what a run of the stage leaves to what the run of several services says.
use Rattle.std.specs.Prelude.{option_map, if◌then◌else◌, IfSome}
use Rattle.std.specs.Option.{option_or}
use Rattle.std.proofs.Common.{◌≡◌, ◌≤◌, ℕ, Bool, true, false, reverse, List, [], ◌∷◌, ◌++◌, ◌⊎◌, inl, inr, length, Option, None, Some, refl, sym, ap, subst, ◌∙◌, arith}
use Rattle.std.proofs.lemmas.List.{append-nil, reverse-append}
use Rattle.ts_packet.specs.Runs.{Seen}
use Rattle.ts_packet.specs.FirstFault.{first_fault}
use Rattle.ts_packet.specs.declared.sink.PutFault.{PutFault}
use Rattle.ts_packet.specs.declared.tally.Tally.{Tally}
use Rattle.ts_packet.specs.declared.reader.ReadFault.TheVariants as read_faults
use Rattle.packet_runs.specs.Stops as stops
use Rattle.packet_runs.specs.Stops.{refusal_test, stop_cause}
use Rattle.packet_runs.specs.Stages.{seen_behind, Went, Refused, StepFails, FinishFails, StepBlamed}
use Rattle.packet_runs.specs.declared.stage.StageFault.{StageFault}
use Rattle.packet_runs.specs.Runs.{Leaves, GoesThrough, SourceBlamedAt, SinkBlamedAt}
use Rattle.packet_runs.specs.declared.run.Stop.{Stop}
use Rattle.packet_runs.specs.declared.run.Stop.TheVariants as stop
use Rattle.packet_runs.proofs.StopLemmas.{stops_as, none_as}
use Rattle.psi_tables.specs.declared.config.Config.{Config}
use Rattle.psi_tables.specs.declared.network.NetworkFault.{NetworkFault}
use Rattle.psi_tables.specs.declared.network.FeedFault.{FeedFault}
use Rattle.psi_tables.specs.declared.network.FeedFault.TheVariants.{Network, Sink, Failed}
use Rattle.scte104_codec.specs.declared.reply.Reply.{Reply}
use Rattle.scte104_codec.specs.Reading.{MessageReading}
use Rattle.injector.specs.Steps.{Step, Packet, packets_in}
use Rattle.cued_laws.specs.Laws.{ArePacketsOfBytes}
use Rattle.chain_engine.specs.Stages.{HasRun}
use Rattle.chain_engine.specs.Runs.{steps_of, steps_before, replies_by, ServesBy}
use Rattle.chain_engine.specs.Automation.{Take}
use Rattle.chain_engine.specs.Stops.{as_run_fault, run_cause, put_fault_of}
use Rattle.chain_services.specs.declared.report.ServiceEvents.{ServiceEvents}
use Rattle.ts_packet.specs.Sinks.{Blamed}
use Rattle.chain_engine.specs.Runs.{ServedBefore, OutputBlamed, heard_at}
use Rattle.chain_engine.specs.Splices.{NetworkBlamedToEnd}
use Rattle.chain_engine.specs.declared.hearing.SessionEnd.{SessionEnd}
use Rattle.chain_engine.specs.declared.talk.Talk.{Talk}
use Rattle.chain_engine.specs.declared.faults.RunFault.TheVariants.{Read, Feed, SharedPid}
use Rattle.chain_engine.proofs.RunLemmas.{HasHeard, run_served, heard_served, passed}
use Rattle.chain_engine.proofs.StageLemmas.{front_so, both_as}
use Rattle.chain_engine.proofs.StepsLemmas.{before_packets, steps_packets}
use Rattle.service_laws.specs.Messages.{share_an_index}
use Rattle.service_laws.specs.Services.{ServiceTerms, configs_of, given_at, services_send, services_rest, services_output}
use Rattle.service_laws.specs.Faults.{services_test, services_fault, share_a_pid, first_services_fault}
use Rattle.ad_library.specs.declared.library.AdLibrary.{AdLibrary}
use Rattle.chain_services.specs.Serving.{reply_by, FiledAs, CountsReplies, services_in}
use Rattle.chain_services.specs.Parts.{FailedEach, AreEvents, RestFails}
use Rattle.chain_services.specs.Runs.{ServicesRunAll, ServicesCounted, ServicesOut, ServicesLeave}
use Rattle.chain_services.specs.Stages.{refusal_by, services_fault_of, stage_fault_of, DeskServes, ServicesSend, ServicesRefuse, ServicesBreak, ServicesEnd}
use Rattle.chain_services.specs.declared.desk.Desk.{Desk}
use Rattle.chain_services.specs.declared.refusal.Refusal.{Refusal}
use Rattle.chain_services.specs.declared.refusal.Refusal.TheVariants as refusal
use Rattle.chain_services.specs.declared.report.ServiceReport.{ServiceReport}
use Rattle.chain_services.proofs.ApartLemmas.{sound_at, all_bytes}

-- ---- the faults, by the names of a run

same_name : (o : Option NetworkFault) (b : Bool) → option_or (option_map as_run_fault o) (if b then Some SharedPid else None)
    ≡ option_map services_fault_of (option_map stop.Packet (option_or (option_map refusal.Network o) (if b then Some refusal.SharedPid else None)))
same_name None true = refl
same_name None false = refl
same_name (Some f) b = refl

same_test : (cs : List Config) (s : Seen) → services_test cs s ≡ option_map services_fault_of (refusal_test (refusal_by cs) s)
same_test cs s = same_name (services_fault cs s.packet s.past) (share_a_pid cs (s.packet ∷ s.past))

same_cause : (f : Stop Refusal) → run_cause (services_fault_of f) ≡ stop_cause f
same_cause (stop.Read f) = refl
same_cause (stop.Packet (refusal.Network f)) = refl
same_cause (stop.Packet refusal.SharedPid) = refl
same_cause (stop.Sink f) = refl

pub none_by : (cs : List Config) (bs : List ℕ) → first_fault stop.Read (refusal_test (refusal_by cs)) bs ≡ None → first_services_fault cs bs ≡ None
none_by cs bs e = none_as services_fault_of stop.Read Read (refusal_test (refusal_by cs)) (services_test cs) (λ f. refl) (same_test cs) bs e

pub stops_by : (cs : List Config) (fault : Stop Refusal) (input : Option (List ℕ)) (leaves leaves' : List ℕ → List (List ℕ) → List (List ℕ) → Type 0)
    → ((bs : List ℕ) (passed rest : List (List ℕ)) → leaves bs passed rest → leaves' bs passed rest)
    → stops.StopsBy stop.Read (refusal_test (refusal_by cs)) stop_cause fault input leaves → stops.StopsBy Read (services_test cs) run_cause (services_fault_of fault) input leaves'
stops_by cs fault input leaves leaves' so h =
    stops_as services_fault_of stop.Read Read (refusal_test (refusal_by cs)) (services_test cs) (λ f. refl) (same_test cs) stop_cause run_cause fault (same_cause fault) input leaves leaves' so h

-- where a shared PID is told nothing else is wrong
shared_alone : (o : Option NetworkFault) (b : Bool) → option_or (option_map refusal.Network o) (if b then Some refusal.SharedPid else None) ≡ Some refusal.SharedPid → o ≡ None
shared_alone None b e = refl
shared_alone (Some f) b e = absurd (cc)

served_with : (rule : MessageReading → List Step → Reply) (exchanged : Option SessionEnd → List Take → List Reply → Type 0) (k : ℕ) (leaves leaves' : List Step → Type 0) (ps : List (List ℕ))
    → ((steps : List Step) → packets_in steps ≡ reverse ps → leaves steps → leaves' steps) → ServedBefore rule exchanged k leaves ps → ServedBefore rule exchanged k leaves' ps
served_with rule exchanged k leaves leaves' ps so h = record { ts = h.ts; rs = h.rs; serves = h.serves; out = so _ (before_packets (length h.rs) h.ts (reverse ps)) h.out }

-- ---- what is left

module _ {S : Type 0} (refused : S → Seen → Option Refusal) (sends : S → List (List ℕ) → List (List ℕ) → List ℕ → S → Type 0)
    (refuses : S → List (List ℕ) → List (List ℕ) → List ℕ → S → Type 0) (breaks : S → List (List ℕ) → Option (List ℕ) → List (List ℕ) → List ℕ → S → Type 0)
    (first now : S) (is_out : List (List ℕ) → Type 0) (fails : List (List ℕ) → List ℕ → PutFault → Type 0) (unsent : List (List ℕ) → PutFault → Type 0)
    {M A : Type 0} (ts : List ServiceTerms) (desk : Desk M) (talk : Talk M) (libraries : List (AdLibrary A)) (exchanged : Option SessionEnd → List Take → List Reply → Type 0)
    (refused_so : (s : Seen) → refused first s ≡ refusal_by (configs_of ts) s)
    (sends_so : (ps qs : List (List ℕ)) (kept : List ℕ) → sends first ps qs kept now → ServicesSend ts desk talk libraries exchanged ps qs)
    (refuses_so : (ps qs : List (List ℕ)) (p : List ℕ) → refuses first ps qs p now → ServicesRefuse ts exchanged ps qs p)
    (breaks_so : (ps : List (List ℕ)) (next : Option (List ℕ)) (put : List (List ℕ)) (q : List ℕ) → breaks first ps next put q now → ServicesBreak ts exchanged ps next put q)
    (none_so : (bs : List ℕ) → first_fault stop.Read (refusal_test (refused first)) bs ≡ None → first_services_fault (configs_of ts) bs ≡ None) where
  pub services_leave : (fault : Stop Refusal) (bs : List ℕ) (passed rest : List (List ℕ)) → Leaves sends refuses breaks refused fault first now is_out fails unsent bs passed rest
      → ServicesLeave ts (services_fault_of fault) is_out fails unsent exchanged bs passed rest
  services_leave (stop.Read f) bs passed rest h =
      let run = (sends_so passed h.sent h.kept h.sends_it).run in
      inl (run_served (DeskServes ts) (reply_by ts) exchanged passed desk talk _ (λ steps. is_out (services_send ts steps)) run (subst is_out (sym run.out) h.out))
  services_leave (stop.Packet (refusal.Network f)) bs passed rest (p, more, e, h) =
      inl (subst (λ l. ServedBefore (reply_by ts) exchanged (heard_at (Feed (Network f)) l (length passed)) (λ steps. ServicesOut (Feed (Network f)) ts bs steps l is_out fails) passed) (sym e)
      (served_with (reply_by ts) exchanged _ _ _ passed (λ steps k s. record {
        front = s.front.front;
        left = s.front.left;
        all = s.front.all;
        out = subst is_out (sym s.front.out) h.out;
      }) (refuses_so passed h.sent p h.refuses_it)))
  services_leave (stop.Packet refusal.SharedPid) bs passed rest (p, more, e, h) =
      let alone = shared_alone (services_fault (configs_of ts) p (reverse passed)) (share_a_pid (configs_of ts) (p ∷ reverse passed)) (sym (refused_so (seen_behind passed p)) ∙ h.reason) in
      inl (subst (λ l. ServedBefore (reply_by ts) exchanged (heard_at SharedPid l (length passed)) (λ steps. ServicesOut SharedPid ts bs steps l is_out fails) passed) (sym e)
      (served_with (reply_by ts) exchanged _ _ _ passed (λ steps k s. subst is_out (sym (s.whole (ap (services_fault (configs_of ts) p) k ∙ alone))) h.out) (refuses_so passed h.sent p h.refuses_it)))
  services_leave (stop.Sink f) bs passed rest (inr h) =
      let run = (sends_so passed h.sent h.kept h.sends_it).run in
      inr (run_served (DeskServes ts) (reply_by ts) exchanged passed desk talk _ (λ steps. unsent (services_send ts steps) f) run (subst (λ l. unsent l f) (sym run.out) h.out))
  services_leave (stop.Sink f) bs passed [] (inl (none, h)) =
      inl (served_with (reply_by ts) exchanged _ _ _ passed
      (λ steps k s. (none_so bs none, front_so _ _ _ (λ put q e. both_as (λ l r. fails l r f) _ h.sent q h.packet e h.failed) s)) (breaks_so passed None h.sent h.packet h.breaks_so))
  services_leave (stop.Sink f) bs passed (p ∷ more) (inl h) =
      inl (served_with (reply_by ts) exchanged _ _ _ passed
      (λ steps k s. front_so _ _ _ (λ put q e. both_as (λ l r. fails l r f) _ h.sent q h.packet e h.failed) s) (breaks_so passed (Some p) h.sent h.packet h.breaks_so))

-- ---- whole runs

pub services_run_all : {S : Type 0} (now : S) (is_out : List (List ℕ) → Type 0) (ts : List ServiceTerms) (exchanged : Option SessionEnd → List Take → List Reply → Type 0)
    (ends : List (List ℕ) → List (List ℕ) → ServiceReport → S → Type 0)
    → ((ps sent : List (List ℕ)) (report : ServiceReport) → ends ps sent report now → ServicesEnd ts exchanged ps sent report) → (input : Option (List ℕ)) (report : ServiceReport)
    → GoesThrough (refusal_by (configs_of ts)) ends input report now is_out → ServicesRunAll ts input is_out exchanged report
services_run_all now is_out ts exchanged ends so None report h = tt
services_run_all now is_out ts exchanged ends so (Some bs) report h =
    let r = so _ h.sent report h.ends_so bs refl (none_by (configs_of ts) bs h.sound) in
    record { sound = r.sound; bytes = r.bytes; takes = r.takes; rs = r.rs; serves = r.serves; written = subst is_out (sym r.written) h.out; counted = r.counted }

-- ---- how the sink failed

pub services_fail : (ts : List ServiceTerms) (is_out : List (List ℕ) → Type 0) (fails : List (List ℕ) → List ℕ → PutFault → Type 0) (unsent : List (List ℕ) → PutFault → Type 0)
    (exchanged : Option SessionEnd → List Take → List Reply → Type 0) (fault : PutFault) (bs : List ℕ) (passed rest : List (List ℕ))
    → ServicesLeave ts (Feed (Sink fault)) is_out fails unsent exchanged bs passed rest → ((ps : List (List ℕ)) × (p : List ℕ) × fails ps p fault) ⊎ ((ps : List (List ℕ)) × unsent ps fault)
services_fail ts is_out fails unsent exchanged fault bs passed rest (inr h) = inr (_, h.out)
services_fail ts is_out fails unsent exchanged fault bs passed [] (inl h) = inl (_, _, h.out.1.fault)
services_fail ts is_out fails unsent exchanged fault bs passed (p ∷ more) (inl h) = inl (_, _, h.out.fault)

pub services_sound : (ts : List ServiceTerms) (input : Option (List ℕ)) (is_out : List (List ℕ) → Type 0) (exchanged : Option SessionEnd → List Take → List Reply → Type 0) (report : ServiceReport)
    → ServicesRunAll ts input is_out exchanged report → IfSome input (λ bs. first_services_fault (configs_of ts) bs ≡ None)
services_sound ts None is_out exchanged report h = tt
services_sound ts (Some bs) is_out exchanged report h = h.sound

-- ---- what the devices did

pub network_blamed : (fault : Stop Refusal) (before ended : Bool) (a b : Tally) → SourceBlamedAt true fault before ended a b → NetworkBlamedToEnd (services_fault_of fault) before ended a b
network_blamed (stop.Read f) before ended a b h = h
network_blamed (stop.Packet (refusal.Network f)) before ended a b h = h
network_blamed (stop.Packet refusal.SharedPid) before ended a b h = h
network_blamed (stop.Sink f) before ended a b (inl h) = inl h
network_blamed (stop.Sink f) before ended a b (inr h) = inr h.1

pub output_blamed : (fault : Stop Refusal) (a b : Tally) (full : Bool) → SinkBlamedAt fault a b full → OutputBlamed (services_fault_of fault) a b full
output_blamed (stop.Read f) a b full h = h
output_blamed (stop.Packet (refusal.Network f)) a b full h = h
output_blamed (stop.Packet refusal.SharedPid) a b full h = h
output_blamed (stop.Sink f) a b full h = h

-- the fault that tells turns
pub turns_of : (fault : Stop Refusal) → services_fault_of fault ≡ Read read_faults.Turns → fault ≡ stop.Read read_faults.Turns
turns_of (stop.Read f) e = let same : f ≡ read_faults.Turns = cc in ap stop.Read same
turns_of (stop.Packet (refusal.Network f)) e = absurd (cc)
turns_of (stop.Packet refusal.SharedPid) e = absurd (cc)
turns_of (stop.Sink f) e = absurd (cc)

-- ---- a packet

module _ {S M : Type 0} (refused : S → Seen → Option Refusal) (first : S) (ts : List ServiceTerms) (exchanged : Option SessionEnd → List Take → List Reply → Type 0) (ps qs : List (List ℕ)) (p : List ℕ)
    (desk : Desk M) (talk : Talk M) (h : HasHeard (DeskServes ts) (reply_by ts) desk talk (λ steps. services_send ts steps ≡ qs) exchanged ps)
    (refused_so : (s : Seen) → refused first s ≡ refusal_by (configs_of ts) s) where
  abbrev now_steps : List Step
  now_steps = steps_before (length h.rs) h.ts (reverse ps)

  now_packets : packets_in now_steps ≡ reverse ps
  now_packets = before_packets (length h.rs) h.ts (reverse ps)

  fault_told : (f : NetworkFault) → services_fault (configs_of ts) p (packets_in now_steps) ≡ Some f → refused first (seen_behind ps p) ≡ Some (refusal.Network f)
  fault_told f e =
      refused_so (seen_behind ps p)
      ∙ ap (λ o. option_or (option_map refusal.Network o) (if share_a_pid (configs_of ts) (p ∷ reverse ps) then Some refusal.SharedPid else None)) (sym (ap (services_fault (configs_of ts) p) now_packets) ∙ e)

  -- it is passed on
  module _ {A : Type 0} (sends : S → List (List ℕ) → List (List ℕ) → List ℕ → S → Type 0) (now : S) (is_out : List (List ℕ) → Type 0) (kept : List ℕ) (desk' : Desk M) (libraries : List (AdLibrary A)) where
    pub services_went : FiledAs libraries ts → share_an_index (configs_of ts) ≡ false → length ts ≤ 8
        → ((sent : List (List ℕ)) → ServicesSend ts desk' talk libraries exchanged (ps ++ p ∷ []) sent → sends first (ps ++ p ∷ []) sent kept now)
        → ((steps : List Step) → packets_in steps ≡ reverse ps → DeskServes ts desk steps → services_send ts steps ≡ qs
        → DeskServes ts desk' (Packet p ∷ steps) × (is_out (services_send ts (Packet p ∷ steps)) × (share_a_pid (configs_of ts) (packets_in (Packet p ∷ steps)) ≡ false)))
        → Went sends refused first ps p kept now is_out
    services_went filed indexes few so feeds =
        let run = passed (DeskServes ts) (reply_by ts) exchanged ps desk desk' talk (λ steps. services_send ts steps ≡ qs)
        (λ steps. is_out (services_send ts steps) × (share_a_pid (configs_of ts) (packets_in steps) ≡ false)) p h feeds in
        let steps = steps_of (length run.rs) run.ts (reverse (ps ++ p ∷ [])) in
        let back : reverse (ps ++ p ∷ []) ≡ p ∷ reverse ps = reverse-append ps (p ∷ []) in
        let all : packets_in steps ≡ reverse (ps ++ p ∷ []) = steps_packets (length run.rs) run.ts (reverse (ps ++ p ∷ [])) in
        let apart : share_a_pid (configs_of ts) (reverse (ps ++ p ∷ [])) ≡ false = subst (λ l. share_a_pid (configs_of ts) l ≡ false) all run.out.1 in
        let sound = sound_at (services_in desk') ts steps p (reverse ps) run.gone.services (all ∙ back) in
        record {
          sent = services_send ts steps;
          sound = refused_so (seen_behind ps p)
              ∙ ap (λ o. option_or (option_map refusal.Network o) (if share_a_pid (configs_of ts) (p ∷ reverse ps) then Some refusal.SharedPid else None)) sound
              ∙ ap (λ b. if b then Some refusal.SharedPid else None) (subst (λ l. share_a_pid (configs_of ts) l ≡ false) back apart);
          sends_it = so (services_send ts steps) (record {
            filed = filed;
            indexes = indexes;
            few = few;
            apart = apart;
            run = record { ts = run.ts; rs = run.rs; gone = run.gone; talks = run.talks; exchanges = run.exchanges; replies = run.replies; out = refl };
          });
          out = run.out.0;
        }

  -- or not
  module _ (refuses : S → List (List ℕ) → List (List ℕ) → List ℕ → S → Type 0) (now : S) (is_out : List (List ℕ) → Type 0)
      (refuses_so : (sent : List (List ℕ)) → ServicesRefuse ts exchanged ps sent p → refuses first ps sent p now) where
    module _ (breaks : S → List (List ℕ) → Option (List ℕ) → List (List ℕ) → List ℕ → S → Type 0) (fails : List (List ℕ) → List ℕ → PutFault → Type 0)
        (breaks_so : (put : List (List ℕ)) (q : List ℕ) → ServicesBreak ts exchanged ps (Some p) put q → breaks first ps (Some p) put q now) where
      services_fail_so : (fault : FeedFault) → FailedEach fault ts p now_steps (given_at ts p now_steps) (λ l. is_out (qs ++ l)) (λ put q x. fails (qs ++ put) q x)
          → StepFails refused refuses breaks (stage_fault_of fault) first ps p now is_out fails
      services_fail_so (Network f) k = record {
        sent = qs ++ k.1.front;
        reason = fault_told f k.0;
        refuses_it = refuses_so _ (heard_served (DeskServes ts) (reply_by ts) exchanged ps desk talk _ _ h (record {
          front = record { front = k.1.front; left = k.1.left; all = k.1.all; out = ap (λ l. l ++ k.1.front) h.out };
          whole = λ none. let e = sym k.0 ∙ none in absurd (cc);
        }));
        out = k.1.out;
      }
      services_fail_so (Sink x) k = record {
        sent = qs ++ k.put;
        packet = k.packet;
        breaks_so = breaks_so _ _ (heard_served (DeskServes ts) (reply_by ts) exchanged ps desk talk _ _ h
            (record { put = k.put; packet = k.packet; left = k.left; all = k.all; fault = (ap (λ l. l ++ k.put) h.out, refl) }));
        failed = k.fault;
      }
      services_fail_so Failed k = absurd k

      pub services_step_fails : (r : StageFault Refusal) (fault : FeedFault) → r ≡ stage_fault_of fault
          → FailedEach fault ts p now_steps (given_at ts p now_steps) (λ l. is_out (qs ++ l)) (λ put q x. fails (qs ++ put) q x) → StepFails refused refuses breaks r first ps p now is_out fails
      services_step_fails r fault e k = subst (λ x. StepFails refused refuses breaks x first ps p now is_out fails) (sym e) (services_fail_so fault k)

    -- with it two services share a PID
    pub services_share : (desk' : Desk M) → DeskServes ts desk' (Packet p ∷ now_steps) → is_out (qs ++ given_at ts p now_steps) → share_a_pid (configs_of ts) (packets_in (Packet p ∷ now_steps)) ≡ true
        → Refused refused refuses refusal.SharedPid first ps p now is_out
    services_share desk' stands out shared =
        let sound = sound_at (services_in desk') ts (Packet p ∷ now_steps) p (reverse ps) stands.services (ap (λ l. p ∷ l) now_packets) in
        let all = ap (λ l. l ++ given_at ts p now_steps) h.out in
        record {
          sent = qs ++ given_at ts p now_steps;
          reason = refused_so (seen_behind ps p)
              ∙ ap (λ o. option_or (option_map refusal.Network o) (if share_a_pid (configs_of ts) (p ∷ reverse ps) then Some refusal.SharedPid else None)) sound
              ∙ ap (λ b. if b then Some refusal.SharedPid else None) (subst (λ l. share_a_pid (configs_of ts) (p ∷ l) ≡ true) now_packets shared);
          refuses_it = refuses_so _ (heard_served (DeskServes ts) (reply_by ts) exchanged ps desk talk _ _ h (record {
            front = record { front = given_at ts p now_steps; left = []; all = sym (append-nil (given_at ts p now_steps)); out = all };
            whole = λ none. all;
          }));
          out = out;
        }

-- ---- the end

module _ {M : Type 0} (ts : List ServiceTerms) (exchanged : Option SessionEnd → List Take → List Reply → Type 0) (ps qs : List (List ℕ)) (desk : Desk M) (talk : Talk M)
    (h : HasRun (DeskServes ts) (reply_by ts) desk talk (λ steps. services_send ts steps ≡ qs) exchanged ps) where
  abbrev all_steps : List Step
  all_steps = steps_of (length h.rs) h.ts (reverse ps)

  pub services_ended : (report : ServiceReport) → CountsReplies report.messages report.accepted report.refused (replies_by (reply_by ts) all_steps) → AreEvents report.services.items ts all_steps
      → ServicesEnd ts exchanged ps (qs ++ services_rest ts all_steps) report
  services_ended report counts events bs all sound = record {
    sound = sound;
    bytes = subst (λ q. ArePacketsOfBytes (reverse q)) (sym all)
        (subst ArePacketsOfBytes (steps_packets (length h.rs) h.ts (reverse ps)) (all_bytes desk.services.items ts all_steps h.gone.none.index h.gone.none.is_first h.gone.services));
    takes = h.ts;
    rs = h.rs;
    serves = subst (λ q. ServesBy (reply_by ts) exchanged h.ts h.rs (length q) (steps_of (length h.rs) h.ts (reverse q))) (sym all)
        (record { ending = talk.end; talked = h.talks.talked; bytes = h.talks.bytes; exchanges = h.exchanges; replies = h.replies });
    written = subst (λ q. services_output ts (steps_of (length h.rs) h.ts (reverse q)) ≡ qs ++ services_rest ts all_steps) (sym all) (ap (λ l. l ++ services_rest ts all_steps) h.out);
    counted = subst (λ q. ServicesCounted report ts h.rs (steps_of (length h.rs) h.ts (reverse q))) (sym all)
        (record { messages = subst (CountsReplies report.messages report.accepted report.refused) (sym h.replies) counts; events = events });
  }

  -- what is left is not taken; there is room for the events of eight services
  module _ {S : Type 0} (breaks : S → List (List ℕ) → Option (List ℕ) → List (List ℕ) → List ℕ → S → Type 0) (first now : S) (fails : List (List ℕ) → List ℕ → PutFault → Type 0)
      (breaks_so : (put : List (List ℕ)) (q : List ℕ) → ServicesBreak ts exchanged ps None put q → breaks first ps None put q now) (few : length ts ≤ 8) where
    services_end_fails : (fault : FeedFault) → RestFails fault [] ts all_steps (λ put q y. fails (qs ++ put) q y) → FinishFails breaks (put_fault_of fault) first ps now fails
    services_end_fails (Network f) k = absurd k
    services_end_fails (Sink x) k = record {
      sent = qs ++ k.put;
      packet = k.packet;
      breaks_so = breaks_so _ _ (run_served (DeskServes ts) (reply_by ts) exchanged ps desk talk _ _ h
          (record { put = k.put; packet = k.packet; left = k.left; all = k.all; fault = (ap (λ l. l ++ k.put) h.out, refl) }));
      failed = k.fault;
    }
    services_end_fails Failed k = let none : ⊥ = omega (arith, few, k) in absurd none

    pub services_finish_fails : (r : PutFault) (fault : FeedFault) → r ≡ put_fault_of fault → RestFails fault [] ts all_steps (λ put q y. fails (qs ++ put) q y) → FinishFails breaks r first ps now fails
    services_finish_fails r fault e k = subst (λ x. FinishFails breaks x first ps now fails) (sym e) (services_end_fails fault k)

-- what follows from how the sink failed
pub rest_fails_so : (fault : FeedFault) (before : List ServiceEvents) (ts : List ServiceTerms) (steps : List Step) (fails fails' : List (List ℕ) → List ℕ → PutFault → Type 0)
    → ((put : List (List ℕ)) (q : List ℕ) (x : PutFault) → fails put q x → fails' put q x) → RestFails fault before ts steps fails → RestFails fault before ts steps fails'
rest_fails_so (Network f) before ts steps fails fails' so k = absurd k
rest_fails_so (Sink x) before ts steps fails fails' so k = front_so _ _ _ (λ put q. so put q x) k
rest_fails_so Failed before ts steps fails fails' so k = k

pub finish_blamed : (fault : FeedFault) (a b : Tally) (full : Bool) → OutputBlamed (Feed fault) a b full → Blamed (put_fault_of fault) a b full
finish_blamed (Network f) a b full h = tt
finish_blamed (Sink f) a b full h = h
finish_blamed Failed a b full h = tt

pub step_blamed : (fault : FeedFault) (a b : Tally) (full : Bool) → OutputBlamed (Feed fault) a b full → StepBlamed (stage_fault_of fault) a b full
step_blamed (Network f) a b full h = h
step_blamed (Sink f) a b full h = h
step_blamed Failed a b full h = tt
