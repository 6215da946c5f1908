-- One service of several is as a run of it alone.
use Rattle.std.proofs.Common.{◌≡◌, ℕ, ◌≤◌, List, take, None, Some, refl, sym, ap, subst, ◌∙◌, arith, length, reverse}
use Rattle.std.specs.Prelude.{filter}
use Rattle.std.proofs.lemmas.List.{length-map, length-reverse, length-take, reverse-reverse, take_all}
use Rattle.wire_fields.specs.Numbers.{AreBytes}
use Rattle.ts_packet.specs.Fields.{on_one}
use Rattle.ts_packet.specs.Packets.{packets_of}
use Rattle.psi_tables.specs.declared.config.Config.{Config}
use Rattle.scte104_codec.specs.Reading.{message_of}
use Rattle.program_follower.specs.Program.{known_pids}
use Rattle.program_follower.specs.Purposes.{writing_cues}
use Rattle.injector.specs.Steps.{Step, packets_in, cued}
use Rattle.cued_laws.specs.Laws.{ArePacketsOfBytes}
use Rattle.ad_library.specs.Library.{IsLibrary}
use Rattle.splice_plans.specs.Adverts.{setting_of}
use Rattle.splice_plans.specs.Reporting.{ReportIs, report_of}
use Rattle.splice_plans.specs.Switching.{spliced_network}
use Rattle.chain_engine.specs.Automation.{bytes_of}
use Rattle.chain_engine.specs.Talks.{HasTalked, messages_judged, messages_taken}
use Rattle.chain_engine.specs.Stops.{first_run_fault}
use Rattle.chain_engine.specs.Runs.{steps_of, sent_by, replies_in, reply_in}
use Rattle.chain_engine.specs.ChainRuns.{Ran, Counted}
use Rattle.chain_engine.proofs.StepsLemmas.{steps_packets}
use Rattle.service_laws.specs.Messages.{is_for, own_steps}
use Rattle.service_laws.specs.Services.{ServiceTerms, services_output}
use Rattle.service_laws.specs.Takes.{own_takes, own_judged}
use Rattle.service_laws.specs.Laws.{IsAlone, GivesItsOwn}
use Rattle.service_laws.proofs.TakeLemmas.{own_takes_give}
use Rattle.chain_services.specs.Parts.{EventsAre}
use Rattle.chain_services.specs.Isolation.{Given, messages_of, replies_to, takes_alone, judged_alone, history_alone, output_alone, replies_alone, report_alone, pids_alone, HasHeadline, IsAsAlone}
use Rattle.chain_services.specs.declared.report.ServiceEvents.{ServiceEvents}
use Rattle.chain_services.proofs.AnswerLemmas.{steps_readings, same_count}
use Rattle.chain_services.proofs.HeadlineLemmas.{headline_of}

module _ (g : Given) (automation : AreBytes (bytes_of g.takes)) where
  -- the network's packets, newest first
  abbrev past : List (List ℕ)
  past = reverse (packets_of g.bytes)

  -- all that was judged and passed
  abbrev steps : List Step
  steps = steps_of (length g.replies) g.takes (reverse (packets_of g.bytes))

  -- ---- the run of a service alone

  -- its takes give the service's own messages
  gives : (c : Config) → GivesItsOwn c.index (length g.replies) g.takes (reverse (packets_of g.bytes))
  gives c = own_takes_give c.index (length g.replies) g.takes (reverse (packets_of g.bytes)) automation

  long : length (reverse (packets_of g.bytes)) ≡ length (packets_of g.bytes)
  long = length-reverse (packets_of g.bytes)

  -- so its history is the service's own
  pub same_history : (c : Config) → history_alone g c ≡ own_steps c.index (steps_of (length g.replies) g.takes (reverse (packets_of g.bytes)))
  same_history c = subst (λ k. steps_of (own_judged c.index (length g.replies) g.takes k) (own_takes c.index (length g.replies) g.takes k) past ≡ own_steps c.index steps) long (gives c).steps

  has_talked : (c : Config) → HasTalked None (takes_alone g c) (judged_alone g c) (length (packets_of g.bytes))
  has_talked c = subst (λ k. HasTalked None (own_takes c.index (length g.replies) g.takes k) (own_judged c.index (length g.replies) g.takes k) k) long (gives c).talked

  are_bytes : (c : Config) → AreBytes (bytes_of (takes_alone g c))
  are_bytes c = subst (λ k. AreBytes (bytes_of (own_takes c.index (length g.replies) g.takes k))) long (gives c).bytes

  -- there is a reply for each message that it judges
  count : (c : Config) → length (replies_alone g c) ≡ judged_alone g c
  count c =
      let n = judged_alone g c in
      let ts = takes_alone g c in
      let t = has_talked c in
      let few : length ts ≤ length past = (let a = t.0 in let b = long in omega (arith, a, b)) in
      let all : length (messages_judged n ts) ≡ n = (let a = length-take n (messages_taken ts) in let b = t.2 in omega (arith, a, b)) in
      sym (same_count (reply_in c) (history_alone g c))
      ∙ ap length (steps_readings n ts past)
      ∙ length-map (messages_judged n (take (length past) ts)) message_of
      ∙ ap (λ l. length (messages_judged n l)) (take_all (length past) ts few)
      ∙ all

  -- ---- one service

  module _ (network : ArePacketsOfBytes (reverse (packets_of g.bytes))) (ts : List ServiceTerms) (t : ServiceTerms) (library : IsLibrary t.filed)
      (sound : first_run_fault (writing_cues t.config) g.bytes ≡ None)
      (alone : IsAlone ts (steps_of (length g.replies) g.takes (reverse (packets_of g.bytes))) t)
      (answers : replies_to (is_for t.config.index) (messages_of g) g.replies ≡ replies_in t.config (own_steps t.config.index (steps_of (length g.replies) g.takes (reverse (packets_of g.bytes))))) where
    abbrev out : List (List ℕ)
    out = services_output ts (steps_of (length g.replies) g.takes (reverse (packets_of g.bytes)))

    -- the packets on its PIDs
    own_packets : filter (on_one (pids_alone g t.config)) (services_output ts (steps_of (length g.replies) g.takes (reverse (packets_of g.bytes)))) ≡ filter (on_one (pids_alone g t.config)) (output_alone g t)
    own_packets =
        subst (λ l. filter (on_one (known_pids (Some t.config.program) l)) out ≡ filter (on_one (known_pids (Some t.config.program) l)) (output_alone g t))
        (steps_packets (length g.replies) g.takes past)
        (alone ∙ ap (λ h. filter (on_one (known_pids (Some t.config.program) (packets_in steps))) (spliced_network (setting_of t.config t.filed) (sent_by t.config h))) (sym (same_history t.config)))

    -- and the replies to its messages
    own_answers : replies_to (is_for t.config.index) (messages_of g) g.replies ≡ replies_alone g t.config
    own_answers = answers ∙ ap (replies_in t.config) (sym (same_history t.config))

    -- what is counted of its events
    module _ (e : ServiceEvents) (events : EventsAre e t (steps_of (length g.replies) g.takes (reverse (packets_of g.bytes)))) where
      own_counts : ReportIs e.switch (report_of (setting_of t.config t.filed) (cued t.config (history_alone g t.config)))
      own_counts = subst (λ h. ReportIs e.switch (report_of (setting_of t.config t.filed) (cued t.config h))) (sym (same_history t.config)) events.switch

      -- what the theorem of a run says of its run alone
      abbrev HasRunAlone : Type 0
      HasRunAlone = Ran t.config t.filed g.bytes (λ ps. filter (on_one (pids_alone g t.config)) ps ≡ filter (on_one (pids_alone g t.config)) out)
          (λ ending ts rs. (ending ≡ None) × (ts ≡ takes_alone g t.config) × (rs ≡ replies_to (is_for t.config.index) (messages_of g) g.replies))
          (report_alone g t.config e.switch)

      own_run : HasRunAlone
      own_run =
          let c = t.config in
          let own = takes_alone g c in
          let rs = replies_alone g c in
          let same = sym (count c) in
          let k = length (packets_of g.bytes) in
          let report = report_alone g c e.switch in
          record {
            sound = sound;
            bytes = network;
            ts = own;
            rs = rs;
            serves = record {
              ending = None;
              talked = subst (λ n. HasTalked None own n k) same (has_talked c);
              bytes = are_bytes c;
              exchanges = (refl, refl, sym own_answers);
              replies = ap (λ n. replies_in c (steps_of n own past)) same;
            };
            written = ap (λ n. filter (on_one (pids_alone g c)) (spliced_network (setting_of c t.filed) (sent_by c (steps_of n own past)))) (sym same) ∙ sym own_packets;
            counted = subst (λ n. Counted report c t.filed (steps_of n own past)) same (record {
              messages = record { messages = refl; accepted = refl; refused = refl };
              events = subst (λ l. ReportIs e.switch (report_of (setting_of c t.filed) l)) (sym (reverse-reverse (cued c (history_alone g c)))) own_counts;
            });
          }

      -- THE SERVICE, beside its run alone
      pub as_alone : IsAsAlone g (services_output ts (steps_of (length g.replies) g.takes (reverse (packets_of g.bytes)))) e t
      as_alone =
          let c = t.config in
          let own = takes_alone g c in
          let rs = replies_alone g c in
          let same : steps_of (length rs) own past ≡ history_alone g c = ap (λ n. steps_of n own past) (count c) in
          record {
            packets = own_packets;
            replies = own_answers;
            index = events.index;
            program = events.program;
            counts = own_counts;
            run = own_run;
            headline = subst (λ h. HasHeadline out c t.filed g.bytes h e.switch) same
                (headline_of c t.filed library g.bytes sound own rs network (are_bytes c) out e.switch
                (subst (λ h. filter (on_one (pids_alone g c)) out ≡ filter (on_one (pids_alone g c)) (spliced_network (setting_of c t.filed) (sent_by c h))) (sym same) own_packets)
                (subst (λ h. ReportIs e.switch (report_of (setting_of c t.filed) (cued c h))) (sym same) own_counts));
          }
