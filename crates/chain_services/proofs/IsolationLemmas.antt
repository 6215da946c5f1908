-- From what a run of several services answers to the theorem of isolation.
use Rattle.std.proofs.Common.{◌≡◌, ℕ, ◌≤◌, Bool, false, not, List, [], ◌∷◌, ◌++◌, map, Option, None, Some, refl, sym, ap, subst, ◌∙◌, arith, length, reverse}
use Rattle.std.specs.Prelude.{filter, flat_map}
use Rattle.std.specs.List.{AllByRecursion}
use Rattle.std.proofs.lemmas.List.{length-reverse, reverse-reverse}
use Rattle.wire_fields.specs.Numbers.{AreBytes}
use Rattle.ts_packet.specs.Fields.{on_one}
use Rattle.ts_packet.specs.Packets.{packets_of}
use Rattle.ts_packet.specs.Runs.{seen_after}
use Rattle.psi_tables.specs.declared.config.Config.{Config}
use Rattle.scte104_codec.specs.Reading.{MessageReading}
use Rattle.scte104_codec.specs.declared.reply.Reply.{Reply}
use Rattle.program_follower.specs.Purposes.{writing_cues}
use Rattle.program_laws.proofs.FaultLemmas.{Each-both}
use Rattle.injector.specs.Steps.{Step, packets_in}
use Rattle.cued_laws.specs.Laws.{ArePacketsOfBytes}
use Rattle.ad_library.specs.declared.library.AdLibrary.{AdLibrary}
use Rattle.ad_library.specs.Library.{IsLibrary}
use Rattle.ad_library.proofs.HeldLemmas.{held_is_library}
use Rattle.chain_engine.specs.Automation.{Take, bytes_of}
use Rattle.chain_engine.specs.Passing.{IsSoundNetwork}
use Rattle.chain_engine.specs.Stops.{first_run_fault}
use Rattle.chain_engine.specs.Runs.{steps_of, replies_by, replies_in}
use Rattle.chain_engine.specs.declared.hearing.SessionEnd.{SessionEnd}
use Rattle.chain_engine.proofs.StepsLemmas.{steps_packets}
use Rattle.service_laws.specs.Messages.{is_for, own_steps, reply_of_none, reply_among, share_an_index}
use Rattle.service_laws.specs.Services.{ServiceTerms, configs_of, services_output, services_rest}
use Rattle.service_laws.specs.Faults.{share_a_pid}
use Rattle.service_laws.specs.Laws.{AreServed, IsAlone, all_pids}
use Rattle.service_laws.proofs.IsolationLemmas.{at-each, each_is_alone, others_are_the_networks, no_cue_goes_out}
use Rattle.chain_services.specs.Serving.{reply_by, services_in}
use Rattle.chain_services.specs.Parts.{AreEvents}
use Rattle.chain_services.specs.Runs.{ServicesStandFor, ServicesRan, ServicesRunAll, terms_by}
use Rattle.chain_services.specs.Isolation.{Given, messages_of, replies_to, is_for_none, left_alone, stands_among, AreAsAlone, AreApart, Isolated, IsolatesAll}
use Rattle.chain_services.specs.declared.report.ServiceEvents.{ServiceEvents}
use Rattle.chain_services.specs.declared.report.ServiceReport.{ServiceReport}
use Rattle.chain_services.specs.declared.services.Services.{Services}
use Rattle.chain_services.proofs.BeginLemmas.{configs_by, configs_are, as_many}
use Rattle.chain_services.proofs.AnswerLemmas.{readings_in, takes_few, all_readings, own_replies, none_replies, own_reply_at, none_reply}
use Rattle.chain_services.proofs.SoundLemmas.{are_apart, all_sound}
use Rattle.chain_services.proofs.AloneLemmas.{as_alone}
use Rattle.chain_services.proofs.OrderLemmas.{sends_so, rests_so}

-- what is filed for each service is what a library holds
libraries_by : {A : Type 0} (cs : List Config) (ls : List (AdLibrary A)) → AllByRecursion (λ (t : ServiceTerms). IsLibrary t.filed) (terms_by cs ls)
libraries_by [] ls = tt
libraries_by (c ∷ cs) [] = tt
libraries_by (c ∷ cs) (l ∷ ls) = (held_is_library l, libraries_by cs ls)

module _ (ts : List ServiceTerms) (g : Given) (automation : AreBytes (bytes_of g.takes)) (network : ArePacketsOfBytes (reverse (packets_of g.bytes)))
    (indexes : share_an_index (configs_of ts) ≡ false) (few : length g.takes ≤ length (packets_of g.bytes))
    (answered : g.replies ≡ replies_by (reply_by ts) (steps_of (length g.replies) g.takes (reverse (packets_of g.bytes)))) where
  abbrev steps : List Step
  steps = steps_of (length g.replies) g.takes (reverse (packets_of g.bytes))

  -- the messages of the history are those that were answered
  same_readings : readings_in (steps_of (length g.replies) g.takes (reverse (packets_of g.bytes))) ≡ messages_of g
  same_readings =
      let long = length-reverse (packets_of g.bytes) in
      all_readings (length g.replies) g.takes (reverse (packets_of g.bytes)) (omega (arith, long, few))

  -- replies of the history are those that were given
  same_replies : (test : MessageReading → Bool)
      → replies_to test (messages_of g) g.replies ≡ replies_to test (readings_in steps) (replies_by (reply_by ts) steps)
  same_replies test = ap (λ ms. replies_to test ms g.replies) (sym same_readings) ∙ ap (replies_to test (readings_in steps)) answered

  -- those to a service's messages are those of its own history
  abbrev AnswersIt : ServiceTerms → Type 0
  AnswersIt t = replies_to (is_for t.config.index) (messages_of g) g.replies ≡ replies_in t.config (own_steps t.config.index (steps_of (length g.replies) g.takes (reverse (packets_of g.bytes))))

  answers_each : AllByRecursion AnswersIt ts
  answers_each = at-each AnswersIt ts [] ts refl (λ before t after is.
      same_replies (is_for t.config.index)
      ∙ own_replies (reply_by ts) t.config
      (λ m past own. ap (λ l. reply_among (configs_of l) m past) is ∙ own_reply_at before t after m past (subst (λ l. share_an_index (configs_of l) ≡ false) is indexes) own) steps)

  -- and those to the messages of none are as the rule for them says
  pub answers_none : replies_to (is_for_none ts) (messages_of g) g.replies ≡ map reply_of_none (filter (is_for_none ts) (messages_of g))
  answers_none =
      same_replies (is_for_none ts)
      ∙ none_replies (reply_by ts) (is_for_none ts) (λ m past h. none_reply ts m past h) steps
      ∙ ap (λ ms. map reply_of_none (filter (is_for_none ts) ms)) same_readings

  -- ---- the packets

  same_network : packets_in (steps_of (length g.replies) g.takes (reverse (packets_of g.bytes))) ≡ reverse (packets_of g.bytes)
  same_network = steps_packets (length g.replies) g.takes (reverse (packets_of g.bytes))

  module _ (apart : AreApart ts g.bytes) where
    pub are_served : AreServed ts (packets_in (steps_of (length g.replies) g.takes (reverse (packets_of g.bytes))))
    are_served = record {
      sound = subst (λ l. AllByRecursion (λ (t : ServiceTerms). IsSoundNetwork t.config l) ts) (sym same_network) (all_sound ts g.bytes apart network);
      apart = subst (λ l. share_a_pid (configs_of ts) l ≡ false) (sym same_network) apart.pids;
    }

    abbrev out : List (List ℕ)
    out = services_output ts (steps_of (length g.replies) g.takes (reverse (packets_of g.bytes)))

    -- what is known of each service
    abbrev HasParts : ServiceTerms → Type 0
    HasParts t = (IsLibrary t.filed × (first_run_fault (writing_cues t.config) g.bytes ≡ None)) × (IsAlone ts (steps_of (length g.replies) g.takes (reverse (packets_of g.bytes))) t × AnswersIt t)

    each_so : (es : List ServiceEvents) (us : List ServiceTerms) → AreEvents es us (steps_of (length g.replies) g.takes (reverse (packets_of g.bytes))) → AllByRecursion HasParts us → AreAsAlone g out es us
    each_so [] [] events parts = tt
    each_so [] (t ∷ us) events parts = absurd events
    each_so (e ∷ es) [] events parts = absurd events
    each_so (e ∷ es) (t ∷ us) events parts = (
      as_alone g automation network ts t parts.0.0.0 parts.0.0.1 parts.0.1.0 parts.0.1.1 e events.0,
      each_so es us events.1 parts.1,
    )

    -- each service is as its run alone
    pub all_alone : AllByRecursion (λ (t : ServiceTerms). IsLibrary t.filed) ts → (es : List ServiceEvents)
        → AreEvents es ts (steps_of (length g.replies) g.takes (reverse (packets_of g.bytes)))
        → AreAsAlone g (services_output ts (steps_of (length g.replies) g.takes (reverse (packets_of g.bytes)))) es ts
    all_alone libraries es events =
        each_so es ts events
        (Each-both (λ (t : ServiceTerms). IsLibrary t.filed × (first_run_fault (writing_cues t.config) g.bytes ≡ None)) (λ (t : ServiceTerms). IsAlone ts steps t × AnswersIt t) ts
        (Each-both (λ (t : ServiceTerms). IsLibrary t.filed) (λ (t : ServiceTerms). first_run_fault (writing_cues t.config) g.bytes ≡ None) ts libraries apart.each)
        (Each-both (IsAlone ts steps) AnswersIt ts (each_is_alone ts steps are_served) answers_each))

    -- the packets of none are the network's
    pub rest_stays : filter (λ q. not (on_one (all_pids ts (reverse (packets_of g.bytes))) q)) (services_output ts (steps_of (length g.replies) g.takes (reverse (packets_of g.bytes))))
        ≡ filter (λ q. not (on_one (all_pids ts (reverse (packets_of g.bytes))) q)) (packets_of g.bytes)
    rest_stays =
        subst (λ l. filter (λ q. not (on_one (all_pids ts l) q)) out ≡ filter (λ q. not (on_one (all_pids ts l) q)) (reverse l)) same_network (others_are_the_networks ts steps are_served)
        ∙ ap (filter (λ q. not (on_one (all_pids ts (reverse (packets_of g.bytes))) q))) (reverse-reverse (packets_of g.bytes))

  -- all of them, in order
  pub in_order : services_output ts (steps_of (length g.replies) g.takes (reverse (packets_of g.bytes)))
      ≡ flat_map (stands_among g ts) (seen_after [] (packets_of g.bytes)) ++ flat_map (left_alone g) ts
  in_order =
      let long = length-reverse (packets_of g.bytes) in
      ap (λ l. l ++ services_rest ts steps) (sends_so g ts (reverse (packets_of g.bytes)) (omega (arith, long)))
      ∙ ap (λ l. flat_map (stands_among g ts) (seen_after [] l) ++ services_rest ts steps) (reverse-reverse (packets_of g.bytes))
      ∙ ap (λ l. flat_map (stands_among g ts) (seen_after [] (packets_of g.bytes)) ++ l) (rests_so g automation ts)

-- ---- the theorem

pub isolated : (ts : List ServiceTerms) (bs : List ℕ) (is_out : List (List ℕ) → Type 0) (exchanged : Option SessionEnd → List Take → List Reply → Type 0) (report : ServiceReport)
    → AllByRecursion (λ (t : ServiceTerms). IsLibrary t.filed) ts → share_an_index (configs_of ts) ≡ false → ServicesRan ts bs is_out exchanged report → Isolated ts bs is_out exchanged report
isolated ts bs is_out exchanged report libraries indexes ran =
    let g : Given = record { bytes = bs; takes = ran.takes; replies = ran.rs } in
    let serves = ran.serves in
    let few = takes_few serves.ending ran.takes (length ran.rs) (length (packets_of bs)) serves.talked in
    let apart = are_apart ts bs ran.sound in
    let steps = steps_of (length ran.rs) ran.takes (reverse (packets_of bs)) in
    let served = are_served ts g serves.bytes ran.bytes indexes few serves.replies apart in
    record {
      ending = serves.ending;
      takes = ran.takes;
      rs = ran.rs;
      talked = serves.talked;
      exchanges = serves.exchanges;
      out = services_output ts steps;
      written = ran.written;
      each = all_alone ts g serves.bytes ran.bytes indexes few serves.replies apart libraries report.services.items ran.counted.events;
      others = answers_none ts g serves.bytes ran.bytes indexes few serves.replies;
      messages = ran.counted.messages;
      rest = rest_stays ts g serves.bytes ran.bytes indexes few serves.replies apart;
      no_cues = no_cue_goes_out ts steps served;
      order = in_order ts g serves.bytes ran.bytes indexes few serves.replies;
      apart = apart;
    }

-- so it is where the network's bytes are told
isolates_all : (ts : List ServiceTerms) (input : Option (List ℕ)) (is_out : List (List ℕ) → Type 0) (exchanged : Option SessionEnd → List Take → List Reply → Type 0) (report : ServiceReport)
    → AllByRecursion (λ (t : ServiceTerms). IsLibrary t.filed) ts → share_an_index (configs_of ts) ≡ false → ServicesRunAll ts input is_out exchanged report → IsolatesAll ts input is_out exchanged report
isolates_all ts None is_out exchanged report libraries indexes h = tt
isolates_all ts (Some bs) is_out exchanged report libraries indexes h = isolated ts bs is_out exchanged report libraries indexes h

-- and where they were given nothing before, each with a library
pub isolates_by : {M A : Type 0} (services : Services M) (cs : List Config) (libraries : List (AdLibrary A)) → ServicesStandFor services cs → length libraries ≡ length (services_in services.desk)
    → (input : Option (List ℕ)) (is_out : List (List ℕ) → Type 0) (exchanged : Option SessionEnd → List Take → List Reply → Type 0) (report : ServiceReport)
    → ServicesRunAll (terms_by cs libraries) input is_out exchanged report → IsolatesAll (terms_by cs libraries) input is_out exchanged report
isolates_by services cs libraries h many input is_out exchanged report ran =
    let long : length libraries ≡ length cs = many ∙ sym (as_many (services_in services.desk)) ∙ ap length (configs_are services cs h) in
    isolates_all (terms_by cs libraries) input is_out exchanged report (libraries_by cs libraries)
    (subst (λ l. share_an_index l ≡ false) (sym (configs_by cs libraries long)) h.indexes) ran
