-- From what a run on air answers to the headline of each of its stretches.
use Rattle.std.proofs.Common.{◌≡◌, ℕ, ◌<◌, ◌==◌, List, [], ◌∷◌, ◌++◌, map, length, reverse, true, refl, sym, ap, subst, ◌∙◌, arith, Option, None, Some, append_assoc}
use Rattle.std.specs.Prelude.{option_map}
use Rattle.std.specs.Prelude.{Result, Ok, Err, OnOk, IfOk}
use Rattle.std.specs.List.{AllByRecursion}
use Rattle.std.proofs.lemmas.Bool.{true≢false, eqb-true}
use Rattle.std.proofs.lemmas.List.{reverse-reverse}
use Rattle.ts_packet.specs.Fields.{is_among}
use Rattle.ts_packet.specs.Membership.{In}
use Rattle.ts_packet.specs.Packets.{packets_of}
use Rattle.ts_packet.proofs.Cases.{by_test}
use Rattle.ts_packet.proofs.RunLemmas.{map-reverse}
use Rattle.wire_fields.specs.Numbers.{AreBytes}
use Rattle.psi_tables.specs.declared.config.Config.{Config}
use Rattle.psi_tables.specs.Streams.{Entry as MapEntry, stream_of, pid_in, switched_of, is_switched as is_switched_kind}
use Rattle.psi_tables.specs.ProgramMap.{ProgramMap}
use Rattle.scte104_codec.specs.declared.reply.Reply.{Reply}
use Rattle.event_table.specs.Standing.{Standing}
use Rattle.program_follower.specs.Program.{known_map, program_in, pids_of}
use Rattle.program_follower.specs.Faults.{pids_in, first_fault}
use Rattle.program_follower.specs.Purposes.{writing_cues}
use Rattle.cued_laws.specs.Laws.{ArePacketsOfBytes}
use Rattle.cued_laws.proofs.CuedLemmas.{injected_is_faultless}
use Rattle.ad_library.specs.Advertisements.{Advertisement}
use Rattle.ad_library.specs.Library.{held, IsLibrary}
use Rattle.ad_library.proofs.HeldLemmas.{held_is_library}
use Rattle.splice_laws.specs.Splicing.{PlayedEvent, SliceUnit}
use Rattle.injector.specs.Steps.{Step, packets_in, cued}
use Rattle.splice_plans.specs.Adverts.{setting_of}
use Rattle.splice_plans.specs.Playing.{Adverts, played}
use Rattle.splice_plans.specs.Reporting.{ReportIs, report_of}
use Rattle.splice_plans.specs.Switching.{Setting, events_at, history_at, switched_past, rest_at}
use Rattle.splice_plans.specs.Known.{adverts_at, behind_at}
use Rattle.splice_plans.specs.Stepping.{puts_last}
use Rattle.switch_laws.specs.Laws.{ArePackets}
use Rattle.switch_laws.proofs.WholeLemmas.{head-joined}
use Rattle.chain_engine.specs.Automation.{Take, bytes_of}
use Rattle.chain_engine.specs.Airing.{Aired, Stretch, read_of, packets_through, steps_on_air}
use Rattle.chain_engine.specs.Switched.{journey_of, switched_on_air}
use Rattle.chain_engine.specs.Chained.{fed_on_air, chained_by_ended, CountsStretch, EachCounts}
use Rattle.chain_engine.specs.declared.hearing.SessionEnd.{SessionEnd}
use Rattle.chain_engine.specs.declared.report.Report.{Report}
use Rattle.chain_engine.proofs.ChainedLemmas.{read-all}
use Rattle.chain_laws.specs.Breaks.{EndsWithPacket, accepted_by}
use Rattle.chain_laws.specs.Runs.{switched_by, adverts_by, output_by, IsWholeRun}
use Rattle.chain_laws.specs.Exactly.{IsSpliced}
use Rattle.chain_laws.specs.Reports.{counts_by}
use Rattle.chain_laws.specs.Streams.{GoesOutToAnEnd, CarriesPlacedIn}
use Rattle.chain_laws.specs.Headline.{GoesOutAsSlice, CarriesBreaks, IsNetworkSpliced, CountsBreaks}
use Rattle.chain_laws.proofs.LibraryLemmas.{libraries_are_packed}
use Rattle.chain_laws.proofs.TableLemmas.{has-tables}
use Rattle.chain_laws.proofs.PmtPidLemmas.{pmt-stands}
use Rattle.chain_laws.proofs.RunLemmas.{reads}
use Rattle.chain_laws.proofs.CarriedLemmas.{carries-placed, carries-splice, each-map, same-switched, same-adverts, same-taken, map-apart}
use Rattle.chain_laws.proofs.ClockLemmas.{clocks-same}
use Rattle.chain_laws.proofs.UnchangedLemmas.{in-order, others-unchanged, unlisted-unchanged, unplayed-unchanged, breaks-counted}
use Rattle.on_air.specs.Stretches.{Entry, as_read as entries_read}
use Rattle.on_air.specs.AirRuns.{newest}
use Rattle.on_air.specs.AirOutputs.{aired, ended_of, ended_in, stretches_in}
use Rattle.on_air.specs.AirInjects.{ended_for, last_for}
use Rattle.on_air.specs.AirChains.{RanOnAir}
use Rattle.air_laws.specs.Counters.{but_counters}
use Rattle.air_laws.specs.Airs.{all_put}
use Rattle.air_laws.specs.Outputs.{disturbed, GoesOutFor, IsOfAdvertisement}
use Rattle.air_laws.specs.Headline.{IsStretchSpliced, HasEndedSpliced, EachEndedSpliced, one_behind_another, HeadlineOnAir, RunsOnAirAreSo}
use Rattle.air_laws.proofs.SwitchLemmas.{Goes}
use Rattle.air_laws.proofs.JourneyLemmas.{went_to_end, went-to-end, judged-to-end}
use Rattle.air_laws.proofs.FedLemmas.{fed-left-in-order, fed-all, fed-is-left}
use Rattle.air_laws.proofs.StretchLemmas.{IsSoundStretch, all-sound, newest-sound, read-aired, steps-read, steps-fit, stretches-are}
use Rattle.air_laws.proofs.RestLemmas.{IsLeftOver, rest-of, each-so}
use Rattle.air_laws.proofs.RunningLemmas.{runs-so}

-- ---- the network spliced of a whole run

any-end : (c : Config) (filed : ℕ → Option Advertisement) (steps : List Step) (pid : ℕ) (sent : PlayedEvent → List SliceUnit) (e : Standing)
    → GoesOutToAnEnd c filed steps pid sent e → GoesOutAsSlice c filed steps pid sent e
any-end c filed steps pid sent e h = record { stop = h.stop; last = h.last; goes = h.goes }

carries-breaks : (out : List (List ℕ)) (c : Config) (filed : ℕ → Option Advertisement) (steps : List Step) (pid : ℕ) → CarriesPlacedIn out c filed steps pid → CarriesBreaks out c filed steps pid
carries-breaks out c filed steps pid h = record {
  sent = h.sent;
  slices = each-map (any-end c filed steps pid h.sent) (played (adverts_by c filed steps) (accepted_by c steps)) h.slices;
  whole = h.whole;
  carried = h.carried;
  packets = h.packets;
  carries = h.carries;
}

whole-exactly : (c : Config) (filed : ℕ → Option Advertisement) (steps : List Step) → IsWholeRun c filed steps → IsSpliced c filed steps
whole-exactly c filed steps w = record {
  placed = λ pid a. carries-placed c filed steps w pid a;
  spliced = λ pid a d. carries-splice c filed steps w pid a d;
  clocks = λ pid a. clocks-same c filed steps w pid a;
  others = others-unchanged c filed steps w;
  order = in-order c filed steps w;
  tables = has-tables c filed steps w;
  pmt = λ l known. pmt-stands c filed steps w l known;
  no_program = λ none. unlisted-unchanged c filed steps w none;
  no_break = λ none. unplayed-unchanged c filed steps w none;
}

whole-spliced : (c : Config) (filed : ℕ → Option Advertisement) (steps : List Step) → IsSpliced c filed steps → IsNetworkSpliced (output_by c filed steps) c filed steps
whole-spliced c filed steps h = record {
  placed = λ pid a. carries-breaks (output_by c filed steps) c filed steps pid (h.placed pid a);
  spliced = h.spliced;
  clocks = h.clocks;
  others = h.others;
  pat = h.tables.pat;
  tables = h.tables.tables;
  no_cues = h.tables.no_cues;
  no_program = h.no_program;
  no_break = λ none. (h.no_break none).packets;
}

counts-breaks : (report : Report) (c : Config) (filed : ℕ → Option Advertisement) (steps : List Step) → ReportIs report.switch (counts_by c filed steps) → CountsBreaks report.switch c filed steps
counts-breaks report c filed steps h = record { played = h.played; not_fitted = h.not_fitted; unconditioned = h.unconditioned }

-- ---- the PIDs of switched streams are of 13 bits

below-pid : (f : ℕ) → pid_in f < 8192
below-pid f = omega arith

all-below : (es : List MapEntry) → AllByRecursion (λ pid. pid < 8192) (pids_in (switched_of (map stream_of es)))
all-below [] = tt
all-below (e ∷ es) = by_test (is_switched_kind e.kind) (λ y. simp y (below-pid e.pid_field, all-below es)) (λ n. simp n (all-below es))

among-below : (pids : List ℕ) (pid : ℕ) → AllByRecursion (λ pid. pid < 8192) pids → is_among pid pids ≡ true → pid < 8192
among-below [] pid h a = absurd (true≢false (sym a))
among-below (q ∷ pids) pid h a = by_test (q == pid) (λ y. subst (λ n. n < 8192) (eqb-true q pid y) h.0) (λ n. among-below pids pid h.1 (simp n at a))

switched-below : (o : Option ProgramMap) (pid : ℕ) → is_among pid (pids_of (option_map program_in o)) ≡ true → pid < 8192
switched-below None pid a = absurd (true≢false (sym a))
switched-below (Some m) pid a = among-below (pids_of (option_map program_in (Some m))) pid (all-below m.entries) a

-- ---- a stretch

ends-so : (n : ℕ) (ts : List Take) (first : ℕ) (packets : List Aired) → EndsWithPacket (steps_on_air n ts first packets)
ends-so n ts first [] = tt
ends-so n ts first (a ∷ past) = tt

module _ (c : Config) (filed : ℕ → Option Advertisement) (library : IsLibrary filed) (n : ℕ) (ts : List Take) (taken : AreBytes (bytes_of ts)) where
  abbrev k : Setting
  k = setting_of c filed

  module _ (first : ℕ) (past : List Entry) (h : IsSoundStretch (writing_cues c) past) where
    abbrev packets : List Aired
    packets = aired past

    abbrev steps : List Step
    steps = steps_on_air n ts first (aired past)

    abbrev fed : List Aired
    fed = fed_on_air c n ts first (aired past)

    abbrev gone : List (List ℕ)
    gone = switched_on_air (setting_of c filed) (fed_on_air c n ts first (aired past)) ++ puts_last (setting_of c filed) (journey_of (setting_of c filed) (fed_on_air c n ts first (aired past)))

    read-so : packets_in (steps_on_air n ts first (aired past)) ≡ entries_read past
    read-so = steps-read n ts first packets ∙ read-aired past

    whole-run : IsWholeRun c filed (steps_on_air n ts first (aired past))
    whole-run = record {
      run = record {
        cue_pid = (let below = c.below_null in omega (arith, below));
        not_pat = λ e. (let above = c.above_reserved in absurd (omega (arith, above, e)));
        faultless = ap (first_fault (writing_cues c)) read-so ∙ h.sound;
        bytes = subst ArePacketsOfBytes (sym read-so) h.bytes;
        requests = steps-fit c n ts first packets taken;
      };
      whole = ends-so n ts first packets;
      long = subst ArePackets (sym read-so) h.long;
      library = libraries_are_packed c filed steps library;
    }

    abbrev pids : List ℕ
    pids = switched_by c (steps_on_air n ts first (aired past))

    small-so : (pid : ℕ) → is_among pid (switched_by c (steps_on_air n ts first (aired past))) ≡ true → pid < 8192
    small-so pid a = switched-below (known_map (Some c.program) (packets_in steps)) pid a

    fed-read : (journey_of (setting_of c filed) (fed_on_air c n ts first (aired past))).read ≡ cued c (steps_on_air n ts first (aired past))
    fed-read = read-all c k n ts first packets

    goes-so : Goes (setting_of c filed) (switched_by c (steps_on_air n ts first (aired past))) (cued c (steps_on_air n ts first (aired past)))
    goes-so = record {
      within = λ pid a. ap (is_among pid) (sym (same-switched c filed steps whole-run)) ∙ a;
      apart = λ l is. map-apart c filed steps whole-run l (sym (reads c filed steps whole-run.run).same_pat ∙ is);
      sound = injected_is_faultless c steps whole-run.run.faultless whole-run.run.bytes;
    }

    -- all packets through the switch
    through : reverse (switched_past (setting_of c filed) (cued c (steps_on_air n ts first (aired past)))) ++ rest_at (setting_of c filed) (cued c (steps_on_air n ts first (aired past)))
        ≡ output_by c filed (steps_on_air n ts first (aired past))
    through = ap (λ l. reverse (switched_past k l) ++ rest_at k l) (sym (reverse-reverse (cued c steps)))

    goes-out : GoesOutFor (disturbed (aired past) (switched_by c (steps_on_air n ts first (aired past)))) (aired past)
        (switched_on_air (setting_of c filed) (fed_on_air c n ts first (aired past)) ++ puts_last (setting_of c filed) (journey_of (setting_of c filed) (fed_on_air c n ts first (aired past))))
        (output_by c filed (steps_on_air n ts first (aired past)))
    goes-out =
        let w = went-to-end c filed packets pids small-so fed (fed-is-left c n ts first packets) (subst (Goes k pids) (sym fed-read) goes-so) in
        let open_to = disturbed packets pids in record {
          aired = went_to_end c filed packets pids small-so fed;
          put = w.put_so;
          read = w.read_so ∙ ap (λ l. but_counters open_to (reverse (switched_past k l) ++ rest_at k l)) fed-read ∙ ap (but_counters open_to) through;
          unjudged = w.unjudged_so ∙ ap (λ l. but_counters open_to (all_put l)) (fed-left-in-order c n ts first packets);
        }

    pub stretch-spliced : (report : Report) → CountsStretch report c filed n ts first (aired past) → IsStretchSpliced
        (switched_on_air (setting_of c filed) (fed_on_air c n ts first (aired past)) ++ puts_last (setting_of c filed) (journey_of (setting_of c filed) (fed_on_air c n ts first (aired past))))
        (aired past) report c filed (steps_on_air n ts first (aired past))
    stretch-spliced report told = record {
      network = ap reverse (steps-read n ts first packets) ∙ sym (map-reverse read_of packets);
      messages = told.messages;
      spliced = output_by c filed steps;
      output = whole-spliced c filed steps (whole-exactly c filed steps whole-run);
      named = refl;
      exactly = whole-exactly c filed steps whole-run;
      goes = goes-out;
      judged = λ none. ap (λ l. switched_on_air k l ++ puts_last k (journey_of k l)) (fed-all c n ts first packets none) ∙ judged-to-end k (cued c steps) ∙ through;
      counted = counts-breaks report c filed steps (subst (ReportIs report.switch) (ap (report_of k) fed-read ∙ breaks-counted c filed steps whole-run) told.events);
    }

    -- ---- what is left at its end

    same-events : history_at (setting_of c filed) (cued c (steps_on_air n ts first (aired past))) (behind_at (setting_of c filed) (cued c (steps_on_air n ts first (aired past))))
        ≡ events_at (setting_of c filed) (cued c (steps_on_air n ts first (aired past)))
    same-events = ap (events_at k) (head-joined k (cued c steps))

    same-played : played (adverts_at (setting_of c filed) (cued c (steps_on_air n ts first (aired past)))) (history_at (setting_of c filed) (cued c (steps_on_air n ts first (aired past))) (behind_at (setting_of c filed) (cued c (steps_on_air n ts first (aired past)))))
        ≡ played (adverts_by c filed (steps_on_air n ts first (aired past))) (accepted_by c (steps_on_air n ts first (aired past)))
    same-played =
        ap (played (adverts_at k (cued c steps))) same-events
        ∙ ap (λ ads. played ads (events_at k (cued c steps))) (same-adverts c filed steps whole-run)
        ∙ (same-taken c filed steps whole-run).sorted

    of-advertisement : (q : List ℕ) → IsLeftOver (setting_of c filed) (cued c (steps_on_air n ts first (aired past))) q → IsOfAdvertisement c filed (steps_on_air n ts first (aired past)) q
    of-advertisement q i = record {
      pid = i.pid;
      e = i.of.e;
      unit = i.unit;
      counter = i.counter;
      switched = ap (is_among i.pid) (sym (same-switched c filed steps whole-run)) ∙ i.of.switched;
      played_so = subst (In i.of.e) same-played i.of.of;
      runs = runs-so c filed steps whole-run i.pid i.of.switched i.of.e i.of.of i.of.running;
      unit_of = subst (λ (ads : Adverts). In i.unit (ads.units i.of.e i.pid)) (same-adverts c filed steps whole-run) i.of.unit;
      small = i.small;
      packed = i.packed;
    }

    abbrev left : List (List ℕ)
    left = puts_last (setting_of c filed) (journey_of (setting_of c filed) (fed_on_air c n ts first (aired past)))

    left-of : AllByRecursion (IsOfAdvertisement c filed (steps_on_air n ts first (aired past))) (puts_last (setting_of c filed) (journey_of (setting_of c filed) (fed_on_air c n ts first (aired past))))
    left-of =
        let x = journey_of k fed in
        each-so (IsLeftOver k (cued c steps)) (IsOfAdvertisement c filed steps) of-advertisement left
        (subst (λ l. AllByRecursion (IsLeftOver k l) left) fed-read (rest-of k refl x.counted x.read))

    pub ended-spliced : (report : Report) → CountsStretch report c filed n ts first (aired past)
        → HasEndedSpliced (switched_on_air (setting_of c filed) (fed_on_air c n ts first (aired past))) (aired past) report c filed (steps_on_air n ts first (aired past))
    ended-spliced report told = record { rest = left; of_advertisements = left-of; stretch = stretch-spliced report told }

  -- ---- those that ended

  -- what was out of each
  abbrev pub outs_of : List Stretch → List (List (List ℕ))
  outs_of [] = []
  outs_of (s ∷ earlier) = switched_on_air (setting_of c filed) (fed_on_air c n ts (packets_through earlier) s.packets) ∷ outs_of earlier

  all-out : (ended : List Stretch) → chained_by_ended c filed n ts ended ≡ one_behind_another ended (outs_of ended)
  all-out [] = refl
  all-out (s ∷ earlier) = ap (λ l. l ++ (switched_on_air k (fed_on_air c n ts (packets_through earlier) s.packets) ++ s.behind)) (all-out earlier)

  each-spliced : (earlier : List (List Entry)) (told : List Report) → AllByRecursion (IsSoundStretch (writing_cues c)) earlier → EachCounts c filed n ts (map (ended_of (writing_cues c)) earlier) told
      → EachEndedSpliced c filed n ts (map (ended_of (writing_cues c)) earlier) (outs_of (map (ended_of (writing_cues c)) earlier)) told
  each-spliced [] [] h e = tt
  each-spliced [] (report ∷ told) h e = e
  each-spliced (past ∷ earlier) [] h e = e
  each-spliced (past ∷ earlier) (report ∷ told) h e =
      (ended-spliced (packets_through (map (ended_of (writing_cues c)) earlier)) past h.0 report e.0, each-spliced earlier told h.1 e.1)

  each-ended : (ss : List (List Entry)) (told : List Report) → AllByRecursion (IsSoundStretch (writing_cues c)) ss → EachCounts c filed n ts (ended_in (writing_cues c) ss) told
      → EachEndedSpliced c filed n ts (ended_in (writing_cues c) ss) (outs_of (ended_in (writing_cues c) ss)) told
  each-ended [] told h e = each-spliced [] told tt e
  each-ended (past ∷ earlier) told h e = each-spliced earlier told h.1 e

-- ---- THE HEADLINE

headline_on_air : (c : Config) (filed : ℕ → Option Advertisement) → IsLibrary filed → (bs : List ℕ) → AllByRecursion (IsSoundStretch (writing_cues c)) (stretches_in (writing_cues c) bs)
    → (is_out : List (List ℕ) → Type 0) (exchanged : Option SessionEnd → List Take → List Reply → Type 0) (report : Report)
    → RanOnAir c filed bs is_out exchanged report → HeadlineOnAir c filed bs is_out exchanged report
headline_on_air c filed library bs sound is_out exchanged report ran =
    let n = length ran.rs in
    let ss = stretches_in (writing_cues c) bs in
    let ended = ended_for c bs in
    let last = last_for c bs in
    let k = setting_of c filed in
    let first = packets_through ended in
    let fed = fed_on_air c n ran.ts first last in
    let outs = outs_of c filed library n ran.ts ran.bytes ended in
    record {
      ending = ran.ending;
      ts = ran.ts;
      rs = ran.rs;
      talked = ran.talked;
      bytes = ran.bytes;
      exchanges = ran.exchanges;
      replies = ran.replies;
      network = stretches-are (writing_cues c) (reverse (packets_of bs)) ∙ reverse-reverse (packets_of bs);
      outs = outs;
      out = switched_on_air k fed ++ puts_last k (journey_of k fed);
      written = subst is_out
          (append_assoc (chained_by_ended c filed n ran.ts ended) (switched_on_air k fed) (puts_last k (journey_of k fed))
          ∙ ap (λ l. l ++ (switched_on_air k fed ++ puts_last k (journey_of k fed))) (all-out c filed library n ran.ts ran.bytes ended)) ran.written;
      told = ran.told;
      last = ran.last;
      each = each-ended c filed library n ran.ts ran.bytes ss ran.told sound ran.told_so;
      at_end = stretch-spliced c filed library n ran.ts ran.bytes first (newest ss) (newest-sound (writing_cues c) ss sound) ran.last ran.last_so;
      counted = ran.counted;
    }

pub runs_on_air_are_so : RunsOnAirAreSo
runs_on_air_are_so A library c bs is_out exchanged report bytes ran =
    headline_on_air c (held library) (held_is_library library) bs (all-sound (writing_cues c) bs bytes) is_out exchanged report ran

-- where it is Ok, and this is known there
pub known-ok : {T E X : Type 0} {P Q : T → Type 0} (r : Result T E) → ((t : T) → X → P t → Q t) → OnOk r X → IfOk r P → IfOk r Q
known-ok (Ok t) f x h = f t x h
known-ok (Err e) f x h = tt
