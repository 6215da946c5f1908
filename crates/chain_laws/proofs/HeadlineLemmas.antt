-- From what a run answers to the headline.
use Rattle.std.proofs.Common.{◌≡◌, ℕ, zero, suc, ◌*◌, ◌/◌, ◌-◌, ◌≤◌, List, [], ◌∷◌, refl, sym, ap, ◌∙◌, subst, Option, None, length, drop, reverse, min, arith}
use Rattle.std.specs.Option.{option_or}
use Rattle.std.specs.List.{AllByRecursion}
use Rattle.std.proofs.lemmas.List.{reverse-reverse, length-take, length-drop}
use Rattle.ts_packet.specs.Packets.{packets_of, last_part, packet_fault, parts}
use Rattle.ts_packet.specs.Runs.{Seen, seen_after, onto}
use Rattle.ts_packet.specs.FirstFault.{first_of, named, fault_of, fault_behind}
use Rattle.wire_fields.specs.Numbers.{AreBytes}
use Rattle.wire_fields.proofs.Cells.{AreBytes-take, AreBytes-drop}
use Rattle.psi_tables.specs.declared.config.Config.{Config}
use Rattle.program_follower.specs.declared.purpose.Purpose.{Purpose}
use Rattle.program_follower.specs.Faults.{first_fault, network_fault}
use Rattle.program_follower.specs.FirstFault.{network_test}
use Rattle.program_laws.specs.Writing.{Along}
use Rattle.cued_laws.specs.Laws.{ArePacketsOfBytes}
use Rattle.program_laws.proofs.FirstFaultLemmas.{or_none, no_test}
use Rattle.ad_library.specs.Advertisements.{Advertisement}
use Rattle.ad_library.specs.declared.library.AdLibrary.{AdLibrary}
use Rattle.ad_library.specs.Library.{held, IsLibrary}
use Rattle.ad_library.proofs.HeldLemmas.{held_is_library}
use Rattle.scte104_codec.specs.declared.reply.Reply.{Reply}
use Rattle.injector.specs.Steps.{Step, packets_in, cued}
use Rattle.splice_plans.specs.Adverts.{setting_of}
use Rattle.splice_plans.specs.Reporting.{ReportIs, report_of}
use Rattle.switch_laws.specs.Laws.{ArePackets}
use Rattle.switch_laws.proofs.StreamLemmas.{all-reversed}
use Rattle.chain_engine.specs.Automation.{Take, bytes_of}
use Rattle.chain_engine.specs.Stops.{as_run_fault, first_run_fault}
use Rattle.chain_engine.specs.Runs.{steps_of}
use Rattle.chain_engine.specs.declared.faults.RunFault.{RunFault}
use Rattle.chain_engine.specs.declared.faults.RunFault.TheVariants.{Read}
use Rattle.chain_engine.proofs.StepsLemmas.{steps_packets}
use Rattle.chain_engine.specs.declared.hearing.SessionEnd.{SessionEnd}
use Rattle.chain_engine.specs.declared.report.Report.{Report}
use Rattle.event_table.specs.Standing.{Standing}
use Rattle.splice_laws.specs.Splicing.{PlayedEvent, SliceUnit}
use Rattle.splice_plans.specs.Playing.{played}
use Rattle.chain_laws.specs.Breaks.{EndsWithPacket, accepted_by}
use Rattle.chain_laws.specs.Runs.{adverts_by, output_by, IsWholeRun}
use Rattle.chain_laws.specs.Streams.{GoesOutToAnEnd, CarriesPlacedIn}
use Rattle.chain_laws.specs.Exactly.{history_of, IsGiven, IsSpliced, RanExactly, RunsAreSo, HistoriesAreSo}
use Rattle.chain_laws.specs.Headline.{GoesOutAsSlice, CarriesBreaks, IsNetworkSpliced, Headline}
use Rattle.chain_laws.proofs.LibraryLemmas.{libraries_are_packed}
use Rattle.chain_laws.proofs.TableLemmas.{has-tables}
use Rattle.chain_laws.proofs.PmtPidLemmas.{pmt-stands}
use Rattle.chain_laws.proofs.WidthLemmas.{steps_fit}
use Rattle.chain_laws.proofs.RunLemmas.{each-all}
use Rattle.chain_laws.proofs.CarriedLemmas.{carries-placed, carries-splice, each-map}
use Rattle.chain_laws.proofs.ClockLemmas.{clocks-same}
use Rattle.chain_laws.proofs.UnchangedLemmas.{others-unchanged, unlisted-unchanged, unplayed-unchanged, breaks-counted, in-order}
use Rattle.program_follower.specs.Purposes.{writing_cues}

-- ---- the history

history-ends : (most : ℕ) (ts : List Take) (past : List (List ℕ)) → EndsWithPacket (steps_of most ts past)
history-ends most ts [] = tt
history-ends most ts (p ∷ past) = tt

-- ---- the packets of bytes

parts-long : (n : ℕ) (bs : List ℕ) → n * 188 ≤ length bs → AllByRecursion (λ (p : List ℕ). length p ≡ 188) (parts n bs)
parts-long zero bs h = tt
parts-long (suc n) bs h =
    let t = length-take 188 bs in
    let d = length-drop 188 bs in
    (t ∙ least n (length bs) h, parts-long n (drop 188 bs) (subst (λ m. n * 188 ≤ m) (sym d) (rest n (length bs) h)))
  where
    least : (n m : ℕ) → suc n * 188 ≤ m → min 188 m ≡ 188
    least n m h = omega (arith, h)

    rest : (n m : ℕ) → suc n * 188 ≤ m → n * 188 ≤ m - 188
    rest n m h = omega (arith, h)

packets-long : (bs : List ℕ) → ArePackets (packets_of bs)
packets-long bs = each-all (λ (p : List ℕ). length p ≡ 188) (packets_of bs) (parts-long (length bs / 188) bs (whole (length bs)))
  where
    whole : (m : ℕ) → m / 188 * 188 ≤ m
    whole m = omega arith

parts-bytes : (n : ℕ) (bs : List ℕ) → AreBytes bs → AllByRecursion AreBytes (parts n bs)
parts-bytes zero bs h = tt
parts-bytes (suc n) bs h = (AreBytes-take 188 bs h, parts-bytes n (drop 188 bs) (AreBytes-drop 188 bs h))

bytes-onto : (past ps : List (List ℕ)) → Along (λ p past. AreBytes p) past → AllByRecursion AreBytes ps → Along (λ p past. AreBytes p) (onto past ps)
bytes-onto past [] h k = h
bytes-onto past (p ∷ ps) h k = bytes-onto (p ∷ past) ps (k.0, h) k.1

-- ---- without fault

module _ (c : Purpose) where
  abbrev at : Seen → Option RunFault
  at s = fault_of Read (network_test as_run_fault c) s

  only_by : (past ps : List (List ℕ)) → first_of at (seen_after past ps) ≡ None → first_fault c past ≡ None → first_fault c (onto past ps) ≡ None
  only_by past [] h k = k
  only_by past (p ∷ ps) h k =
      let s : Seen = record { packet = p; past = past } in
      let both = or_none (at s) (first_of at (seen_after (p ∷ past) ps)) h in
      let here = or_none (named Read (packet_fault p)) (network_test as_run_fault c s) both.0 in
      let clean = no_test as_run_fault (network_fault c p past) here.1 in
      only_by (p ∷ past) ps both.1 (ap (λ x. option_or x (network_fault c p past)) k ∙ clean)

pub faultless : (c : Config) (bs : List ℕ) → first_run_fault (writing_cues c) bs ≡ None → first_fault (writing_cues c) (reverse (packets_of bs)) ≡ None
faultless c bs h = only_by (writing_cues c) [] (packets_of bs) (or_none (first_of (fault_of Read (network_test as_run_fault (writing_cues c))) (seen_after [] (packets_of bs))) (fault_behind Read (last_part bs)) h).0 refl

-- packets of bytes are of bytes
packets-given : (bs : List ℕ) → AreBytes bs → ArePacketsOfBytes (reverse (packets_of bs))
packets-given bs h = bytes-onto [] (packets_of bs) tt (parts-bytes (length bs / 188) bs h)

-- ---- the headline

module _ (c : Config) (filed : ℕ → Option Advertisement) (library : IsLibrary filed) (bs : List ℕ) (sound : first_run_fault (writing_cues c) bs ≡ None) (ts : List Take) (rs : List Reply) where
  abbrev steps : List Step
  steps = history_of bs ts rs

  packets-are : packets_in (history_of bs ts rs) ≡ reverse (packets_of bs)
  packets-are = steps_packets (length rs) ts (reverse (packets_of bs))

  pub whole-run : ArePacketsOfBytes (reverse (packets_of bs)) → AreBytes (bytes_of ts) → IsWholeRun c filed (history_of bs ts rs)
  whole-run network automation = record {
    run = record {
      cue_pid = (let below = c.below_null in omega (arith, below));
      not_pat = λ e. (let above = c.above_reserved in absurd (omega (arith, above, e)));
      faultless = ap (first_fault (writing_cues c)) packets-are ∙ faultless c bs sound;
      bytes = subst (Along (λ p past. AreBytes p)) (sym packets-are) network;
      requests = steps_fit c (length rs) ts (reverse (packets_of bs)) automation;
    };
    whole = history-ends (length rs) ts (reverse (packets_of bs));
    long = subst ArePackets (sym packets-are) (all-reversed (λ (p : List ℕ). length p ≡ 188) (packets_of bs) (packets-long bs));
    library = libraries_are_packed c filed steps library;
  }

  pub spliced-so : ArePacketsOfBytes (reverse (packets_of bs)) → AreBytes (bytes_of ts) → IsSpliced c filed (history_of bs ts rs)
  spliced-so network automation = let w = whole-run network automation in record {
    placed = λ pid a. carries-placed c filed steps w pid a;
    spliced = λ pid a d. carries-splice c filed steps w pid a d;
    clocks = λ pid a. clocks-same c filed steps w pid a;
    others = others-unchanged c filed steps w;
    order = in-order c filed steps w;
    tables = has-tables c filed steps w;
    pmt = λ l known. pmt-stands c filed steps w l known;
    no_program = λ none. unlisted-unchanged c filed steps w none;
    no_break = λ none. unplayed-unchanged c filed steps w none;
  }

pub runs_are_so : RunsAreSo
runs_are_so A library c bs is_out exchanged report ran =
    let filed = held library in
    let full = held_is_library library in
    let steps = history_of bs ran.ts ran.rs in
    record {
      ts = ran.ts;
      rs = ran.rs;
      serves = ran.serves;
      messages = ran.counted.messages;
      network = ap reverse (packets-are c filed full bs ran.sound ran.ts ran.rs) ∙ reverse-reverse (packets_of bs);
      written = ran.written;
      output = spliced-so c filed full bs ran.sound ran.ts ran.rs ran.bytes ran.serves.bytes;
      counted = subst (ReportIs report.switch)
          (ap (report_of (setting_of c filed)) (reverse-reverse (cued c steps)) ∙ breaks-counted c filed steps (whole-run c filed full bs ran.sound ran.ts ran.rs ran.bytes ran.serves.bytes)) ran.counted.events;
    }

-- ---- the headline, by the run exactly

any_end : (c : Config) (filed : ℕ → Option Advertisement) (steps : List Step) (pid : ℕ) (sent : PlayedEvent → List SliceUnit) (e : Standing)
    → GoesOutToAnEnd c filed steps pid sent e → GoesOutAsSlice c filed steps pid sent e
any_end c filed steps pid sent e h = record { stop = h.stop; last = h.last; goes = h.goes }

carries-breaks : (out : List (List ℕ)) (c : Config) (filed : ℕ → Option Advertisement) (steps : List Step) (pid : ℕ)
    → CarriesPlacedIn out c filed steps pid → CarriesBreaks out c filed steps pid
carries-breaks out c filed steps pid h = record {
  sent = h.sent;
  slices = each-map (any_end c filed steps pid h.sent) (played (adverts_by c filed steps) (accepted_by c steps)) h.slices;
  whole = h.whole;
  carried = h.carried;
  packets = h.packets;
  carries = h.carries;
}

network-spliced : (c : Config) (filed : ℕ → Option Advertisement) (steps : List Step) → IsSpliced c filed steps → IsNetworkSpliced (output_by c filed steps) c filed steps
network-spliced c filed steps h = record {
  placed = λ pid a. carries-breaks (output_by c filed steps) c filed steps pid (h.placed pid a);
  spliced = h.spliced;
  clocks = h.clocks;
  others = h.others;
  pat = h.tables.pat;
  tables = h.tables.tables;
  no_cues = h.tables.no_cues;
  no_program = h.no_program;
  no_break = λ none. (h.no_break none).packets;
}

pub headline_by : (c : Config) (filed : ℕ → Option Advertisement) (bs : List ℕ) (is_out : List (List ℕ) → Type 0)
    (exchanged : Option SessionEnd → List Take → List Reply → Type 0) (report : Report) → RanExactly c filed bs is_out exchanged report
    → Headline c filed bs is_out exchanged report
headline_by c filed bs is_out exchanged report h = let steps = history_of bs h.ts h.rs in record {
  ts = h.ts;
  rs = h.rs;
  out = output_by c filed steps;
  written = h.written;
  serves = h.serves;
  messages = h.messages;
  network = h.network;
  output = network-spliced c filed steps h.output;
  counted = record { played = h.counted.played; not_fitted = h.counted.not_fitted; unconditioned = h.counted.unconditioned };
}

pub histories_are_so : {A : Type 0} (library : AdLibrary A) → HistoriesAreSo (held library)
histories_are_so library c bs sound ts rs =
    let filed = held library in
    let full = held_is_library library in
    record {
      network = ap reverse (packets-are c filed full bs sound ts rs) ∙ reverse-reverse (packets_of bs);
      written = refl;
      output = λ g. spliced-so c filed full bs sound ts rs (packets-given bs g.network) g.automation;
      counted = λ g. ap (report_of (setting_of c filed)) (reverse-reverse (cued c (history_of bs ts rs)))
          ∙ breaks-counted c filed (history_of bs ts rs) (whole-run c filed full bs sound ts rs (packets-given bs g.network) g.automation);
    }
